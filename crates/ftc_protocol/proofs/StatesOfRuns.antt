-- What is so after each run is so of each state to which a run leads.
use Rattle.std.proofs.Common.{List, subst}
use Rattle.ftc_journal.specs.declared.event.Event.{Event}
use Rattle.ftc_protocol.specs.Setting.{Setting, IsSetting}
use Rattle.ftc_protocol.specs.State.{ChainState, opening}
use Rattle.ftc_protocol.specs.Run.{IsRun, IsRunState, state_after}
use Rattle.ftc_protocol.proofs.Complete.{IsReached, reached}
use Rattle.ftc_protocol.proofs.FewPropagates.{IsCounted, opens_counted, counted_on}

pub of_state : (P : Setting → ChainState → Type 0) → ((c : Setting) → IsSetting c → (journal : List Event)
    → IsRun c journal → P c (state_after c (opening c) journal))
    → (c : Setting) (s : ChainState) → IsRunState c s → P c s
of_state P law c s r = subst (P c) r.reaches (law c r.right r.journal r.run)

pub reached_of : (c : Setting) (s : ChainState) → IsRunState c s → IsReached c s
reached_of = of_state IsReached reached

pub counted_of : (c : Setting) (s : ChainState) → IsRunState c s → IsCounted c s
counted_of = of_state IsCounted (λ c is journal run. counted_on c is journal (opening c) (opens_counted c is) run)
