-- What holds at the start of a run and lasts through each event holds in each of its states.
use Rattle.std.proofs.Common.{List, [], ◌∷◌, subst}
use Rattle.ftc_journal.specs.declared.event.Event.{Event}
use Rattle.ftc_protocol.specs.Setting.{Setting}
use Rattle.ftc_protocol.specs.State.{ChainState, opening}
use Rattle.ftc_protocol.specs.Legal.{MayHappen}
use Rattle.ftc_protocol.specs.Next.{next}
use Rattle.ftc_protocol.specs.Run.{AreLegal, IsRunState, state_after}

module _ (setting : Setting) (P : ChainState → Type 0)
    (lasts : (state : ChainState) (happens : Event) → P state → MayHappen setting state happens →
    P (next setting state happens)) where
  after_all : (journal : List Event) (state : ChainState) → AreLegal setting state journal → P state →
      P (state_after setting state journal)
  after_all [] state legal holds = holds
  after_all (first ∷ journal) state legal holds =
      after_all journal (next setting state first) legal.1 (lasts state first holds legal.0.0)

  pub in_each_state : (state : ChainState) → IsRunState setting state → P (opening setting) → P state
  in_each_state state run opens = subst P run.reaches (after_all run.journal (opening setting) run.run opens)
