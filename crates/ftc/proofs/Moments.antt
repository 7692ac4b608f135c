-- What holds at every moment holds after each front of a journal that is a run.
use Rattle.std.proofs.Common.{List, subst}
use Rattle.std.proofs.Math.Logic.{∥∥₁_map}
use Rattle.ftc_journal.specs.declared.event.Event.{Event}
use Rattle.ftc_protocol.specs.Run.{IsRun}
use Rattle.ftc_protocol.specs.Setting.{Setting, IsSetting}
use Rattle.ftc.specs.Checking.{IsSoundThroughout}
use Rattle.ftc.specs.Laws.{EveryMoment}

pub sound_throughout : EveryMoment → (setting : Setting) → IsSetting setting → (journal : List Event) →
    ∥ IsRun setting journal ∥₁
    → IsSoundThroughout setting journal
sound_throughout law setting right journal run before after parts =
    ∥∥₁_map run (λ legal. law setting right before after
    (subst (λ (events : List Event). IsRun setting events) parts legal))
