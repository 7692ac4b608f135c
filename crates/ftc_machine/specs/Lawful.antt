-- What the laws of the protocol say of the states of runs.
use Rattle.std.specs.Prelude.{ℕ, List}
use Rattle.ftc_journal.specs.declared.event.Event.TheVariants.{Recover}
use Rattle.ftc_journal.specs.declared.event.VisitName.{VisitName}
use Rattle.ftc_serial.specs.Trace.{names}
use Rattle.ftc_protocol.specs.Setting.{Setting}
use Rattle.ftc_protocol.specs.Visits.{In}
use Rattle.ftc_protocol.specs.Trace.{IsBefore}
use Rattle.ftc_protocol.specs.State.{ChainState}
use Rattle.ftc_protocol.specs.Legal.{MayHappen}
use Rattle.ftc_protocol.specs.Run.{IsRunState}
use Rattle.ftc_protocol.specs.Moment.{IsSound}
use Rattle.ftc_protocol.specs.Front.{AreFronts}
use Rattle.ftc_protocol.specs.Orderly.{IsOrderly, IsNeeding}

pub record IsLawful (setting : Setting) (state : ChainState) : Type 0 where
  pub order : IsOrderly setting state
  pub fronts : AreFronts setting state
  pub sound : IsSound setting state
  pub needs : IsNeeding state
  pub undone : (server : ℕ) (visits : List VisitName) → MayHappen setting state (Recover server visits) →
      (group packet other : ℕ) → In (names visits) group packet →
      IsBefore setting.partitions state.trace group packet other → In (names visits) group other

abbrev pub AreLawful : Setting → Type 0
AreLawful setting = (state : ChainState) → IsRunState setting state → IsLawful setting state
