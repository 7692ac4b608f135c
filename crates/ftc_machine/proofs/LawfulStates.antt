-- What the laws of the protocol say of each state of a run, together.
use Rattle.std.proofs.Common.{◌++◌, ℕ, List, [], sym, subst}
use Rattle.std.proofs.lemmas.List.{append-nil}
use Rattle.ftc_journal.specs.declared.event.Event.{Event}
use Rattle.ftc_journal.specs.declared.event.Event.TheVariants.{Recover}
use Rattle.ftc_journal.specs.declared.event.VisitName.{VisitName}
use Rattle.ftc_serial.specs.Trace.{names}
use Rattle.ftc_protocol.specs.Setting.{Setting, IsSetting}
use Rattle.ftc_protocol.specs.Visits.{In}
use Rattle.ftc_protocol.specs.Trace.{IsBefore}
use Rattle.ftc_protocol.specs.State.{ChainState, opening}
use Rattle.ftc_protocol.specs.Legal.{MayHappen}
use Rattle.ftc_protocol.specs.Run.{IsRun, IsRunState, state_after}
use Rattle.ftc_protocol.specs.Moment.{IsSound}
use Rattle.ftc_protocol.specs.Front.{AreFronts}
use Rattle.ftc_protocol.specs.Orderly.{IsOrderly, IsNeeding}
use Rattle.ftc_protocol.proofs.Places.{IsSerial, serial_by}
use Rattle.ftc_machine.specs.Lawful.{IsLawful, AreLawful}

pub lawful_by : ((setting : Setting) → IsSetting setting → (before after : List Event)
    → IsRun setting (before ++ after) → IsSound setting (state_after setting (opening setting) before))
    → ((setting : Setting) (state : ChainState) → IsRunState setting state → IsOrderly setting state)
    → ((setting : Setting) (state : ChainState) → IsRunState setting state → AreFronts setting state)
    → ((setting : Setting) (state : ChainState) → IsRunState setting state → IsNeeding state)
    → ((setting : Setting) (state : ChainState) (server : ℕ) (visits : List VisitName) → IsRunState setting state
    → MayHappen setting state (Recover server visits)
    → (group packet other : ℕ) → In (names visits) group packet
    → IsBefore setting.partitions state.trace group packet other → In (names visits) group other)
    → (setting : Setting) → AreLawful setting
lawful_by moment order fronts needs undone setting state run = record {
  order = order setting state run;
  fronts = fronts setting state run;
  sound = subst (IsSound setting) run.reaches (moment setting run.right run.journal []
      (subst (IsRun setting) (sym (append-nil run.journal)) run.run));
  needs = needs setting state run;
  undone = λ server visits. undone setting state server visits run;
}

-- the trace is a serial run
pub serial_in : (c : Setting) (s : ChainState) → IsLawful c s → IsSerial c s.trace
serial_in c s is = serial_by c s.trace is.order.history
