-- the places before this one were looked at
use Rattle.ftc_machine.specs.RecoveryEffect.{is_dropped_kept}
use Rattle.ftc_machine.proofs.PlaceSweep.{AreSwept}
use Rattle.ftc_machine.proofs.state.MachineState.drop_messages.Given as goal

abbrev pub invariant-loop-place : goal.invariant-loop-place
invariant-loop-place l = AreSwept
    (is_dropped_kept l.self l.following) l.event l.place l.fn.messages l.messages l.fn.fates l.fates
