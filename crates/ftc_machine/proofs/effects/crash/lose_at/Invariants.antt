-- the places before this one were looked at
use Rattle.ftc_machine.specs.declared.state.message.Message.{Message}
use Rattle.ftc_machine.specs.LostPackets.{is_kept_at}
use Rattle.ftc_machine.proofs.PlaceSweep.{AreSwept}
use Rattle.ftc_machine.proofs.effects.crash.lose_at.Given as goal

abbrev pub invariant-loop-place : goal.invariant-loop-place
invariant-loop-place l = AreSwept
    (λ (each : Message). is_kept_at l.servers l.server each.place) l.event l.place l.fn.messages l.messages l.fn.fates
    l.fates
