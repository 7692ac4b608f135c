-- the fates of the packets so far
use Rattle.std.proofs.Common.{◌≡◌, map}
use Rattle.std.specs.List.{range_with_len}
use Rattle.ftc_machine.specs.Represents.{fate_in}
use Rattle.ftc_machine.proofs.state.MachineState.fates.Given as goal

abbrev pub invariant-loop-packet : goal.invariant-loop-packet
invariant-loop-packet l = record { fates : l.fates ≡ map (fate_in l.self.fates) (range_with_len 0 l.packet) }
