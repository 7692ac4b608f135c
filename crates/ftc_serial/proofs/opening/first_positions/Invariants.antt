-- the packets so far wait
use Rattle.std.proofs.Common.{◌≡◌, take, map}
use Rattle.ftc_serial.specs.declared.position.Position.TheVariants.{Waiting}
use Rattle.ftc_serial.proofs.opening.first_positions.Given as goal

abbrev pub invariant-loop-place : goal.invariant-loop-place
invariant-loop-place l = l.positions.items ≡ map (λ packet. Waiting 0 packet.bytes) (take l.place l.packets)
