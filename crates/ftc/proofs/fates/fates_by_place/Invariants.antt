-- the fates of the packets so far
use Rattle.std.proofs.Common.{◌≡◌, ℕ, map}
use Rattle.std.specs.List.{range_with_len}
use Rattle.ftc_protocol.specs.declared.fate.Fate.{Fate}
use Rattle.ftc_serial.specs.Held.{serial_state}
use Rattle.ftc.specs.Settled.{AreFatesOf}
use Rattle.ftc.proofs.fates.fates_by_place.Given as goal

abbrev pub invariant-loop-packet : goal.invariant-loop-packet
invariant-loop-packet l = record {
  fates : (fate : ℕ → Fate) → AreFatesOf (serial_state l.serial).place fate →
      l.fates ≡ map fate (range_with_len 0 l.packet);
}
