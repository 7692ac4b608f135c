-- the places before this one were emptied
use Rattle.std.proofs.Common.{◌≡◌, ℕ, ◌<◌, ◌≤◌, length, None, is_some}
use Rattle.ftc_machine.specs.LostPackets.{fate_lost}
use Rattle.ftc_machine.specs.Slots.{slot_at}
use Rattle.ftc_machine.proofs.effects.losses.lose_withheld.Given as goal

abbrev pub invariant-loop-place : goal.invariant-loop-place
invariant-loop-place l = record {
  size : length l.buffer ≡ length l.fn.buffer;
  sizes : length l.fates ≡ length l.fn.fates;
  gone : (packet : ℕ) → packet < l.place → slot_at l.buffer packet ≡ None;
  left : (packet : ℕ) → l.place ≤ packet → slot_at l.buffer packet ≡ slot_at l.fn.buffer packet;
  lost : (packet : ℕ) → packet < l.place →
      slot_at l.fates packet ≡ fate_lost (is_some (slot_at l.fn.buffer packet)) l.event (slot_at l.fn.fates packet);
  same : (packet : ℕ) → l.place ≤ packet → slot_at l.fates packet ≡ slot_at l.fn.fates packet;
}
