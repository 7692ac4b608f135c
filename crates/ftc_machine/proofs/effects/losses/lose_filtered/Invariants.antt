-- the packets that the visits before this one dropped are lost
use Rattle.std.proofs.Common.{◌≡◌, ℕ, if◌then◌else◌, length, take}
use Rattle.ftc_protocol.specs.declared.fate.Fate.TheVariants.{Lost}
use Rattle.ftc_machine.specs.Represents.{fate_in}
use Rattle.ftc_protocol.specs.Next.{is_undone_drop}
use Rattle.ftc_machine.proofs.effects.losses.lose_filtered.Given as goal

abbrev pub invariant-loop-name : goal.invariant-loop-name
invariant-loop-name l = record {
  size : length l.fates ≡ length l.fn.fates;
  lost : (packet : ℕ) → fate_in l.fates packet
      ≡ (if is_undone_drop (take l.name-index l.undone) packet (fate_in l.fn.fates packet) then Lost l.event
      else fate_in l.fn.fates packet);
}
