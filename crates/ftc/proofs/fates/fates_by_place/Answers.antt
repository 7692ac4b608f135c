use Rattle.std.proofs.Common.{sym, ◌∙◌}
use Rattle.ftc_serial.specs.Held.{serial_state}
use Rattle.ftc.proofs.FateLemmas.{fate_more}
use Rattle.ftc.proofs.fates.fates_by_place.Goals as goal

pub loop-packet-preserved : goal.loop-packet-preserved
loop-packet-preserved c = record {
  fates = fate_more (serial_state c.args.serial.now).place c.loop-packet.fates c.push.new.self c.loop-packet.packet
      c.place.result
      c.in-Some.fate c.loop-packet.invariant.fates c.place.ensures (sym c.fate_at.ensures ∙ c.in-Some.is)
      c.in_ok-push-in-Some.ensures.ok;
}
