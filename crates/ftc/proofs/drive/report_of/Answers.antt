use Rattle.std.proofs.Common.{subst, sym, List}
use Rattle.std.proofs.lemmas.Result.{IfOk-weaker}
use Rattle.ftc_journal.specs.declared.event.Event.{Event}
use Rattle.ftc_protocol.specs.Setting.{Setting, setting_of}
use Rattle.ftc_serial.specs.Held.{serial_state}
use Rattle.ftc_serial.specs.Packets.{bytes_of_packets}
use Rattle.ftc.specs.Driven.{IsFinishedRun}
use Rattle.ftc.proofs.ReportLemmas.{report_is}
use Rattle.ftc.proofs.drive.report_of.Goals as goal

pub fates_of-requires : goal.fates_of-requires
fates_of-requires c =
    let texts = c.args.texts.now in
    let setting : Setting = setting_of texts.spec (bytes_of_packets texts.capture.packets) texts.script in
    record {
      ring = c.requires.ring;
      packets = c.requires.packets;
      finished = subst (λ (events : List Event). IsFinishedRun setting events (serial_state c.args.driven.now.serial))
          (sym c.journal.ensures.same) c.requires.finished;
    }

pub returns : goal.returns
returns c =
    let texts = c.args.texts.now in
    let setting : Setting = setting_of texts.spec (bytes_of_packets texts.capture.packets) texts.script in
    IfOk-weaker c.print.result _ _ (λ text is. report_is setting c.args.driven.now.chain.journal _ _ _ c.args.lines.now
    c.requires.finished c.requires.rules c.journal.ensures.same c.in_ok-fates.ensures text is) c.print.ensures
