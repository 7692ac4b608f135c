use Rattle.std.proofs.Common.{◌≡◌, ◌∙◌, ap, sym, subst, List}
use Rattle.std.proofs.lemmas.Result.{IfOk-weaker}
use Rattle.ftc_journal.specs.declared.event.Event.{Event}
use Rattle.ftc_chain.specs.ChainRun.{ChainRun, setting_in}
use Rattle.ftc_protocol.specs.Drive.{IsDrive}
use Rattle.ftc_protocol.specs.Setting.{Setting, setting_of}
use Rattle.ftc_serial.specs.Packets.{bytes_of_packets}
use Rattle.ftc.proofs.DriveLemmas.{driven_is_finished}
use Rattle.ftc.proofs.drive.drive.Goals as goal

pub close-requires : goal.close-requires
close-requires c =
    let run : ChainRun = c.run.new.chain in
    let kept : setting_in run ≡ setting_in c.in_ok-chain.chain = ap setting_in c.run.ensures.given in
    record {
      ring = c.requires.ring;
      packets = c.requires.packets;
      setting = kept ∙ ap setting_in c.in_ok-chain.ensures.new;
      finished = driven_is_finished c.drive.ensures.run run c.args.texts.now.schedule.items
          (subst (λ (of : Setting). ∥ IsDrive of c.args.texts.now.schedule.items run.journal ∥₁)
          (sym kept) c.in_ok-run.ensures.ok);
    }

pub returns-clause-chosen : goal.returns-clause-chosen
returns-clause-chosen c =
    let texts = c.args.texts.now in
    let setting : Setting = setting_of texts.spec (bytes_of_packets texts.capture.packets) texts.script in
    let run : ChainRun = c.run.new.chain in
    let chosen : ∥ IsDrive setting texts.schedule.items run.journal ∥₁ =
    subst (λ (of : Setting). ∥ IsDrive of texts.schedule.items run.journal ∥₁)
    (ap setting_in c.in_ok-chain.ensures.new) c.in_ok-run.ensures.ok in
    IfOk-weaker c.close.result _ _ (λ driven same.
    subst (λ (events : List Event). ∥ IsDrive setting texts.schedule.items events ∥₁)
    (sym same) chosen) c.close.ensures.journal
