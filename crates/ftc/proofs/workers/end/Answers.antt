use Rattle.std.proofs.Common.{◌≡◌, ◌∙◌, ap, sym, subst}
use Rattle.ftc_chain.specs.ChainRun.{ChainRun, setting_in}
use Rattle.ftc_protocol.specs.Drive.{IsFinish}
use Rattle.ftc_protocol.specs.Setting.{Setting}
use Rattle.ftc.proofs.DriveLemmas.{ended_is_finished}
use Rattle.ftc.proofs.workers.end.Goals as goal

pub close-requires : goal.close-requires
close-requires c =
    let run : ChainRun = c.finish-2.new.chain in
    let kept : setting_in run ≡ setting_in c.args.chain = ap setting_in c.finish-2.ensures.given in
    record {
      ring = c.requires.ring;
      packets = c.requires.packets;
      setting = kept ∙ c.requires.setting;
      finished = ended_is_finished c.finish.ensures.finished run c.args.chain.journal
          (subst (λ (of : Setting). ∥ IsFinish of c.args.chain.journal run.journal ∥₁)
          (sym kept) c.in_ok-finish.ensures.ok);
    }
