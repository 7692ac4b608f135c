use Rattle.std.proofs.Math.Logic.{∥∥₁_map}
use Rattle.ftc_base.proofs.Results.{on_ok_map, on_err_map}
use Rattle.ftc_alone.proofs.PlayedParts.{played_after, some_after}
use Rattle.ftc_alone.proofs.playing.play.Goals as goal

pub returns-clause-ok : goal.returns-clause-ok
returns-clause-ok c =
    on_ok_map c.play_idle.result _ _ (λ played. ∥∥₁_map played (played_after c.args.schedule.now.items c.args.chain.now
    c.quit_all.new.chain c.play_idle.new.chain c.quit_all.ensures.rest)) c.play_idle.ensures.ok

pub returns-clause-err : goal.returns-clause-err
returns-clause-err c =
    on_err_map c.play_idle.result _ _ (λ some. ∥∥₁_map some (some_after c.args.schedule.now.items c.args.chain.now
    c.quit_all.new.chain c.play_idle.new.chain c.quit_all.ensures.rest)) c.play_idle.ensures.err
