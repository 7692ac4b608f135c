use Rattle.std.proofs.Common.{List}
use Rattle.std.proofs.Math.Logic.{∥∥₁_map₂}
use Rattle.ftc_base.proofs.Results.{on_any_err, on_ok_map, on_err_map}
use Rattle.ftc_journal.specs.declared.event.Event.{Event}
use Rattle.ftc_chain.specs.ChainRun.{ChainRun, setting_in}
use Rattle.ftc_protocol.specs.Drive.{IsFinish, IsDrive}
use Rattle.ftc_alone.specs.Alone.{IsInFinish, IsInDrive}
use Rattle.ftc_alone.proofs.FinishSteps.{given_on}
use Rattle.ftc_alone.proofs.PlayedParts.{played_given, driven, in_drive, some_in_drive}
use Rattle.ftc_alone.proofs.Results.{same_run}
use Rattle.ftc_alone.proofs.playing.run.Goals as goal

pub returns-in_err-play-clause-err : goal.returns-in_err-play-clause-err
returns-in_err-play-clause-err c =
    let first : ChainRun = c.args.chain.now in let new : ChainRun = c.play.new.chain in let schedule : List Event =
    c.args.schedule.now.items in
    on_any_err c.from_residual.result (∥ IsInDrive (setting_in first) schedule new.journal ∥₁)
    (∥∥₁_map₂ c.journal.ensures.setting c.in_err-play.ensures.err
    (some_in_drive first new c.requires schedule c.drive.ensures.exists c.drive.ensures.front))

pub returns-in_err-play-clause-given : goal.returns-in_err-play-clause-given
returns-in_err-play-clause-given c =
    let first : ChainRun = c.args.chain.now in let new : ChainRun = c.play.new.chain in
    same_run new (record first { journal = new.journal; heads = new.heads }) c.in_err-play.ensures.err
    (λ some. played_given some.done first new some.played)

pub returns-clause-ok : goal.returns-clause-ok
returns-clause-ok c =
    let first : ChainRun = c.args.chain.now in let now : ChainRun = c.play.new.chain in let events : List Event =
    c.finish_idle.new.chain.journal in
    on_ok_map c.finish_idle.result (∥ IsFinish (setting_in now) now.journal events ∥₁)
    (∥ IsDrive (setting_in first) c.args.schedule.now.items events ∥₁)
    (λ finish. ∥∥₁_map₂ c.in_ok-play.ensures.ok finish (driven first now c.requires c.args.schedule.now.items events))
    c.finish_idle.ensures.ok

pub returns-clause-err : goal.returns-clause-err
returns-clause-err c =
    let first : ChainRun = c.args.chain.now in let now : ChainRun = c.play.new.chain in let events : List Event =
    c.finish_idle.new.chain.journal in
    on_err_map c.finish_idle.result (∥ IsInFinish (setting_in now) now.journal events ∥₁)
    (∥ IsInDrive (setting_in first) c.args.schedule.now.items events ∥₁)
    (λ within. ∥∥₁_map₂ c.in_ok-play.ensures.ok within (in_drive first now c.requires c.args.schedule.now.items events))
    c.finish_idle.ensures.err

pub returns-clause-given : goal.returns-clause-given
returns-clause-given c =
    let first : ChainRun = c.args.chain.now in let now : ChainRun = c.play.new.chain in let new : ChainRun =
    c.finish_idle.new.chain in
    given_on first now new (same_run now (record first {
      journal = now.journal;
      heads = now.heads;
    }) c.in_ok-play.ensures.ok
    (played_given c.args.schedule.now.items first now)) c.finish_idle.ensures.given
