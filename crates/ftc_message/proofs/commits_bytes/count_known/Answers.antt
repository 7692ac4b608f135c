use Rattle.std.proofs.Common.{arith}
use Rattle.ftc_message.proofs.CommitLaws.{all_counted}
use Rattle.ftc_message.proofs.commits_bytes.count_known.Goals as goal

pub returns : goal.returns
returns c =
    all_counted c.args.commits.now c.loop-place.place c.args.end c.loop-place.count
    (omega (arith, c.loop-place.auto.place-end, c.loop-place-test.false)) c.of.ensures.size c.requires
    c.loop-place.invariant.count
