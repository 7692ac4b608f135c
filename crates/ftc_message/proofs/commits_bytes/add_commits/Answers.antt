use Rattle.std.proofs.Common.{◌++◌, arith}
use Rattle.ftc_message.specs.Spelling.{commits_bytes}
use Rattle.ftc_message.proofs.CommitLaws.{all_written}
use Rattle.ftc_message.proofs.commits_bytes.add_commits.Goals as goal

pub returns-clause-added : goal.returns-clause-added
returns-clause-added c =
    all_written c.args.commits.now c.loop-place.place c.end-end.result c.loop-place.out
    (c.args.out.now ++ commits_bytes c.args.commits.now)
    (omega (arith, c.loop-place.auto.place-end, c.loop-place-test.false))
    c.are_commits.ensures.size c.end-end.ensures c.loop-place.invariant
