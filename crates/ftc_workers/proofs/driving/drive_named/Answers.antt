use Rattle.std.proofs.Common.{rules}
use Rattle.ftc_workers.proofs.Ending.{ended_at}
use Rattle.ftc_workers.proofs.driving.drive_named.Goals as goal

pub returns-clause-ended : goal.returns-clause-ended
returns-clause-ended g c =
    ended_at g.S.Sink.went g.S.Sink.broke g.met.S.Sink.goes_on g.met.S.Sink.breaks c.run_beside-all.result.result
    c.write_after-result.result c.args.sink.now _ c.write_after-result.new.sink _ (search rules)
    c.run_beside-all.ensures.ended c.write_after-result.ensures.ok
    c.write_after-result.ensures.err
