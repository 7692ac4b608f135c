use Rattle.ftc_alone.proofs.Listed.{untaken_listed}
use Rattle.ftc_alone.proofs.tests.doing.begin.Goals as goal

pub begin-requires-clause-once : goal.begin-requires-clause-once
begin-requires-clause-once c =
    untaken_listed c.args.chain.now c.in_ok-jobs.jobs c.args.server c.args.packet c.in_ok-jobs.ensures
    (c.is_listed.ensures c.if-not-is_listed.false)
