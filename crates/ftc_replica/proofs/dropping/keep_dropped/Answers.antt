use Rattle.std.proofs.Common.{sym}
use Rattle.ftc_replica.proofs.Left.{missing_left}
use Rattle.ftc_replica.proofs.dropping.keep_dropped.Goals as goal

pub returns-else-not-reaches_dropped-clause-items : goal.returns-else-not-reaches_dropped-clause-items
returns-else-not-reaches_dropped-clause-items c =
    sym (missing_left c.args.pruned.now c.args.commit.now c.args.logs.now.items
    (c.reaches_dropped.ensures.0 c.if-not-reaches_dropped.false))
