use Rattle.std.proofs.Common.{sym}
use Rattle.ftc_replica.proofs.Left.{left_none}
use Rattle.ftc_replica.proofs.dropping.sweep.Goals.{in-Some, in_default}
use Rattle.ftc_replica.proofs.dropping.sweep.Goals as goal

pub returns-clause-items : goal.returns-clause-items
returns-clause-items c =
    elim c.match-pruned.branch [
      | in-Some w ↦ rw (w.logs-is, w.in-Some.is) w.drop_covered.ensures.items
      | in_default w ↦ rw (w.logs-is, w.in_default.is) (sym (left_none c.args.logs.now.items))
    ]
