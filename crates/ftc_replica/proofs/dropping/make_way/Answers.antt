use Rattle.std.proofs.Common.{◌∙◌}
use Rattle.ftc_replica.proofs.Left.{left_none}
use Rattle.ftc_replica.proofs.dropping.make_way.Goals as goal

pub returns-then-len-most-clause-items : goal.returns-then-len-most-clause-items
returns-then-len-most-clause-items c =
    rw c.sweep.ensures.pruned (left_none c.sweep.new.logs.items ∙ c.sweep.ensures.items)
