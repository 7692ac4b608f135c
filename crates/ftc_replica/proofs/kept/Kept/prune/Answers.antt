use Rattle.std.proofs.Common.{◌≡◌, true, Some, length, sym, ap, arith}
use Rattle.ftc_replica.specs.Kept.{KeptLogs}
use Rattle.ftc_replica.proofs.Left.{missing_twice, left_few}
use Rattle.ftc_replica.proofs.kept.Kept.prune.Goals as goal

pub returns-else-not-is_pruned_by-clause-items : goal.returns-else-not-is_pruned_by-clause-items
returns-else-not-is_pruned_by-clause-items c =
    let is : c.is_pruned_by.result ≡ true = c.if-not-is_pruned_by.false in
    rw (← c.self.view_is, c.is_pruned_by.ensures.0 is) (sym (missing_twice c.args.commit.now c.self.inside.logs.items))

pub returns-then-not-is_pruned_by-clause-spare : goal.returns-then-not-is_pruned_by-clause-spare
returns-then-not-is_pruned_by-clause-spare c =
    let before = ap (λ (kept : KeptLogs). kept.spare) c.self.view_is in
    let items = ap (λ (kept : KeptLogs). length kept.items) c.self.view_is in
    let few = left_few c.self.inside.pruned c.self.inside.logs.items in
    let fewer = left_few (Some c.args.commit.now) c.drop_front.new.logs.items in
    omega (
      arith,
      before,
      items,
      few,
      fewer,
      c.self.inside.logs.ok,
      c.drop_front.new.logs.ok,
      c.keep_dropped.ensures.capacity,
      c.drop_front.ensures.capacity,
    )
