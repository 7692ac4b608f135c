use Rattle.std.proofs.Common.{◌≢◌, sym, ◌∙◌}
use Rattle.ftc_locks.specs.Locks.{HoldsNothing}
use Rattle.ftc_locks.proofs.Holdings.{conflicts-other}
use Rattle.ftc_locks.proofs.table.LockTable.acquire.Goals as goal

pub returns-in-None-clause-freed : goal.returns-in-None-clause-freed
returns-in-None-clause-freed c = λ other is.
    let apart : other ≢ c.args.worker =
    conflicts-other c.args.self.now c.args.worker c.args.partition c.args.change other
    (sym (c.in_the_way-wounded.ensures other) ∙ is) in
    let nothing : HoldsNothing c.free_each.new.self other = c.free_each.ensures.freed other is in
    record {
      held = λ p. ((c.grant-in-None.ensures.others other apart).holdings p).held ∙ nothing.held p;
      exclusive = λ p. ((c.grant-in-None.ensures.others other apart).holdings p).exclusive ∙ nothing.exclusive p;
    }
