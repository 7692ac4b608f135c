use Rattle.ftc_txn.specs.contracts.head.Head.{the_view}
use Rattle.ftc_txn.proofs.KeptByCalls.{restarted_keeps}
use Rattle.ftc_txn.proofs.head.Head.commit.Goals as goal

pub invariant_of-self : goal.invariant_of-self
invariant_of-self c = (
  c.self.invariant.0,
  c.self.invariant.1,
  restarted_keeps (the_view c.self.inside) c.args.worker c.in-Wounded.by _ c.self.invariant.2 c.in-Wounded.ensures.turn
      c.restart.ensures,
)
