use Rattle.std.proofs.Common.{◌∙◌, refl}
use Rattle.ftc_txn.specs.contracts.head.Head.{the_view}
use Rattle.ftc_txn.proofs.KeptByCalls.{quit_keeps}
use Rattle.ftc_txn.proofs.head.Head.quit.Goals as goal

pub invariant_of-self : goal.invariant_of-self
invariant_of-self c = (
  c.self.invariant.0,
  c.free_all.ensures.partitions ∙ c.self.invariant.1,
  quit_keeps (the_view c.self.inside) _ c.args.worker c.free.ensures.within c.self.invariant.2 (record {
    locks = record {
      nothing = c.free_all.ensures.freed;
      others = c.free_all.ensures.others;
      partitions = c.free_all.ensures.partitions;
    };
    slots = c.free.ensures.idle;
    rest = refl;
  }),
)

pub returns : goal.returns
returns c = rw (← c.self.view_is) (record {
  locks = record {
    nothing = c.free_all.ensures.freed;
    others = c.free_all.ensures.others;
    partitions = c.free_all.ensures.partitions;
  };
  slots = c.free.ensures.idle;
  rest = refl;
})
