use Rattle.std.proofs.Common.{◌∙◌, refl, ap}
use Rattle.ftc_store.specs.Store.{written}
use Rattle.ftc_txn.specs.contracts.head.Head.{the_view}
use Rattle.ftc_txn.proofs.KeptByCalls.{commit_keeps, answers_current}
use Rattle.ftc_txn.proofs.head.Head.commit_logged.Goals as goal

pub invariant_of-self-2 : goal.invariant_of-self-2
invariant_of-self-2 c =
    let runs = rw (← c.self.view_is) at c.requires.writes in (
      c.apply.ensures.partitions ∙ c.reserve.ensures.partitions ∙ c.self.invariant.0,
      c.free_all.ensures.partitions ∙ c.self.invariant.1,
      commit_keeps (the_view c.self.inside) _ c.args.worker runs.0 c.args.writes.now.items c.partitions.ensures.valid
          c.self.invariant.2 runs.1 runs.2 refl refl
          (c.apply.ensures.content ∙ ap (written c.args.writes.now.items) c.reserve.ensures.content)
          c.free.ensures.idle
          (record {
            nothing = c.free_all.ensures.freed;
            others = c.free_all.ensures.others;
            partitions = c.free_all.ensures.partitions;
          }),
    )

pub returns-clause-ok : goal.returns-clause-ok
returns-clause-ok c = rw (← c.self.view_is) (λ log would.
    let runs = rw (← c.self.view_is) at c.requires.writes in (
      runs.0,
      runs.1,
      record {
        current = answers_current (the_view c.self.inside) c.args.worker runs.0 c.self.invariant.2 runs.1;
        content = c.apply.ensures.content ∙ ap (written c.args.writes.now.items) c.reserve.ensures.content;
        vector = c.raise.ensures;
        no_log = would.no_log runs.0 runs.1;
        logged = would.logged runs.0 runs.1;
        locks = record {
          nothing = c.free_all.ensures.freed;
          others = c.free_all.ensures.others;
          partitions = c.free_all.ensures.partitions;
        };
        slots = c.free.ensures.idle;
        rest = refl;
      },
    ))
