use Rattle.std.proofs.Common.{arith, sym, ◌∙◌, ⊎_elim}
use Rattle.std.proofs.lemmas.Bool.{cases_lt, false≢true}
use Rattle.ftc_base.specs.declared.limits.TheConstants.{MOST_SLOTS}
use Rattle.ftc_locks.proofs.Holdings.{if_none, conflicts-past}
use Rattle.ftc_locks.proofs.table.LockTable.blocker.Goals as goal

pub returns-clause-none : goal.returns-clause-none
returns-clause-none c = if_none c.loop-other.holder _ (λ none other is.
    ⊎_elim (λ within. omega (
      arith,
      c.loop-other.invariant.none none,
      c.loop-other.invariant.lowest other (omega (arith, within)) is,
    ))
    (λ beyond. absurd (false≢true
    (sym (rw (← c.self.view_is)
    (conflicts-past (record {
      partitions = c.self.inside.partitions;
      held = c.self.inside.held;
      exclusive = c.self.inside.exclusive;
      ages =
          c.self.inside.ages;
    }) c.args.worker c.args.partition c.args.change other
    (omega (arith, beyond, c.self.invariant.0.held_size))
    (omega (arith, beyond, c.self.invariant.0.exclusive_size)))) ∙ is)))
    (cases_lt other MOST_SLOTS))
