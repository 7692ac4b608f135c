use Rattle.std.proofs.Common.{arith, ⊎_elim}
use Rattle.std.proofs.lemmas.Bool.{cases_lt}
use Rattle.ftc_base.specs.declared.limits.TheConstants.{MOST_SLOTS}
use Rattle.ftc_locks.proofs.Holdings.{has-past}
use Rattle.ftc_locks.proofs.table.LockTable.free_each.Goals as goal

pub returns-clause-freed : goal.returns-clause-freed
returns-clause-freed c = λ worker is. record {
  held = λ p. ⊎_elim (λ within. c.loop-worker.invariant.freed worker p (omega (arith, within)) is)
      (λ beyond. has-past _ worker p (omega (arith, beyond))) (cases_lt worker MOST_SLOTS);
  exclusive = λ p. ⊎_elim (λ within. c.loop-worker.invariant.freed_exclusive worker p (omega (arith, within)) is)
      (λ beyond. has-past _ worker p (omega (arith, beyond))) (cases_lt worker MOST_SLOTS);
}
