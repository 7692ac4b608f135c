use Rattle.std.proofs.Common.{arith, sym, ◌∙◌, ⊎_elim}
use Rattle.std.proofs.lemmas.Bool.{cases_lt, false≢true}
use Rattle.ftc_base.specs.declared.limits.TheConstants.{MOST_SLOTS}
use Rattle.ftc_locks.proofs.Holdings.{has-past}
use Rattle.ftc_locks.proofs.table.LockTable.exclusive.Goals as goal

pub returns : goal.returns
returns c = rw (← c.self.view_is) (
  λ no. absurd (false≢true no),
  λ w.
      ⊎_elim (λ within. sym (c.loop-worker.invariant w.0 (omega (arith, within))) ∙ w.1)
      (λ beyond. sym (has-past c.self.inside.exclusive w.0 c.args.partition
      (omega (arith, beyond, c.self.invariant.0.exclusive_size))) ∙ w.1) (cases_lt w.0 MOST_SLOTS),
)
