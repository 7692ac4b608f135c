use Rattle.std.proofs.Common.{◌≡◌, true, None, inl, inr, sym, ap, not, arith}
use Rattle.std.proofs.lemmas.Bool.{cases_lt}
use Rattle.ftc_vector.specs.Order.{reaches}
use Rattle.ftc_vector.specs.Vector.{number_at, mark_at}
use Rattle.ftc_server.specs.Waiting.{is_ahead_at}
use Rattle.ftc_server.proofs.Ahead.{ahead_first, nowhere_ahead}
use Rattle.ftc_server.proofs.waiting.ahead_of.Goals as goal

pub returns-then-is_ahead_at-clause-first : goal.returns-then-is_ahead_at-clause-first
returns-then-is_ahead_at-clause-first c =
    let is : is_ahead_at c.args.replica.now.vector c.args.log.now c.loop-partition.partition ≡ true = cc in
    sym (ahead_first c.args.replica.now.vector c.args.log.now c.loop-partition.partition
    (omega (arith, c.loop-partition-test.true, c.end-partition-end.ensures.same.within)) is c.loop-partition.invariant)

pub returns-clause-first : goal.returns-clause-first
returns-clause-first c =
    let vector = c.args.replica.now.vector in
    sym (nowhere_ahead vector c.args.log.now (λ k within.
    elim (cases_lt k c.end-partition-end.result) [
      | inl before ↦ c.loop-partition.invariant k (omega (arith, before, c.loop-partition-test.false))
      | inr behind ↦
          let none : mark_at c.args.log.now.before k ≡ None =
          rw (← c.before-2.ensures) (c.end-partition-end.ensures.same.beyond k behind) in
          ap (λ mark. not (reaches (number_at vector k) mark)) none
    ]))
