use Rattle.std.proofs.Common.{◌≡◌, false, None, inl, inr, refl, sym, arith}
use Rattle.std.proofs.lemmas.Bool.{cases_lt}
use Rattle.ftc_base.specs.Sets.{has}
use Rattle.ftc_vector.specs.Vector.{number_at, mark_at, need_at}
use Rattle.ftc_replica.specs.Kept.{reaches}
use Rattle.ftc_replica.proofs.Needed.{covers_from, not_covered}
use Rattle.ftc_replica.proofs.coverage.covers_log.Goals as goal

pub returns-then-not-reaches : goal.returns-then-not-reaches
returns-then-not-reaches c =
    let p = c.loop-partition.partition in
    let fails : reaches (number_at c.args.vector.now p)
    (need_at (mark_at c.args.log.now.before p) (has c.args.log.now.changed p)) ≡ false = cc in
    sym (not_covered c.args.vector.now c.args.log.now.before c.args.log.now.changed p
    (omega (arith, c.loop-partition-test.true, c.end-partition-end.ensures.same.within)) fails)

pub returns : goal.returns
returns c =
    sym (covers_from c.args.vector.now c.args.log.now.before c.args.log.now.changed (λ k within.
    elim (cases_lt k c.end-partition-end.result) [
      | inl before ↦ c.loop-partition.invariant k (omega (arith, before, c.loop-partition-test.false))
      | inr behind ↦
          let none : mark_at c.args.log.now.before k ≡ None =
          rw (← c.before-2.ensures) (c.end-partition-end.ensures.same.beyond k behind) in
          rw none refl
    ]))
