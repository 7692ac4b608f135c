use Rattle.std.proofs.Common.{◌∙◌, None, inl, inr, refl, arith}
use Rattle.std.proofs.lemmas.Bool.{cases_lt}
use Rattle.ftc_vector.proofs.Partitions.{length-by_partition, get_or-by_partition, by_partition-from}
use Rattle.ftc_vector.proofs.marks.need_of.Goals as goal

pub loop-partition-init : goal.loop-partition-init
loop-partition-init c = record {
  size = rw c.new-marks.ensures (length-by_partition _);
  below = λ k under. absurd (omega (arith, under));
  rest = λ k _ within. rw c.new-marks.ensures (get_or-by_partition _ k None within);
}

pub returns : goal.returns
returns c =
    by_partition-from _ c.loop-partition.marks None c.loop-partition.invariant.size
    (λ k within.
    elim (cases_lt k c.end-partition-end.result) [
      | inl before ↦ c.loop-partition.invariant.below k (omega (arith, before))
      | inr behind ↦
          c.loop-partition.invariant.rest k (omega (arith, behind)) within
          ∙ rw (c.end-partition-end.ensures.same.beyond k behind) refl
    ])
