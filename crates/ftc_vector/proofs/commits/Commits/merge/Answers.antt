use Rattle.std.proofs.Common.{◌<◌, ◌∙◌, ℕ, length, sym, inl, inr, arith}
use Rattle.std.proofs.lemmas.Bool.{cases_lt}
use Rattle.ftc_vector.specs.Vector.{IsVector}
use Rattle.ftc_vector.specs.Commits.{vector_of, held_of}
use Rattle.ftc_vector.proofs.Held.{all_merged_is, held_behind, held_is, merged_zeros}
use Rattle.ftc_vector.proofs.commits.Commits.merge.Goals as goal

pub returns : goal.returns
returns c =
    let loop = c.loop-group in
    let old = c.self.inside.vectors.items in
    let other = c.other.inside.vectors in
    let each : (group : ℕ) → group < length old → IsVector (vector_of old group) =
    rw c.as_slice.ensures.value at c.bounds.ensures in
    rw (← c.self.view_is, ← c.other.view_is)
    (all_merged_is old other.items loop.self-inside.vectors.items (λ group within.
    elim (cases_lt group loop.group) [
      | inl before ↦ loop.invariant.below group before
      | inr behind ↦ loop.invariant.rest group behind
          ∙ sym (rw (held_behind other.items group c.other.invariant.0 (omega (
            arith,
            behind,
            c.loop-group-test.false,
            loop.auto.group-end,
            c.len-group-end.ensures,
            other.ok,
          )))
          (merged_zeros (held_of old group) (held_is old group each).size))
    ]))
