-- Merging, as a least upper bound.
use Rattle.std.proofs.Common.{◌≡◌, ◌<◌, ℕ, List, length, max, sym, ◌∙◌, arith}
use Rattle.std.proofs.lemmas.Grind.{same_number_lists}
use Rattle.std.proofs.Math.Nat.{max_comm, le-max_left, le-max_right}
use Rattle.ftc_base.specs.declared.limits.TheConstants.{MOST_PARTITIONS}
use Rattle.ftc_vector.specs.Vector.{number_at, merged}
use Rattle.ftc_vector.specs.Order.{IsBelow}
use Rattle.ftc_vector.proofs.Partitions.{get_or-by_partition, by_partition-from, by_partition-same}

pub number_at-merged : (a b : List ℕ) (p : ℕ) → p < MOST_PARTITIONS →
    number_at (merged a b) p ≡ max (number_at a p) (number_at b p)
number_at-merged a b p within = get_or-by_partition _ p 0 within

pub same_numbers : (a b : List ℕ) → length a ≡ MOST_PARTITIONS → length b ≡ MOST_PARTITIONS → IsBelow a b →
    IsBelow b a → a ≡ b
same_numbers a b long other below above =
    same_number_lists a b (long ∙ sym other) (λ k within. omega (
      arith,
      below.each k (omega arith),
      above.each k (omega arith),
    ))

pub above_first : (a b : List ℕ) → IsBelow a (merged a b)
above_first a b = record {
  each = λ p within. rw (number_at-merged a b p within)
      (le-max_left (number_at a p) (number_at b p));
}

pub above_second : (a b : List ℕ) → IsBelow b (merged a b)
above_second a b = record {
  each = λ p within. rw (number_at-merged a b p within)
      (le-max_right (number_at a p) (number_at b p));
}

pub least : (a b c : List ℕ) → IsBelow a c → IsBelow b c → IsBelow (merged a b) c
least a b c first second =
    record {
      each = λ p within. omega (
        arith,
        number_at-merged a b p within,
        first.each p within,
        second.each p within,
      );
    }

pub merged_comm : (a b : List ℕ) → merged a b ≡ merged b a
merged_comm a b = by_partition-same _ _ 0 (λ p within. max_comm (number_at a p) (number_at b p))

pub merged_assoc : (a b c : List ℕ) → merged (merged a b) c ≡ merged a (merged b c)
merged_assoc a b c =
    by_partition-same _ _ 0 (λ p within. omega (arith, number_at-merged a b p within, number_at-merged b c p within))

pub merged_same : (a : List ℕ) → length a ≡ MOST_PARTITIONS → merged a a ≡ a
merged_same a long = sym (by_partition-from _ a 0 long (λ p within. omega arith))
