-- Lists that have something for each partition.
use Rattle.std.proofs.Common.{◌≡◌, ◌<◌, ℕ, List, Option, Some, None, length, get_or, sym, ◌∙◌, zero-add, inl, inr}
use Rattle.std.proofs.Common.{arith}
use Rattle.std.proofs.lemmas.Bool.{cases_lt}
use Rattle.std.proofs.lemmas.List.{get_or_past}
use Rattle.std.proofs.lemmas.List.FromFn.{length-map-range_with_len, get_or-map-range_with_len, fill_by_all}
use Rattle.ftc_base.specs.declared.limits.TheConstants.{MOST_PARTITIONS}
use Rattle.ftc_vector.specs.Vector.{by_partition, AreMarks}

pub length-by_partition : {A : Type 0} (f : ℕ → A) → length (by_partition f) ≡ MOST_PARTITIONS
unfolding by_partition
length-by_partition f = length-map-range_with_len f 0 MOST_PARTITIONS

pub get_or-by_partition : {A : Type 0} (f : ℕ → A) (partition : ℕ) (d : A) → partition < MOST_PARTITIONS →
    get_or (by_partition f) partition d ≡ f partition
unfolding by_partition
get_or-by_partition f partition d within =
    get_or-map-range_with_len f 0 MOST_PARTITIONS partition partition d within (zero-add partition)

-- a list of the right length that has at each partition what f gives
pub by_partition-from : {A : Type 0} (f : ℕ → A) (xs : List A) (d : A) → length xs ≡ MOST_PARTITIONS →
    ((k : ℕ) → k < MOST_PARTITIONS → get_or xs k d ≡ f k) → xs ≡ by_partition f
unfolding by_partition
by_partition-from f xs d long each = fill_by_all f xs MOST_PARTITIONS d long each

pub by_partition-same : {A : Type 0} (f g : ℕ → A) (d : A) → ((k : ℕ) → k < MOST_PARTITIONS → f k ≡ g k) →
    by_partition f ≡ by_partition g
by_partition-same f g d alike =
    by_partition-from g (by_partition f) d (length-by_partition f)
    (λ k within. get_or-by_partition f k d within ∙ alike k within)

-- no marks are marks
pub no_marks_are : AreMarks (by_partition (λ _. None))
no_marks_are = record {
  size = length-by_partition (λ _. None);
  bounds = λ p number is.
      elim (cases_lt p MOST_PARTITIONS) [
        | inl within ↦ let none : None ≡ Some number = sym (get_or-by_partition (λ _. None) p None within) ∙ is in
            absurd cc
        | inr past ↦ let none : None ≡ Some number =
            sym (get_or_past (by_partition (λ _. None)) p None
            (omega (arith, length-by_partition {A = Option ℕ} (λ _. None)))) ∙ is in absurd cc
      ];
}
