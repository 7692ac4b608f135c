-- When two lists of vectors are told to be the same.
use Rattle.std.proofs.Common.{◌≡◌, ◌≢◌, ℕ, List, true, false, refl, ap}
use Rattle.std.specs.Prelude.{nat_eq}
use Rattle.std.specs.Cmp.Lexicographic.{pointwise}
use Rattle.std.proofs.lemmas.Slice.Eq.{slice_eq-Decides}
use Rattle.std.proofs.lemmas.Bool.Decides.{Decides-eqb}
use Rattle.std.proofs.lemmas.Bool.{false_from_ne_true}
use Rattle.ftc_vector.specs.Commits.{vector_of}

-- lists that are the same are told to be
pub told_same : (a b : List (List ℕ)) → a ≡ b → pointwise (pointwise nat_eq) a b ≡ true
told_same a b same = (slice_eq-Decides (λ one other. slice_eq-Decides Decides-eqb one other _ refl) a b _ refl).1 same

-- lists of which a group has two vectors are told to be different
pub told_other : (a b : List (List ℕ)) (group : ℕ) → pointwise nat_eq (vector_of a group) (vector_of b group) ≢ true
    → pointwise (pointwise nat_eq) a b ≡ false
told_other a b group differs =
    false_from_ne_true _ (λ told. differs ((slice_eq-Decides Decides-eqb _ _ _ refl).1
    (ap (λ (vectors : List (List ℕ)). vector_of vectors group)
    ((slice_eq-Decides (λ one other. slice_eq-Decides Decides-eqb one other _ refl) a b _ refl).0 told))))
