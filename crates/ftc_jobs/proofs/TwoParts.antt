-- What tests of two parts and of lists say.
use Rattle.std.proofs.Common.{◌≡◌, ◌<◌, ◌&&◌, ◌⊎◌, ◌==◌, ℕ, suc, zero, Bool, true, false, List, [], ◌∷◌}
use Rattle.std.proofs.Common.{length, refl, inl, inr, arith, lt-ltb}
use Rattle.std.proofs.lemmas.Bool.{and_from, and_parts, eqb-true}
use Rattle.std.specs.Prelude.{slice_index_or, nat_lt}
use Rattle.std.specs.List.{AllByRecursion, list_all}

-- one part is false
pub either : (a b : Bool) → a && b ≡ false → (b ≡ false) ⊎ (a ≡ false)
either true b is = inl is
either false b is = inr refl

pub neither : (a b : Bool) → (b ≡ false) ⊎ (a ≡ false) → a && b ≡ false
neither true b (inl isnt) = isnt
neither true b (inr isnt) = absurd cc
neither false b isnt = refl

-- ---- lists

pub each_of : {A : Type 0} (test : A → Bool) (items : List A) (other : A) → list_all test items ≡ true → (place : ℕ) →
    place < length items → test (slice_index_or items place other) ≡ true
each_of test [] other all place below = absurd (omega (arith, below))
each_of test (item ∷ items) other all zero below = (and_parts (test item) (list_all test items) all).0
each_of test (item ∷ items) other all (suc place) below =
    each_of test items other (and_parts (test item) (list_all test items) all).1 place (omega (arith, below))

pub all_of : {A : Type 0} (test : A → Bool) (items : List A) (other : A) →
    ((place : ℕ) → place < length items → test (slice_index_or items place other) ≡ true) → list_all test items ≡ true
all_of test [] other each = refl
all_of test (item ∷ items) other each = and_from (test item) (list_all test items) (each 0 (omega arith))
    (all_of test items other (λ place below. each (suc place) (omega (arith, below))))

pub none_in : {A : Type 0} (items : List A) → length items == 0 ≡ true → items ≡ []
none_in [] is = refl
none_in (item ∷ items) is = let none = eqb-true (length (item ∷ items)) 0 is in absurd (omega (arith, none))

pub length_none : {A : Type 0} (items : List A) → items ≡ [] → length items == 0 ≡ true
length_none [] is = refl
length_none (item ∷ items) is = absurd cc

pub some_in : {A : Type 0} (items : List A) → nat_lt 0 (length items) ≡ true → items ≡ [] → ⊥
some_in [] is none = absurd cc
some_in (item ∷ items) is none = absurd cc

pub length_some : {A : Type 0} (items : List A) → (items ≡ [] → ⊥) → nat_lt 0 (length items) ≡ true
length_some [] some = absurd (some refl)
length_some (item ∷ items) some = lt-ltb 0 (length (item ∷ items)) (omega arith)
