-- Members of lists, and lists whose numbers rise.
use Rattle.std.proofs.Common.{◌≡◌, ◌∙◌, inl, inr, refl, sym, ap, subst, ℕ, zero, suc, ◌==◌, List, [], ◌∷◌, map, length}
use Rattle.std.proofs.Common.{take, Option, Some, None, arith}
use Rattle.std.specs.Prelude.{slice_get}
use Rattle.std.specs.List.{AllByRecursion, Contains, IsDistinct, filter_map, cons_option}
use Rattle.std.specs.List.Sorted.{IsPermutation, IsNonDecreasing, IsNonDecreasingBy, IsStrictlyIncreasing}
use Rattle.std.proofs.lemmas.List.{get_or-map, length-map}
use Rattle.std.proofs.lemmas.List.Sorted.{IsPermutation-map}
use Rattle.std.proofs.lemmas.Map.Keys.{IsDistinct-IsPermutation, IsStrictlyIncreasing-from_distinct}
use Rattle.ftc_base.proofs.Numbers.{eqb-swap}
use Rattle.ftc_serial.specs.Words.{AnyOf}

pub any_of_contains : {A : Type 0} (xs : List A) (x : A) → Contains xs x → AnyOf (λ y. y ≡ x) xs
any_of_contains [] x (k, within, is) = absurd (omega (arith, within))
any_of_contains (y ∷ xs) x (zero, within, is) = inl is
any_of_contains (y ∷ xs) x (suc k, within, is) = inr (any_of_contains xs x (k, omega (arith, within), is))

pub contains_any : {A : Type 0} (xs : List A) (x : A) → AnyOf (λ y. y ≡ x) xs → Contains xs x
contains_any [] x any = absurd any
contains_any (y ∷ xs) x (inl is) = (0, omega arith, is)
contains_any (y ∷ xs) x (inr any) =
    let there = contains_any xs x any in (suc there.0, omega (arith, there.1), there.2)

pub all_contained : {A : Type 0} (P : A → Type 0) (xs : List A) → ((x : A) → Contains xs x → P x) → AllByRecursion P xs
all_contained P [] each = tt
all_contained P (x ∷ xs) each = (
  each x (0, omega arith, refl),
  all_contained P xs (λ y there. each y
      (suc there.0, omega (arith, there.1), there.2)),
)

pub any_weaker : {A : Type 0} (P Q : A → Type 0) (xs : List A) → ((x : A) → P x → Q x) → AnyOf P xs → AnyOf Q xs
any_weaker P Q [] f any = any
any_weaker P Q (x ∷ xs) f any = elim any [ inl here ↦ inl (f x here) | inr more ↦ inr (any_weaker P Q xs f more) ]

-- what a filter keeps comes from an item, and each item that it keeps is there
pub from_item : {A B : Type 0} (f : A → Option B) (xs : List A) (y : B) → AnyOf (λ z. z ≡ y) (filter_map f xs)
    → AnyOf (λ x. f x ≡ Some y) xs
from_item f [] y any = any
from_item {B = B} f (x ∷ xs) y any =
    elim (f x) as (λ (o : Option B). f x ≡ o → AnyOf (λ z. z ≡ y) (cons_option o (filter_map f xs))
    → AnyOf (λ x. f x ≡ Some y) (x ∷ xs)) [
      | None ↦ λ is more. inr (from_item f xs y more)
      | Some z ↦ λ is more. elim more [
        | inl here ↦ inl (is ∙ ap Some here)
        | inr there ↦ inr (from_item f xs y there)
      ]
    ] refl any

pub of_item : {A B : Type 0} (f : A → Option B) (xs : List A) (y : B) → AnyOf (λ x. f x ≡ Some y) xs
    → AnyOf (λ z. z ≡ y) (filter_map f xs)
of_item f [] y any = any
of_item {B = B} f (x ∷ xs) y any =
    elim (f x) as (λ (o : Option B). f x ≡ o → AnyOf (λ z. z ≡ y) (cons_option o (filter_map f xs))) [
      | None ↦ λ is. elim any [
        | inl here ↦ let none : None ≡ Some y = sym is ∙ here in absurd (cc)
        | inr more ↦ of_item f xs y more
      ]
      | Some z ↦ λ is. elim any [
        | inl here ↦ let some : Some z ≡ Some y = sym is ∙ here in inl (cc)
        | inr more ↦ inr (of_item f xs y more)
      ]
    ] refl

-- numbers of items that don't fall and are distinct rise, in whatever order the items were before
falls_nowhere : {X : Type 0} (n : X → ℕ) (xs : List X) → IsNonDecreasingBy n xs → IsNonDecreasing (map n xs)
falls_nowhere n [] rises i j d order within = absurd (omega (arith, within))
falls_nowhere n (x ∷ xs) rises i j d order within =
    let long : length (map n (x ∷ xs)) ≡ length (x ∷ xs) = length-map (x ∷ xs) n in
    rw (
      get_or-map n (x ∷ xs) i x d (omega (arith, order, within, long)),
      get_or-map n (x ∷ xs) j x d
          (omega (arith, within, long)),
    ) (rises i j x order (omega (arith, within, long)))

pub distinct_moved : {X : Type 0} (n : X → ℕ) (xs ys : List X) → IsPermutation xs ys
    → IsDistinct (λ x y. x == y) (map n xs) → IsDistinct (λ x y. x == y) (map n ys)
distinct_moved n xs ys moved distinct =
    IsDistinct-IsPermutation (λ x y. x == y) eqb-swap (map n xs) (map n ys) (IsPermutation-map n xs ys moved) distinct

pub rise : {X : Type 0} (n : X → ℕ) (xs : List X) → IsNonDecreasingBy n xs → IsDistinct (λ x y. x == y) (map n xs)
    → IsStrictlyIncreasing (map n xs)
rise n xs rises distinct = IsStrictlyIncreasing-from_distinct (map n xs) (falls_nowhere n xs rises) distinct

-- one more of the first items
pub all_more : {A B : Type 0} (P : B → Type 0) (f : A → B) (xs : List A) (k : ℕ) (x : A) → slice_get xs k ≡ Some x
    → AllByRecursion P (map f (take k xs)) → P (f x) → AllByRecursion P (map f (take (suc k) xs))
all_more P f [] k x at all is = absurd (cc)
all_more P f (y ∷ xs) zero x at all is = let same : x ≡ y = cc in (subst (λ z. P (f z)) same is, tt)
all_more P f (y ∷ xs) (suc k) x at all is = (all.0, all_more P f xs k x at all.1 is)
