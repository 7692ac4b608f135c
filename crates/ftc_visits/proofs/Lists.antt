-- Facts about lists.
use Rattle.std.proofs.Common.{◌≡◌, ◌++◌, Bool, true, false, List, [], ◌∷◌, map, filter, cond, inl, inr, refl, sym, ap}
use Rattle.std.specs.List.{AllByRecursion, list_all}
use Rattle.std.proofs.lemmas.Bool.{and_parts, and_from}
use Rattle.ftc_serial.specs.Words.{AnyOf}

pub all_map : {A B : Type 0} (P : B → Type 0) (f : A → B) (xs : List A) → AllByRecursion (λ x. P (f x)) xs →
    AllByRecursion P (map f xs)
all_map P f [] all = tt
all_map P f (x ∷ xs) all = (all.0, all_map P f xs all.1)

pub all_unmap : {A B : Type 0} (P : B → Type 0) (f : A → B) (xs : List A) → AllByRecursion P (map f xs) →
    AllByRecursion (λ x. P (f x)) xs
all_unmap P f [] all = tt
all_unmap P f (x ∷ xs) all = (all.0, all_unmap P f xs all.1)

pub any_map : {A B : Type 0} (P : B → Type 0) (f : A → B) (xs : List A) → AnyOf (λ x. P (f x)) xs → AnyOf P (map f xs)
any_map P f [] any = any
any_map P f (x ∷ xs) any = elim any [ inl here ↦ inl here | inr there ↦ inr (any_map P f xs there) ]

-- an item with P has Q, where all have R
pub any_to : {A : Type 0} (P Q R : A → Type 0) → ((x : A) → P x → R x → Q x) →
    (xs : List A) → AnyOf P xs → AllByRecursion R xs → AnyOf Q xs
any_to P Q R f [] any all = any
any_to P Q R f (x ∷ xs) any all =
    elim any [ inl here ↦ inl (f x here all.0) | inr there ↦ inr (any_to P Q R f xs there all.1) ]

pub map_end : {A B : Type 0} (f : A → B) (xs : List A) (y : A) → map f (xs ++ y ∷ []) ≡ map f xs ++ f y ∷ []
map_end f [] y = refl
map_end f (x ∷ xs) y = ap (λ l. f x ∷ l) (map_end f xs y)

pub filter_map : {A B : Type 0} (test : B → Bool) (f : A → B) (xs : List A) →
    map f (filter (λ x. test (f x)) xs) ≡ filter test (map f xs)
filter_map test f [] = refl
filter_map test f (x ∷ xs) = elim (test (f x)) as
    (λ b. map f (cond b (x ∷ filter (λ y. test (f y)) xs) (filter (λ y. test (f y)) xs)) ≡ cond b
    (f x ∷ filter test (map f xs)) (filter test (map f xs))) [
      | true ↦ ap (λ l. f x ∷ l) (filter_map test f xs)
      | false ↦ filter_map test f xs
    ]

pub filter_joined : {A : Type 0} (test : A → Bool) (xs ys : List A) →
    filter test (xs ++ ys) ≡ filter test xs ++ filter test ys
filter_joined test [] ys = refl
filter_joined test (x ∷ xs) ys = elim (test x) as
    (λ b. cond b (x ∷ filter test (xs ++ ys)) (filter test (xs ++ ys)) ≡ cond b (x ∷ filter test xs)
    (filter test xs) ++ filter test ys) [
      | true ↦ ap (λ l. x ∷ l) (filter_joined test xs ys)
      | false ↦ filter_joined test xs ys
    ]

-- what a filter leaves has passed, and has what all had
pub all_filter : {A : Type 0} (test : A → Bool) (P Q : A → Type 0) → ((x : A) → test x ≡ true → P x → Q x) →
    (xs : List A) → AllByRecursion P xs → AllByRecursion Q (filter test xs)
all_filter test P Q f [] all = tt
all_filter test P Q f (x ∷ xs) all = elim (test x) as
    (λ b. test x ≡ b → AllByRecursion Q (cond b (x ∷ filter test xs) (filter test xs))) [
      | true ↦ λ is. (f x is all.0, all_filter test P Q f xs all.1)
      | false ↦ λ is. all_filter test P Q f xs all.1
    ] refl

pub all_some : {A : Type 0} (xs : List A) → AllByRecursion (λ x. Unit {0}) xs
all_some [] = tt
all_some (x ∷ xs) = (tt, all_some xs)
