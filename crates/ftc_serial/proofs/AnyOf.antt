-- Lists of which some item has a property, and lists of which each later item has one with each earlier one.
use Rattle.std.proofs.Common.{◌++◌, ◌⊎◌, List, [], ◌∷◌, map, inl, inr}
use Rattle.std.specs.List.{AllByRecursion}
use Rattle.ftc_base.proofs.EachOf.{all_push}
use Rattle.ftc_serial.specs.Words.{AnyOf, EachLater}

pub any_front : {A : Type 0} (P : A → Type 0) (xs ys : List A) → AnyOf P xs → AnyOf P (xs ++ ys)
any_front P [] ys any = absurd any
any_front P (x ∷ xs) ys any = elim any [ inl here ↦ inl here | inr there ↦ inr (any_front P xs ys there) ]

pub any_behind : {A : Type 0} (P : A → Type 0) (xs ys : List A) → AnyOf P ys → AnyOf P (xs ++ ys)
any_behind P [] ys any = any
any_behind P (x ∷ xs) ys any = inr (any_behind P xs ys any)

pub any_either : {A : Type 0} (P : A → Type 0) (xs ys : List A) → AnyOf P (xs ++ ys) → AnyOf P xs ⊎ AnyOf P ys
any_either P [] ys any = inr any
any_either P (x ∷ xs) ys (inl here) = inl (inl here)
any_either P (x ∷ xs) ys (inr there) = elim (any_either P xs ys there) [
  | inl any ↦ inl (inr any)
  | inr any ↦ inr any
]

pub any_last : {A : Type 0} (P : A → Type 0) (xs : List A) (x : A) → P x → AnyOf P (xs ++ x ∷ [])
any_last P xs x is = any_behind P xs (x ∷ []) (inl is)

pub any_unmap : {A B : Type 0} (P : B → Type 0) (f : A → B) (xs : List A) → AnyOf P (map f xs) → AnyOf (λ x. P (f x)) xs
any_unmap P f [] any = absurd any
any_unmap P f (x ∷ xs) any = elim any [ inl here ↦ inl here | inr there ↦ inr (any_unmap P f xs there) ]

pub each_push : {A : Type 0} (R : A → A → Type 0) (xs : List A) (y : A) → EachLater R xs
    → AllByRecursion (λ x. R x y) xs → EachLater R (xs ++ y ∷ [])
each_push R [] y each all = (tt, tt)
each_push R (x ∷ xs) y each all = (all_push (R x) xs y each.0 all.0, each_push R xs y each.1 all.1)
