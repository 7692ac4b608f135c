-- Lists one behind another.
use Rattle.std.proofs.Common.{◌≡◌, ◌≢◌, ◌++◌, ◌⊎◌, List, [], ◌∷◌, inl, inr, refl, sym}
use Rattle.std.specs.List.{AllByRecursion}
use Rattle.ftc_base.proofs.EachOf.{all-append}
use Rattle.ftc_serial.specs.Words.{AnyOf, EachLater}

not_among : {A : Type 0} (item : A) (items : List A) → (AnyOf (λ (other : A). other ≡ item) items → ⊥) →
    AllByRecursion (λ (other : A). item ≢ other) items
not_among item [] isnt = tt
not_among item (first ∷ items) isnt =
    ((λ same. isnt (inl (sym same))), not_among item items (λ later. isnt (inr later)))

-- two lists without an item in common
pub once_both : {A : Type 0} (one other : List A) → EachLater (λ (x y : A). x ≢ y) one →
    EachLater (λ (x y : A). x ≢ y) other →
    ((item : A) → AnyOf (λ (x : A). x ≡ item) one → AnyOf (λ (x : A). x ≡ item) other → ⊥) →
    EachLater (λ (x y : A). x ≢ y) (one ++ other)
once_both [] other first second apart = second
once_both {A} (item ∷ one) other first second apart = (
  all-append (λ (x : A). item ≢ x) one other first.0 (not_among item other (apart item (inl refl))),
  once_both one other first.1 second (λ x is. apart x (inr is)),
)
