-- Lists that rise by an order.
use Rattle.std.specs.Prelude.{◌≡◌, Bool, true, false, List, [], ◌∷◌, ⊤}
use Rattle.std.specs.List.{AllByRecursion}
use Rattle.std.specs.List.Sorted.{ties}

-- each item stands before all that follow it
abbrev pub Rises : {A : Type 0} → (A → A → Bool) → List A → Type 0
Rises is_before [] = ⊤
Rises is_before (item ∷ items) = AllByRecursion (λ later. is_before item later ≡ true) items × Rises is_before items

-- each of the others stands before the item or behind it
abbrev pub TiesNone : {A : Type 0} → (A → A → Bool) → A → List A → Type 0
TiesNone is_before item others = AllByRecursion (λ other. ties is_before item other ≡ false) others

-- the same of each item of the first list
abbrev pub TieNone : {A : Type 0} → (A → A → Bool) → List A → List A → Type 0
TieNone is_before items others = AllByRecursion (λ item. TiesNone is_before item others) items
