-- Words that the definitions share.
use Rattle.std.specs.Prelude.{ℕ, zero, suc, ◌⊎◌, List, [], ◌∷◌, ◌++◌}
use Rattle.std.specs.List.{AllByRecursion}
pub use Rattle.ftc_base.specs.Reading.{with_at}

-- the lists that the numbers below a count give, one after another
abbrev pub each_below : {A : Type 0} → (ℕ → List A) → ℕ → List A
each_below list zero = []
each_below list (suc count) = each_below list count ++ list count

-- some item is such
abbrev pub AnyOf : {A : Type 0} → (A → Type 0) → List A → Type 0
AnyOf IsSuch [] = ⊥
AnyOf IsSuch (item ∷ items) = IsSuch item ⊎ AnyOf IsSuch items

-- the relation holds of each item and each later one
abbrev pub EachLater : {A : Type 0} → (A → A → Type 0) → List A → Type 0
EachLater Relates [] = Unit {0}
EachLater Relates (item ∷ items) = AllByRecursion (Relates item) items × EachLater Relates items
