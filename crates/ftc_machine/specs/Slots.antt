-- Places that are numbered from 0, each of which has an item or none.
use Rattle.std.specs.Prelude.{ℕ, Bool, false, List, Option, Some, None, slice_index_or}

-- what a place has
abbrev pub slot_at : {A : Type 0} → List (Option A) → ℕ → Option A
slot_at slots place = slice_index_or slots place None

-- it has an item for which the test is true
abbrev pub has_such : {A : Type 0} → (A → Bool) → Option A → Bool
has_such test None = false
has_such test (Some item) = test item
