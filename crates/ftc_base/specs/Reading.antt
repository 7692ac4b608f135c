-- Tests one after another, of which the first that refuses decides, and a function that is changed at one place.
use Rattle.std.specs.Prelude.{ℕ, ◌==◌, Bool, Result, Ok, Err, if◌then◌else◌}

-- what comes next reads the value of what went before
infixl 10 ◌>>=◌
abbrev pub ◌>>=◌ : {A B F : Type 0} → Result A F → (A → Result B F) → Result B F
Ok value >>= next = next value
Err fault >>= next = Err fault

-- what comes next needs no value
infixl 10 ◌>>◌
abbrev pub ◌>>◌ : {A B F : Type 0} → Result A F → Result B F → Result B F
Ok value >> next = next
Err fault >> next = Err fault

-- a test that refuses for this fault, unless it is passed
abbrev pub unless : {F : Type 0} → Bool → F → Result (Unit {0}) F
unless passed fault = if passed then Ok tt else Err fault

-- the function with another value at one place
abbrev pub with_at : {A : Type 0} → (ℕ → A) → ℕ → A → ℕ → A
with_at values place value other = if other == place then value else values other
