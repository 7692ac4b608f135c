-- Looking through places that have items or none.
use Rattle.std.proofs.Common.{◌≡◌, ℕ, zero, suc, ◌<◌, ◌≤◌, length, Bool, false, List, [], ◌∷◌, drop, Option, Some, None}
use Rattle.std.proofs.Common.{refl, arith}
use Rattle.std.specs.List.{list_any}
use Rattle.ftc_machine.specs.Slots.{slot_at, has_such}

-- the places at the front that have nothing may be passed over
pub any_live : {A : Type 0} → (test : A → Bool) (slots : List (Option A)) (first : ℕ) →
    ((place : ℕ) → place < first → slot_at slots place ≡ None)
    → list_any (has_such test) (drop first slots) ≡ list_any (has_such test) slots
any_live test slots zero nothing = refl
any_live test [] (suc first) nothing = refl
any_live test (None ∷ slots) (suc first) nothing =
    any_live test slots first (λ place below. nothing (suc place) (omega arith))
any_live test (Some item ∷ slots) (suc first) nothing =
    absurd (let wrong : Some item ≡ None = nothing 0 (omega arith) in cc)

pub nothing_live : {A : Type 0} → (test : A → Bool) (slots : List (Option A)) (first : ℕ) →
    ((place : ℕ) → place < first → slot_at slots place ≡ None)
    → length slots ≤ first → false ≡ list_any (has_such test) slots
nothing_live test [] first nothing past = refl
nothing_live test (slot ∷ slots) zero nothing past = absurd (omega arith)
nothing_live test (None ∷ slots) (suc first) nothing past =
    nothing_live test slots first (λ place below. nothing (suc place) (omega arith)) (omega arith)
nothing_live test (Some item ∷ slots) (suc first) nothing past =
    absurd (let wrong : Some item ≡ None = nothing 0 (omega arith) in cc)
