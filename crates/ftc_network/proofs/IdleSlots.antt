-- Slots that are idle, one by one or all.
use Rattle.std.proofs.Common.{◌≡◌, ◌≢◌, ◌∙◌, ◌&&◌, ◌||◌, ℕ, suc, Bool, false, true, List, [], ◌∷◌, Option, None, refl}
use Rattle.std.proofs.Common.{inl, inr, ap, length, slice_set, get_or-set_other, get_or-set_same, length-set}
use Rattle.std.specs.List.{list_all, list_any}
use Rattle.std.proofs.lemmas.Bool.{cases_eq, cases_lt}
use Rattle.std.proofs.lemmas.List.{get_or_past}
use Rattle.ftc_txn.specs.Slots.{Running, slot_at}
use Rattle.ftc_txn.proofs.Serially.{slot_set_none}

pub none_any : (test : Option Running → Bool) → test None ≡ false → (slots : List (Option Running)) →
    ((worker : ℕ) → slot_at slots worker ≡ None) → list_any test slots ≡ false
none_any test none [] idle = refl
none_any test none (slot ∷ slots) idle =
    ap (λ (b : Bool). b || list_any test slots) (ap test (idle 0) ∙ none)
    ∙ none_any test none slots (λ worker. idle (suc worker))

pub none_all : (test : Option Running → Bool) → test None ≡ true → (slots : List (Option Running)) →
    ((worker : ℕ) → slot_at slots worker ≡ None) → list_all test slots ≡ true
none_all test none [] idle = refl
none_all test none (slot ∷ slots) idle =
    ap (λ (b : Bool). b && list_all test slots) (ap test (idle 0) ∙ none)
    ∙ none_all test none slots (λ worker. idle (suc worker))

pub set_other : (slots : List (Option Running)) (worker : ℕ) (slot : Option Running) (other : ℕ) → other ≢ worker →
    slot_at (slice_set slots worker slot) other ≡ slot_at slots other
set_other slots worker slot other differs = get_or-set_other slots worker other slot None differs

-- where the others are idle and one is made idle, all are
pub all_idle : (old new : List (Option Running)) (worker : ℕ) → new ≡ slice_set old worker None →
    ((other : ℕ) → other ≢ worker → slot_at old other ≡ None) → (other : ℕ) → slot_at new other ≡ None
all_idle old new worker same idle other = ap (λ (s : List (Option Running)). slot_at s other) same
    ∙ elim (cases_eq other worker) [
      | inl this ↦ ap (slot_at (slice_set old worker None)) this ∙ slot_set_none old worker
      | inr differs ↦ set_other old worker None other differs ∙ idle other differs
    ]
