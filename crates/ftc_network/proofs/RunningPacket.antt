-- Whether some slot runs a packet.
use Rattle.std.proofs.Common.{◌≡◌, ◌∙◌, ◌<◌, ◌||◌, ℕ, suc, Bool, false, List, [], ◌∷◌, Option, Some, None, refl, inl}
use Rattle.std.proofs.Common.{inr, ap, arith}
use Rattle.std.specs.List.{list_any}
use Rattle.std.proofs.lemmas.Bool.{cases_lt}
use Rattle.ftc_base.specs.declared.limits.TheConstants.{MOST_SLOTS}
use Rattle.ftc_server.specs.Slots.{runs_packet}
use Rattle.ftc_txn.specs.Slots.{Running, slot_at}

-- no slot runs it where each doesn't
none_runs : (packet : ℕ) (slots : List (Option Running)) →
    ((worker : ℕ) → runs_packet packet (slot_at slots worker) ≡ false) → list_any (runs_packet packet) slots ≡ false
none_runs packet [] each = refl
none_runs packet (slot ∷ slots) each =
    ap (λ (b : Bool). b || list_any (runs_packet packet) slots) (each 0)
    ∙ none_runs packet slots (λ worker. each (suc worker))

not_there : (packet : ℕ) (slot : Option Running) → ((running : Running) → slot ≡ Some running → ⊥) →
    runs_packet packet slot ≡ false
not_there packet None never = refl
not_there packet (Some running) never = absurd (never running refl)

-- only workers' slots run something, and none of them runs the packet
pub no_worker_runs : (packet : ℕ) (slots : List (Option Running)) →
    ((worker : ℕ) (running : Running) → slot_at slots worker ≡ Some running → worker < MOST_SLOTS) →
    ((worker : ℕ) → worker < MOST_SLOTS → runs_packet packet (slot_at slots worker) ≡ false) →
    list_any (runs_packet packet) slots ≡ false
no_worker_runs packet slots within each = none_runs packet slots (λ worker. elim (cases_lt worker MOST_SLOTS) [
  | inl below ↦ each worker below
  | inr past ↦ not_there packet (slot_at slots worker) (λ running runs.
      let below = within worker running runs in absurd (omega (arith, below, past)))
])
