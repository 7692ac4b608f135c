-- A desk without a listed call stays without one.
use Rattle.std.proofs.Common.{◌≡◌, ◌≤◌, ℕ, List, subst, arith}
use Rattle.std.specs.Prelude.{Contains}

pub stays_sound : (old new : List ℕ) (before now : ℕ) → new ≡ old → before ≤ now
    → ((call : ℕ) → before ≤ call → Contains old call → ⊥) → (call : ℕ) → now ≤ call → Contains new call → ⊥
stays_sound old new before now same rises sound call later has =
    sound call (omega (arith, rises, later)) (subst (λ (listed : List ℕ). Contains listed call) same has)
