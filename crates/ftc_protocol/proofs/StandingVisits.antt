-- Which visits stand, as a relation.
use Rattle.std.proofs.Common.{◌≡◌, ℕ, ◌≤◌, true, ◌↔◌}
use Rattle.ftc_protocol.specs.Setting.{Setting}
use Rattle.ftc_protocol.specs.Visits.{Visits}
use Rattle.ftc_protocol.specs.Trace.{IsSomeVisit, IsTouching, Has}
use Rattle.ftc_protocol.specs.State.{ChainState}
use Rattle.ftc_protocol.proofs.FirstLive.{IsFirst}

-- the visit and the earlier ones of its packet are had by the first live members of their groups, where they touch
-- something
abbrev pub IsStanding : Setting → ChainState → ℕ → ℕ → Type 0
IsStanding c s j p = (i k : ℕ) → i ≤ j → IsTouching s.trace i p → IsFirst c s i k →
    Has c.partitions s.trace (s.lists k) i p

-- the test is true of the visits of the trace that don't stand
abbrev pub IsFallen : Setting → ChainState → Visits → Type 0
IsFallen c s fallen = (j p : ℕ) → IsSomeVisit s.trace j p → (fallen j p ≡ true) ↔ (IsStanding c s j p → ⊥)
