-- Which visits a recovery undoes, as a relation.
use Rattle.std.proofs.Common.{◌≡◌, ℕ, ◌<◌, ◌≤◌, ◌⊎◌}
use Rattle.ftc_ring.specs.Ring.{apart}
use Rattle.ftc_protocol.specs.Setting.{Setting, servers}
use Rattle.ftc_protocol.specs.Trace.{IsInTrace, IsTouching, Has}
use Rattle.ftc_protocol.specs.State.{ChainState}

-- a touching visit whose head lies strictly between live servers r and t, and which t lacks
abbrev pub IsRoot : Setting → ChainState → ℕ → ℕ → ℕ → ℕ → Type 0
IsRoot c s r t j p =
    IsTouching s.trace j p × (0 < apart (servers c) r j) × ((r ≡ t) ⊎ (apart (servers c) r j < apart (servers c) r t))
    × (Has c.partitions s.trace (s.lists t) j p → ⊥)

-- such a visit, or a later one of its packet
abbrev pub IsUndone : Setting → ChainState → ℕ → ℕ → ℕ → ℕ → Type 0
IsUndone c s r t j p = (i : ℕ) × (i ≤ j) × IsRoot c s r t i p × IsInTrace (λ outcome. Unit {0}) s.trace j p
