-- no group so far has news
use Rattle.std.proofs.Common.{◌≢◌, ◌<◌, ℕ}
use Rattle.ftc_vector.specs.Commits.{vector_of}
use Rattle.ftc_machine.specs.Gain.{Exceeds}
use Rattle.ftc_machine.proofs.effects.gain.has_gain.Given as goal

abbrev pub invariant-loop-number : goal.invariant-loop-number
invariant-loop-number l = (k : ℕ) → k < l.number → k ≢ l.except → Exceeds (vector_of l.one k) (vector_of l.other k) → ⊥
