-- the vectors so far have their bounds
use Rattle.std.proofs.Common.{◌<◌, ℕ}
use Rattle.ftc_vector.specs.Vector.{IsVector}
use Rattle.ftc_vector.specs.Commits.{vector_of}
use Rattle.ftc_vector.proofs.commits.bounds.Given as goal

abbrev pub invariant-loop-vector : goal.invariant-loop-vector
invariant-loop-vector l = (group : ℕ) → group < l.vector-index → IsVector (vector_of l.vectors group)
