-- the vectors of the groups so far are the same
use Rattle.std.proofs.Common.{◌≡◌, ◌<◌, ℕ}
use Rattle.ftc_vector.specs.Commits.{vector_of}
use Rattle.ftc_vector.proofs.commits.CommitsPartialEq.eq.Given as goal

abbrev pub invariant-loop-number : goal.invariant-loop-number
invariant-loop-number l = (group : ℕ) → group < l.number → vector_of l.self group ≡ vector_of l.other group
