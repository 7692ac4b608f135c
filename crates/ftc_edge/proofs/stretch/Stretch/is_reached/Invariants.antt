-- no number of the groups so far is reached
use Rattle.std.proofs.Common.{◌<◌, ℕ}
use Rattle.ftc_vector.specs.Commits.{vector_of}
use Rattle.ftc_edge.specs.Known.{IsBelowMarks, marks_of_group}
use Rattle.ftc_edge.proofs.stretch.Stretch.is_reached.Given as goal

abbrev pub invariant-loop-group : goal.invariant-loop-group
invariant-loop-group l =
    (group : ℕ) → group < l.group → IsBelowMarks (vector_of l.commits group) (marks_of_group l.self.least.items group)
