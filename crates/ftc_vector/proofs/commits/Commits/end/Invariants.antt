-- the groups from here on have zeros
use Rattle.std.proofs.Common.{◌≡◌, ◌+◌, ◌≤◌, ℕ, length}
use Rattle.ftc_vector.specs.Vector.{by_partition}
use Rattle.ftc_vector.specs.Commits.{held_of}
use Rattle.ftc_vector.proofs.commits.Commits.end.Given as goal

abbrev pub invariant-loop-end : goal.invariant-loop-end
invariant-loop-end l = record {
  held : l.end + 1 ≤ length l.self-inside.vectors.items;
  beyond : (group : ℕ) → l.end ≤ group → held_of l.self-inside.vectors.items group ≡ by_partition (λ _. 0);
}

abbrev pub decreases-loop-end : goal.decreases-loop-end
decreases-loop-end l = l.end
