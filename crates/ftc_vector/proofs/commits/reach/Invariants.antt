-- the vectors so far stand for the same, and there are no more than are asked for
use Rattle.std.proofs.Common.{◌≡◌, ◌<◌, ◌+◌, ◌-◌, ℕ, length, vec_capacity}
use Rattle.ftc_base.specs.declared.limits.TheConstants.{MOST_SERVERS}
use Rattle.ftc_vector.specs.Commits.{held_of, AreHeld}
use Rattle.ftc_vector.proofs.commits.reach.Given as goal

abbrev pub invariant-loop-vectors : goal.invariant-loop-vectors
invariant-loop-vectors l = record {
  held : AreHeld l.vectors.items;
  room : MOST_SERVERS < vec_capacity l.vectors;
  same : (other : ℕ) → held_of l.vectors.items other ≡ held_of l.initial.vectors.items other;
}

abbrev pub decreases-loop-vectors : goal.decreases-loop-vectors
decreases-loop-vectors l = l.group + 2 - length l.vectors.items
