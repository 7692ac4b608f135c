-- the groups before this one are merged, and the others are as they were
use Rattle.std.proofs.Common.{◌≡◌, ◌<◌, ◌≤◌, ℕ, vec_capacity}
use Rattle.ftc_base.specs.declared.limits.TheConstants.{MOST_SERVERS}
use Rattle.ftc_vector.specs.Vector.{merged}
use Rattle.ftc_vector.specs.Commits.{held_of, AreHeld}
use Rattle.ftc_vector.proofs.commits.Commits.merge.Given as goal

abbrev pub invariant-loop-group : goal.invariant-loop-group
invariant-loop-group l = record {
  held : AreHeld l.self-inside.vectors.items;
  room : MOST_SERVERS < vec_capacity l.self-inside.vectors;
  other : AreHeld l.other-inside.vectors.items;
  below : (k : ℕ) → k < l.group → held_of l.self-inside.vectors.items k
      ≡ merged (held_of l.initial.self-inside.vectors.items k) (held_of l.other-inside.vectors.items k);
  rest : (k : ℕ) → l.group ≤ k → held_of l.self-inside.vectors.items k ≡ held_of l.initial.self-inside.vectors.items k;
}
