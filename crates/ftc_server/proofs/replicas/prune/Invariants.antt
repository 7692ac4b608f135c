-- the replicas of the groups below the number are pruned_by, and the others are as they were
use Rattle.std.proofs.Common.{◌≡◌, ◌<◌, ◌≤◌, ℕ, length}
use Rattle.std.specs.Prelude.{option_map}
use Rattle.ftc_vector.specs.Commits.{vector_of}
use Rattle.ftc_replica.specs.Held.{pruned_by}
use Rattle.ftc_server.specs.Replicas.{replica_at}
use Rattle.ftc_server.proofs.replicas.prune.Given as goal

abbrev pub invariant-loop-number : goal.invariant-loop-number
invariant-loop-number l = record {
  size : length l.replicas.items ≡ length l.initial.replicas.items;
  below : (group : ℕ) → group < l.number →
      replica_at l.replicas.items group
      ≡ option_map (pruned_by (vector_of l.known group)) (replica_at l.initial.replicas.items group);
  rest : (group : ℕ) → l.number ≤ group → replica_at l.replicas.items group ≡ replica_at l.initial.replicas.items group;
}
