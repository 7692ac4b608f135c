-- the replicas so far are those of the groups below the number
use Rattle.std.proofs.Common.{◌≡◌, ◌<◌, ℕ, length}
use Rattle.ftc_server.specs.Replicas.{replica_at}
use Rattle.ftc_server.specs.Steps.{empty_at}
use Rattle.ftc_server.proofs.opening.empty_replicas.Given as goal

abbrev pub invariant-loop-number : goal.invariant-loop-number
invariant-loop-number l = record {
  size : length l.replicas.items ≡ l.number;
  each : (group : ℕ) → group < l.number → replica_at l.replicas.items group ≡ empty_at l.ring l.id l.partitions group;
}
