-- the vectors so far have their bounds
use Rattle.std.proofs.Common.{◌≡◌, ◌<◌, ◌≤◌, ℕ, length}
use Rattle.ftc_base.specs.declared.limits.TheConstants.{MOST_SERVERS}
use Rattle.ftc_vector.specs.Vector.{IsVector}
use Rattle.ftc_vector.specs.Commits.{vector_of}
use Rattle.ftc_message.proofs.commits_bytes.are_commits.Given as goal

abbrev pub invariant-loop-place : goal.invariant-loop-place
invariant-loop-place l = record {
  size : 1 ≤ l.place → length l.commits ≡ MOST_SERVERS;
  each : (group : ℕ) → group < l.place → IsVector (vector_of l.commits group);
}
