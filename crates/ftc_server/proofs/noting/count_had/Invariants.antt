-- so many of the first logs are had
use Rattle.std.proofs.Common.{◌≡◌, ◌-◌, true, length}
use Rattle.ftc_server.specs.Replicas.{has_first}
use Rattle.ftc_server.proofs.noting.count_had.Given as goal

abbrev pub invariant-loop-count : goal.invariant-loop-count
invariant-loop-count l = has_first l.replicas l.count l.logs ≡ true

abbrev pub decreases-loop-count : goal.decreases-loop-count
decreases-loop-count l = length l.logs - l.count
