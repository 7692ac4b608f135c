-- the numbers so far can be raised
use Rattle.std.proofs.Common.{ℕ, ◌<◌, ◌≤◌}
use Rattle.ftc_vector.specs.Vector.{number_at}
use Rattle.ftc_server.proofs.tests.may_rise.Given as goal

abbrev pub invariant-loop-partition : goal.invariant-loop-partition
invariant-loop-partition l = (p : ℕ) → p < l.partition → number_at l.vector p ≤ 18446744073709551614
