-- the needs from there on are known
use Rattle.std.proofs.Common.{◌≡◌, ◌≤◌, true, length, drop}
use Rattle.std.specs.List.{list_all}
use Rattle.ftc_edge.specs.Due.{is_known}
use Rattle.ftc_edge.proofs.lack.lack_of.Given as goal

abbrev pub invariant-loop-place : goal.invariant-loop-place
invariant-loop-place l = record {
  within : l.place ≤ length l.needs;
  known : list_all (is_known l.commits) (drop l.place l.needs) ≡ true;
}

abbrev pub decreases-loop-place : goal.decreases-loop-place
decreases-loop-place l = l.place
