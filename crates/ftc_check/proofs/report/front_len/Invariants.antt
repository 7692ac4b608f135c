-- the lines so far stand between lines, and what is left of them without taps is known
use Rattle.std.proofs.Common.{◌≤◌, ◌-◌, length, take, drop}
use Rattle.ftc_check.specs.Taps.{IsBetweenLines, IsWithoutTaps}
use Rattle.ftc_check.proofs.report.front_len.Given as goal

abbrev pub invariant-loop-line : goal.invariant-loop-line
invariant-loop-line l = record {
  ordered : l.end ≤ l.from;
  within : l.from ≤ length l.report;
  between : IsBetweenLines (take l.from l.report) (drop l.from l.report);
  front : IsWithoutTaps (take l.from l.report) (take l.end l.report);
}

abbrev pub decreases-loop-line : goal.decreases-loop-line
decreases-loop-line l = length l.report - l.from
