-- the lines so far have been added
use Rattle.std.proofs.Common.{◌≡◌, ◌++◌, take}
use Rattle.std.specs.List.{flat_map}
use Rattle.ftc_report.specs.Text.{tap_line}
use Rattle.ftc_report.proofs.taps.append_taps.Given as goal

abbrev pub invariant-loop-line : goal.invariant-loop-line
invariant-loop-line l = l.out ≡ l.fn.out ++ flat_map tap_line (take l.line-index l.line-items)
