-- the lines so far have been added
use Rattle.std.proofs.Common.{◌≡◌, ◌++◌, take}
use Rattle.std.specs.List.{flat_map}
use Rattle.ftc_audit.specs.Text.{line_text}
use Rattle.ftc_audit.proofs.text.append_lines.Given as goal

abbrev pub invariant-loop-line : goal.invariant-loop-line
invariant-loop-line l = l.out ≡ l.fn.out ++ flat_map line_text (take l.line-index l.lines)
