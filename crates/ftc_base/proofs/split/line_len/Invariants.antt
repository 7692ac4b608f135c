-- what was passed, and what is left
use Rattle.std.proofs.Common.{◌≡◌, ◌+◌, drop}
use Rattle.ftc_base.specs.Text.{line_length}
use Rattle.ftc_base.proofs.split.line_len.Given as goal

abbrev pub invariant-loop-i : goal.invariant-loop-i
invariant-loop-i l = line_length l.text ≡ l.i + line_length (drop l.i l.text)
