-- what was passed, and what is left
use Rattle.std.proofs.Common.{◌≡◌, ◌+◌, drop}
use Rattle.ftc_base.specs.Text.{blanks_length}
use Rattle.ftc_base.proofs.split.blanks_len.Given as goal

abbrev pub invariant-loop-i : goal.invariant-loop-i
invariant-loop-i l = blanks_length l.text ≡ l.i + blanks_length (drop l.i l.text)
