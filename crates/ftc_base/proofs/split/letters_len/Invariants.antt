-- what was passed, and what is left
use Rattle.std.proofs.Common.{◌≡◌, ◌+◌, drop}
use Rattle.ftc_base.specs.Text.{letters_length}
use Rattle.ftc_base.proofs.split.letters_len.Given as goal

abbrev pub invariant-loop-i : goal.invariant-loop-i
invariant-loop-i l = letters_length l.text ≡ l.i + letters_length (drop l.i l.text)
