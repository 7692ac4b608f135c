-- the numbers so far have been added
use Rattle.std.proofs.Common.{◌≡◌, ◌++◌, take}
use Rattle.std.specs.List.{flat_map}
use Rattle.ftc_journal.specs.Text.{spaced}
use Rattle.ftc_journal.proofs.line.append_numbers.Given as goal

abbrev pub invariant-loop-number : goal.invariant-loop-number
invariant-loop-number l = l.out ≡ (l.fn.out ++ l.fn.first) ++ flat_map spaced (take l.number-index l.numbers)
