-- the visits so far have been added
use Rattle.std.proofs.Common.{◌≡◌, ◌++◌, take}
use Rattle.std.specs.List.{flat_map}
use Rattle.ftc_journal.specs.Text.{spaced_name}
use Rattle.ftc_journal.proofs.line.append_names.Given as goal

abbrev pub invariant-loop-name : goal.invariant-loop-name
invariant-loop-name l = l.out ≡ l.fn.out ++ flat_map spaced_name (take l.name-index l.name-items)
