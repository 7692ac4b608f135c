-- what is held stands in front of what is left
use Rattle.std.proofs.Common.{◌≡◌, drop}
use Rattle.ftc_journal.specs.Reading.{undone_in}
use Rattle.ftc_journal.proofs.Joining.{joined}
use Rattle.ftc_journal.proofs.bounds.undone_in.Given as goal

abbrev pub invariant-loop-name : goal.invariant-loop-name
invariant-loop-name l = joined l.undone (undone_in l.version (drop l.name-index l.names)) ≡ undone_in l.version l.names
