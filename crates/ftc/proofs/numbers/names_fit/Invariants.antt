use Rattle.std.proofs.Common.{take}
use Rattle.std.specs.List.{AllByRecursion}
use Rattle.ftc_journal.specs.declared.form.Version.TheVariants as version
use Rattle.ftc_journal.specs.Spelling.{IsVisitName}
use Rattle.ftc.proofs.numbers.names_fit.Given as goal

-- the names so far fit
abbrev pub invariant-loop-name : goal.invariant-loop-name
invariant-loop-name l = AllByRecursion (IsVisitName version.Second) (take l.name-index l.names)
