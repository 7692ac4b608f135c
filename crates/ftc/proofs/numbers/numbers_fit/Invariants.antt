use Rattle.std.proofs.Common.{take}
use Rattle.std.specs.List.{AllByRecursion}
use Rattle.ftc_journal.specs.declared.form.Version.TheVariants as version
use Rattle.ftc_journal.specs.Spelling.{IsEvent}
use Rattle.ftc.proofs.numbers.numbers_fit.Given as goal

-- the events so far fit
abbrev pub invariant-loop-event : goal.invariant-loop-event
invariant-loop-event l = AllByRecursion (IsEvent version.Second) (take l.event-index l.event-items)
