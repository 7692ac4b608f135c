use Rattle.std.proofs.Common.{sym, ◌∙◌, arith, rules, Err}
use Rattle.ftc_journal.specs.declared.event.Event.{Event}
use Rattle.ftc_journal.proofs.Parts.{begins, goes_on, refused, handed_on}
use Rattle.ftc_journal.proofs.Spelled.{accepted}
use Rattle.ftc_journal.proofs.FirstFault.{faults_found}
use Rattle.ftc_journal.proofs.reader.read.Goals as goal

pub loop-line-init : goal.loop-line-init
loop-line-init c = record {
  told = begins c.args.text.now c.in-Some.header.now c.in-Some.lines.now c.in-Some-version_of.version
      c.new-journal.result.items c.in-Some.ensures.part
      (sym c.version_of.ensures ∙ c.in-Some-version_of.is) c.new-journal.ensures;
  place = omega (arith, c.in-Some.ensures.shorter);
}

pub loop-line-preserved : goal.loop-line-preserved
loop-line-preserved c = record {
  told = rw c.in_ok-push.ensures.ok
      (goes_on c.in-Some-version_of.version c.loop-line.place c.loop-line.rest.now c.in-Some-split_part.line.now
      c.in-Some-split_part.behind.now c.loop-line.journal.items c.in_ok-event.event _ c.loop-line.invariant.told
      c.in-Some-split_part.ensures.part c.in_ok-event.ensures);
  place = omega (arith, c.in-Some-split_part.ensures.shorter);
}

pub returns-in_err-event-clause-bad : goal.returns-in_err-event-clause-bad
returns-in_err-event-clause-bad c =
    faults_found _ c.args.text.now
    (handed_on c.from_residual.result c.in_err-event.field-0.0 _ c.from_residual.ensures.1
    (refused c.in-Some-version_of.version c.loop-line.place c.loop-line.rest.now c.in-Some-split_part.line.now
    c.in-Some-split_part.behind.now c.loop-line.journal.items c.in_err-event.field-0.0 _ c.loop-line.invariant.told
    c.in-Some-split_part.ensures.part c.in_err-event.ensures))

pub returns-in_default-clause-bad : goal.returns-in_default-clause-bad
returns-in_default-clause-bad c = faults_found {A = Event} (Err c.fault_at.result) c.args.text.now (search rules)

pub returns-in_default-version_of-clause-bad : goal.returns-in_default-version_of-clause-bad
returns-in_default-version_of-clause-bad c =
    faults_found {A = Event} (Err c.fault_at-in_default-version_of.result) c.args.text.now (search rules)

pub returns-then-is_empty-clause-ok : goal.returns-then-is_empty-clause-ok
returns-then-is_empty-clause-ok c = accepted c.args.text.now _ (search rules)

pub returns-else-is_empty-clause-bad : goal.returns-else-is_empty-clause-bad
returns-else-is_empty-clause-bad c =
    faults_found {A = Event} (Err c.fault_at-else-is_empty.result) c.args.text.now (search rules)
