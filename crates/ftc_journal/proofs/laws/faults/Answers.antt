use Rattle.std.proofs.Common.{refl}
use Rattle.ftc_journal.specs.Reading.{journal_of}
use Rattle.ftc_journal.proofs.Again.{no_fault}
use Rattle.ftc_journal.proofs.FirstFault.{fault_again, each_text}
use Rattle.ftc_journal.proofs.laws.faults.Goals as goal

pub returns-clause-each : goal.returns-clause-each
returns-clause-each c text = each_text text (journal_of text) refl

pub returns-clause-one : goal.returns-clause-one
returns-clause-one c text a b is other =
    let first = fault_again text a is in
    let second = fault_again text b other in
    cc

pub returns-clause-none : goal.returns-clause-none
returns-clause-none c text events fault is bad = no_fault text events fault is (fault_again text fault bad)
