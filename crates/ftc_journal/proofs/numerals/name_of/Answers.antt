use Rattle.std.proofs.Common.{rules}
use Rattle.ftc_journal.proofs.Parts.{two_marks}
use Rattle.ftc_journal.proofs.numerals.name_of.Goals as goal

pub returns-in-Some-split_part : goal.returns-in-Some-split_part
returns-in-Some-split_part c = search (rules, two_marks)
