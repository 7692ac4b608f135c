-- what is held stands in front of what is left
use Rattle.std.proofs.Common.{◌≡◌, length}
use Rattle.ftc_base.specs.Endpoint.{parts_of}
use Rattle.ftc_journal.specs.Reading.{names_of}
use Rattle.ftc_journal.proofs.Joining.{joined}
use Rattle.ftc_journal.proofs.numerals.names_of.Given as goal

abbrev pub invariant-loop-word : goal.invariant-loop-word
invariant-loop-word l = joined l.held (names_of (parts_of 32 l.rest)) ≡ names_of (parts_of 32 l.words)

abbrev pub decreases-loop-word : goal.decreases-loop-word
decreases-loop-word l = length l.rest
