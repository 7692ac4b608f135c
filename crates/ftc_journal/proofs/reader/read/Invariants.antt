-- what is held stands in front of what is left
use Rattle.std.proofs.Common.{◌≡◌, ◌≤◌, ◌+◌, length}
use Rattle.ftc_base.specs.Endpoint.{parts_of}
use Rattle.ftc_journal.specs.Reading.{events_from, journal_of}
use Rattle.ftc_journal.proofs.Joining.{joined}
use Rattle.ftc_journal.proofs.reader.read.Given as goal

abbrev pub invariant-loop-line : goal.invariant-loop-line
invariant-loop-line l = record {
  told : joined l.journal.items (events_from l.version l.place (parts_of 10 l.rest)) ≡ journal_of l.text;
  place : l.place + length l.rest ≤ 2 + length l.text;
}

abbrev pub decreases-loop-line : goal.decreases-loop-line
decreases-loop-line l = length l.rest
