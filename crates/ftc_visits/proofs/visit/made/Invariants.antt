-- the marks of the answers so far
use Rattle.std.proofs.Common.{◌≡◌, map, take}
use Rattle.ftc_visits.specs.Made.{mark_of}
use Rattle.ftc_visits.proofs.visit.made.Given as goal

abbrev pub invariant-loop-answer : goal.invariant-loop-answer
invariant-loop-answer l = l.needed.items ≡ map (mark_of l.partitions l.vector) (take l.answer-index l.answer-items)
