-- no packet so far is due
use Rattle.ftc_edge.specs.Known.{AreNotDue}
use Rattle.ftc_edge.proofs.looking.place_due_in.Given as goal

abbrev pub invariant-loop-place : goal.invariant-loop-place
invariant-loop-place l = AreNotDue l.commits l.held.items l.from l.place
