use Rattle.ftc_ring.proofs.ring.Ring.+first_on.Given as goal

abbrev pub decreases-first_on : goal.decreases-first_on
decreases-first_on l = l.count
