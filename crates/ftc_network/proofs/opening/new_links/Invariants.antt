use Rattle.ftc_network.specs.Opening.{AreNewLinks}
use Rattle.ftc_network.proofs.opening.new_links.Given as goal

abbrev pub invariant-loop-number : goal.invariant-loop-number
invariant-loop-number l = AreNewLinks l.number l.links.items
