use Rattle.ftc_network.specs.Visiting.{IsUnderWay}
use Rattle.ftc_network.proofs.visiting.visit_whole.Given as goal

abbrev pub invariant-loop : goal.invariant-loop
invariant-loop l = IsUnderWay l.fn.server l.server l.worker l.packet l.counter
