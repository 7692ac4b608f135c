use Rattle.ftc_network.specs.Opening.{AreNewServers}
use Rattle.ftc_network.proofs.opening.new_servers.Given as goal

abbrev pub invariant-loop-number : goal.invariant-loop-number
invariant-loop-number l = AreNewServers l.spec l.number l.servers.items
