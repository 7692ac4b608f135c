use Rattle.std.proofs.Common.{◌≡◌}
use Rattle.ftc_serial.specs.Words.{each_below}
use Rattle.ftc_network.specs.Reviving.{fetched_of}
use Rattle.ftc_network.proofs.reviving.got_all.Given as goal

abbrev pub invariant-loop-number : goal.invariant-loop-number
invariant-loop-number l = l.replicas ≡ each_below (fetched_of l.ring l.server l.previous l.following) l.number
