use Rattle.std.proofs.Common.{◌≡◌}
use Rattle.ftc_serial.specs.Words.{each_below}
use Rattle.ftc_network.specs.Pulling.{news_of, is_gained, any_below}
use Rattle.ftc_network.proofs.pulling.gains_of.Given as goal

abbrev pub invariant-loop-number : goal.invariant-loop-number
invariant-loop-number l =
    (l.gains.replicas ≡ each_below (news_of l.ring l.sender l.receiver) l.number)
    × (l.gains.gained ≡ any_below (is_gained l.ring l.sender l.receiver) l.number)
