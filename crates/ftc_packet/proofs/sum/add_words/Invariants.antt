use Rattle.std.proofs.Common.{◌≡◌, ◌+◌, ◌≤◌, length, sum}
use Rattle.ftc_packet.specs.Sum.{ones_complement, words}
use Rattle.ftc_packet.proofs.sum.add_words.Given as goal

abbrev pub invariant-loop-rest : goal.invariant-loop-rest
invariant-loop-rest l =
    (ones_complement (l.sum + sum (words l.rest)) ≡ ones_complement (l.fn.start + sum (words l.fn.bytes)))
    × (l.sum ≤ 65535)

abbrev pub decreases-loop-rest : goal.decreases-loop-rest
decreases-loop-rest l = length l.rest
