-- what the bytes so far and those to come add up to is what all add up to
use Rattle.std.proofs.Common.{◌≡◌, ◌+◌, ◌*◌, ◌≤◌, drop}
use Rattle.ftc_base.specs.Partition.{weighted_sum}
use Rattle.ftc_base.proofs.partition.partition_of.Given as goal

abbrev pub invariant-loop-byte : goal.invariant-loop-byte
invariant-loop-byte l = record {
  told : l.sum + weighted_sum (l.weight + 1) (drop l.byte-index l.byte-items) ≡ weighted_sum 1 l.key;
  weight : l.weight ≡ l.byte-index;
  small : l.sum ≤ 4080 * l.byte-index;
}
