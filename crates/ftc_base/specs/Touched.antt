-- Which partitions a visit touches and which it changes, by what it read and what it wrote.
use Rattle.std.specs.Prelude.{ℕ, ◌==◌, Bool, List}
use Rattle.std.specs.List.{list_any}
use Rattle.ftc_base.specs.declared.ask.Answer.{Answer}
use Rattle.ftc_base.specs.declared.ask.Write.{Write}
use Rattle.ftc_base.specs.Partition.{partition_of}

-- a key that was read lies in the partition
unfoldable pub is_touched : ℕ → List Answer → ℕ → Bool
is_touched partitions answers partition = list_any (λ answer. partition == partition_of partitions answer.key) answers

-- a key that was written lies in the partition
unfoldable pub is_changed : ℕ → List Write → ℕ → Bool
is_changed partitions writes partition = list_any (λ write. partition == partition_of partitions write.key) writes
