-- The partition of a key.
use Rattle.std.specs.Prelude.{ℕ, ◌+◌, ◌*◌, ◌%◌, List, [], ◌∷◌}

-- each byte times its weight, which rises by one, added up
abbrev pub weighted_sum : ℕ → List ℕ → ℕ
weighted_sum weight [] = 0
weighted_sum weight (byte ∷ bytes) = weight * byte + weighted_sum (weight + 1) bytes

-- the first byte of the key counts once, the second twice, and so on
abbrev pub partition_of : ℕ → List ℕ → ℕ
partition_of partitions key = weighted_sum 1 key % partitions
