-- A pair of a store, as an entry of the finite map.
use Rattle.std.specs.Prelude.{ℕ, List}
use Rattle.ftc_store.specs.declared.pairs.Pair.{Pair}

abbrev pub pair_of : List ℕ × List ℕ → Pair
pair_of entry = record { key = entry.0; value = entry.1 }

abbrev pub key_value : Pair → List ℕ × List ℕ
key_value pair = (pair.key, pair.value)
