-- Writes by rising key.
use Rattle.std.specs.Prelude.{ℕ, Bool, true, ◌&&◌, List, [], ◌∷◌, Option, Some, None}
use Rattle.std.specs.Ordering.{nat_cmp, is_lt}
use Rattle.std.specs.Cmp.Lexicographic.{slice_cmp}
use Rattle.ftc_base.specs.declared.ask.Write.{Write}

-- the key is greater than the one before it
abbrev pub key_follows : Option (List ℕ) → List ℕ → Bool
key_follows None key = true
key_follows (Some last) key = is_lt (slice_cmp nat_cmp last key)

-- the keys of writes rise, behind that key
abbrev pub keys_rise : Option (List ℕ) → List Write → Bool
keys_rise last [] = true
keys_rise last (write ∷ writes) = key_follows last write.key && keys_rise (Some write.key) writes
