-- What a store has: a value at each of some keys, which are ordered by their bytes.
use Rattle.std.specs.Prelude.{ℕ, List, [], ◌∷◌, Option, Some, None, refl}
use Rattle.std.specs.Ordering.{nat_cmp}
use Rattle.std.specs.Cmp.Lexicographic.{slice_cmp}
use Rattle.std.specs.FinMap.{FinMap, insert, remove, code}
use Rattle.std.specs.Coded.{Coded, code_by, coded×, coded_ℕ, coded_list}
use Rattle.ftc_base.specs.declared.ask.Write.{Write}

abbrev pub Content : Type 0
Content = FinMap (slice_cmp nat_cmp) (List ℕ)

-- the content, in how many partitions its keys lie, and how many more keys there is room for
pub record Stored : Type 0 where
  pub content : Content
  pub partitions : ℕ
  pub spare : ℕ

abbrev pub stored_code : Coded Stored
stored_code =
    code_by (Content × (ℕ × ℕ)) (coded× (code (coded_list coded_ℕ) (coded_list coded_ℕ)) (coded× coded_ℕ coded_ℕ))
    (λ stored. (stored.content, (stored.partitions, stored.spare))) (λ parts. record {
      content = parts.0;
      partitions = parts.1.0;
      spare = parts.1.1;
    }) (λ _. refl)

-- a value is put at the key, or the key is deleted
abbrev pub changed : Content → List ℕ → Option (List ℕ) → Content
changed content key None = remove content key
changed content key (Some value) = insert content key value

-- the content after these writes, the first of them first
abbrev pub written : List Write → Content → Content
written [] content = content
written (write ∷ writes) content = written writes (changed content write.key write.value)
