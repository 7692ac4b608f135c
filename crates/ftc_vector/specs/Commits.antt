-- A vector for each group.
use Rattle.std.specs.Prelude.{◌≡◌, ◌<◌, ◌≤◌, ◌+◌, ◌==◌, ℕ, false, List, [], length, map, slice_index_or, slice_set}
use Rattle.std.specs.List.{range_with_len, list_all}
use Rattle.ftc_base.specs.declared.limits.TheConstants.{MOST_SERVERS}
use Rattle.ftc_vector.specs.Vector.{by_partition, merged}

-- what a function gives for each group, from group 0 on
unfoldable pub by_group : {A : Type 0} → (ℕ → A) → List A
by_group given = map given (range_with_len 0 MOST_SERVERS)

-- the vector of a group
abbrev pub vector_of : List (List ℕ) → ℕ → List ℕ
vector_of commits group = slice_index_or commits group []

-- each group's vectors are merged
abbrev pub all_merged : List (List ℕ) → List (List ℕ) → List (List ℕ)
all_merged one other = by_group (λ group. merged (vector_of one group) (vector_of other group))

-- the group's vector is merged with the given one, and the others stay
abbrev pub group_raised : List (List ℕ) → ℕ → List ℕ → List (List ℕ)
group_raised commits group vector = slice_set commits group (merged (vector_of commits group) vector)

-- the vector of a group, where those of the first groups are held and all others have 0 in each partition
abbrev pub held_of : List (List ℕ) → ℕ → List ℕ
held_of vectors group = slice_index_or vectors group (by_partition (λ _. 0))

-- the vectors of the first groups, and behind them one that has 0 in each partition
pub record AreHeld (vectors : List (List ℕ)) : Type 0 where
  pub some : 0 < length vectors
  pub few : length vectors ≤ MOST_SERVERS + 1
  pub last : (place : ℕ) → length vectors ≡ place + 1 → held_of vectors place ≡ by_partition (λ _. 0)

-- the number behind the last group whose vector has a number that isn't 0, 0 where none has
pub record IsGroupEnd (commits : List (List ℕ)) (end : ℕ) : Type 0 where
  pub within : end ≤ MOST_SERVERS
  pub beyond : (group : ℕ) → end ≤ group → group < MOST_SERVERS → vector_of commits group ≡ by_partition (λ _. 0)
  pub last : (group : ℕ) → end ≡ group + 1 → list_all (λ number. number == 0) (vector_of commits group) ≡ false
