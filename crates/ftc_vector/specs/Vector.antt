-- What each partition has: a number in a vector, a number or none in marks.
use Rattle.std.specs.Prelude.{◌≡◌, ◌<◌, ◌^◌, ◌≤◌, length, ℕ, ◌+◌, max, Bool, true, List, map, Option, Some, None}
use Rattle.std.specs.Prelude.{is_some, slice_index, slice_index_or, if◌then◌else◌}
use Rattle.std.specs.List.{range_with_len}
use Rattle.ftc_base.specs.Sets.{has}
use Rattle.ftc_base.specs.declared.limits.TheConstants.{MOST_PARTITIONS}

-- what a function gives for each partition, from partition 0 on
unfoldable pub by_partition : {A : Type 0} → (ℕ → A) → List A
by_partition given = map given (range_with_len 0 MOST_PARTITIONS)

-- the number of a partition
abbrev pub number_at : List ℕ → ℕ → ℕ
number_at vector partition = slice_index vector partition

-- the number that marks give a partition, where they give it one
abbrev pub mark_at : List (Option ℕ) → ℕ → Option ℕ
mark_at marks partition = slice_index_or marks partition None

-- a number of 64 bits for each partition
pub record IsVector (vector : List ℕ) : Type 0 where
  pub size : length vector ≡ MOST_PARTITIONS
  pub bounds : (partition : ℕ) → number_at vector partition < 2 ^ 64

-- a number of 64 bits, or none, for each partition
pub record AreMarks (marks : List (Option ℕ)) : Type 0 where
  pub size : length marks ≡ MOST_PARTITIONS
  pub bounds : (partition number : ℕ) → mark_at marks partition ≡ Some number → number < 2 ^ 64

-- the number behind the last partition that has a mark, 0 where none has
pub record IsEnd (marks : List (Option ℕ)) (end : ℕ) : Type 0 where
  pub within : end ≤ MOST_PARTITIONS
  pub beyond : (partition : ℕ) → end ≤ partition → mark_at marks partition ≡ None
  pub last : (partition : ℕ) → end ≡ partition + 1 → is_some (mark_at marks partition) ≡ true

-- the greater number in each partition
abbrev pub merged : List ℕ → List ℕ → List ℕ
merged one other = by_partition (λ partition. max (number_at one partition) (number_at other partition))

-- the number of each changed partition is raised by 1
abbrev pub raised : List ℕ → ℕ → List ℕ
raised vector changed = by_partition (λ partition. if has changed partition then number_at vector partition + 1
    else number_at vector partition)

-- the numbers of the touched partitions
abbrev pub marks_of : List ℕ → ℕ → List (Option ℕ)
marks_of vector touched = by_partition (λ partition. if has touched partition then Some (number_at vector partition)
    else None)

-- what a log that carries this number needs, where it changes the partition and where it doesn't
abbrev pub need_at : Option ℕ → Bool → Option ℕ
need_at None changed = None
need_at (Some carried) changed = Some (if changed then carried + 1 else carried)

-- the need of a log that carries these numbers and changes these partitions
abbrev pub need_of : List (Option ℕ) → ℕ → List (Option ℕ)
need_of before changed = by_partition (λ partition. need_at (mark_at before partition) (has changed partition))
