-- How the numbers of a vector stand to those of a log, of a need and of another vector.
use Rattle.std.specs.Prelude.{◌≡◌, ◌<◌, ◌≤◌, ◌==◌, ℕ, Bool, true, false, nat_le, List, Option, Some, None}
use Rattle.std.specs.Prelude.{if◌then◌else◌}
use Rattle.std.specs.List.{list_all, range_with_len}
use Rattle.ftc_base.specs.Sets.{has}
use Rattle.ftc_base.specs.declared.limits.TheConstants.{MOST_PARTITIONS}
use Rattle.ftc_vector.specs.Vector.{number_at, mark_at}

-- a log that carries the numbers before may be applied to the vector: the vector has the carried number in each
-- changed partition, and at least the carried one in each other partition that the log marks
pub record IsLogReady (vector : List ℕ) (before : List (Option ℕ)) (changed : ℕ) : Type 0 where
  pub changed_equal : (partition carried : ℕ) → partition < MOST_PARTITIONS → mark_at before partition ≡ Some carried →
      has changed partition ≡ true → number_at vector partition ≡ carried
  pub others_reached : (partition carried : ℕ) → partition < MOST_PARTITIONS → mark_at before partition ≡ Some carried →
      has changed partition ≡ false → carried ≤ number_at vector partition

-- the vector has reached the need in each partition that the need marks
pub record IsCovered (vector : List ℕ) (need : List (Option ℕ)) : Type 0 where
  pub reached : (partition least : ℕ) → partition < MOST_PARTITIONS → mark_at need partition ≡ Some least →
      least ≤ number_at vector partition

-- no number of the one is greater than that of the other
pub record IsBelow (one other : List ℕ) : Type 0 where
  pub each : (partition : ℕ) → partition < MOST_PARTITIONS → number_at one partition ≤ number_at other partition

-- The same two as tests that compute.

-- a log that carries this number may be applied to a vector with that one
abbrev pub allows : ℕ → Option ℕ → Bool → Bool
allows number None changed = true
allows number (Some carried) changed = if changed then number == carried else nat_le carried number

-- the log may be applied to the vector
unfoldable pub is_log_ready : List ℕ → List (Option ℕ) → ℕ → Bool
is_log_ready vector before changed =
    list_all (λ partition. allows (number_at vector partition) (mark_at before partition) (has changed partition))
    (range_with_len 0 MOST_PARTITIONS)

-- the number has reached what is needed, where something is
abbrev pub reaches : ℕ → Option ℕ → Bool
reaches number None = true
reaches number (Some least) = nat_le least number

-- the vector has reached the need
unfoldable pub covers : List ℕ → List (Option ℕ) → Bool
covers vector need =
    list_all (λ partition. reaches (number_at vector partition) (mark_at need partition))
    (range_with_len 0 MOST_PARTITIONS)
