-- Which worker holds which partition, shared or exclusive, and with which age.
use Rattle.std.specs.Prelude.{◌≡◌, ◌≢◌, ◌<◌, ◌≤◌, ◌==◌, ◌&&◌, ◌||◌, not, ℕ, Bool, true, false, List, length}
use Rattle.std.specs.Prelude.{slice_index}
use Rattle.ftc_base.specs.Sets.{has}
use Rattle.ftc_base.specs.declared.limits.TheConstants.{MOST_PARTITIONS, MOST_SLOTS}

-- how many partitions there are and, for each worker from worker 0 on, the set of the partitions that it holds, the set
-- of those that it holds exclusively, and the age with which it got them
pub record Locks : Type 0 where
  pub partitions : ℕ
  pub held : List ℕ
  pub exclusive : List ℕ
  pub ages : List ℕ

-- the worker holds the partition, shared or exclusive
abbrev pub holds : Locks → ℕ → ℕ → Bool
holds locks worker partition = has (slice_index locks.held worker) partition

-- the worker holds the partition, exclusive
abbrev pub holds_exclusively : Locks → ℕ → ℕ → Bool
holds_exclusively locks worker partition = has (slice_index locks.exclusive worker) partition

-- the age with which the worker got what it holds
abbrev pub age_of : Locks → ℕ → ℕ
age_of locks worker = slice_index locks.ages worker

-- a worker's request for a partition conflicts with another's exclusive holding and, where the request is exclusive,
-- with every holding of another
abbrev pub conflicts : Locks → ℕ → ℕ → Bool → ℕ → Bool
conflicts locks worker partition change other =
    not (other == worker) && (holds_exclusively locks other partition || (change && holds locks other partition))

-- the worker has of the partition in the new table what it has of it in the old one
pub record SameHolding (old new : Locks) (worker partition : ℕ) : Type 0 where
  pub held : holds new worker partition ≡ holds old worker partition
  pub exclusive : holds_exclusively new worker partition ≡ holds_exclusively old worker partition

-- the worker has in the new table all that it has in the old one, and with the same age
pub record SameHoldings (old new : Locks) (worker : ℕ) : Type 0 where
  pub holdings : (partition : ℕ) → SameHolding old new worker partition
  pub age : age_of new worker ≡ age_of old worker

-- the worker holds no partition
pub record HoldsNothing (locks : Locks) (worker : ℕ) : Type 0 where
  pub held : (partition : ℕ) → holds locks worker partition ≡ false
  pub exclusive : (partition : ℕ) → holds_exclusively locks worker partition ≡ false

-- the holder's age is lower than that of the request that conflicts with it, and the lowest of those that conflict
pub record IsOldestInTheWay (locks : Locks) (worker age partition : ℕ) (change : Bool) (holder : ℕ) : Type 0 where
  pub in_the_way : conflicts locks worker partition change holder ≡ true
  pub older : age_of locks holder < age
  pub oldest : (other : ℕ) → conflicts locks worker partition change other ≡ true →
      age_of locks holder ≤ age_of locks other

-- every holding is of a worker and of a partition of the table, an exclusive holder is the only one, and two holders
-- have different ages
pub record IsLockTable (locks : Locks) : Type 0 where
  pub some : 1 ≤ locks.partitions
  pub within : locks.partitions ≤ MOST_PARTITIONS
  pub held_size : length locks.held ≡ MOST_SLOTS
  pub exclusive_size : length locks.exclusive ≡ MOST_SLOTS
  pub ages_size : length locks.ages ≡ MOST_SLOTS
  pub partitions : (worker partition : ℕ) → holds locks worker partition ≡ true → partition < locks.partitions
  pub held : (worker partition : ℕ) → holds_exclusively locks worker partition ≡ true →
      holds locks worker partition ≡ true
  pub alone : (worker other partition : ℕ) → holds_exclusively locks worker partition ≡ true →
      holds locks other partition ≡ true → other ≡ worker
  pub ages : (worker other one another : ℕ) → worker ≢ other → holds locks worker one ≡ true →
      holds locks other another ≡ true → age_of locks worker ≢ age_of locks other

-- whoever holds a partition is in the set; the list has, for each worker, the set of the partitions that it holds
abbrev pub AreBusy : ℕ → List ℕ → Type 0
AreBusy busy held = (worker partition : ℕ) → has (slice_index held worker) partition ≡ true → has busy worker ≡ true
