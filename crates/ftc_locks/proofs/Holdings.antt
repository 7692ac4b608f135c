-- Sets that stand in a list, one for each worker.
use Rattle.std.proofs.Common.{◌≡◌, ◌≢◌, ◌<◌, ◌≤◌, ℕ, Bool, true, false, Option, None, Some, List, length, get_or, refl}
use Rattle.std.proofs.Common.{⊎_elim, ◌∙◌, sym}
use Rattle.std.specs.Prelude.{replicate, IfNone, ◌==◌, ◌&&◌, ◌||◌, not}
use Rattle.std.proofs.lemmas.Bool.{false≢true, cases_lt, and_parts, or_cases, eqb-false, not-true}
use Rattle.std.proofs.lemmas.List.{get_or_past, get_or-replicate, length-replicate}
use Rattle.ftc_base.specs.Sets.{has}
use Rattle.ftc_base.specs.declared.limits.TheConstants.{MOST_PARTITIONS, MOST_SLOTS}
use Rattle.ftc_base.proofs.Members.{has-zero}
use Rattle.ftc_locks.specs.Locks.{Locks, holds, holds_exclusively, conflicts, SameHolding, HoldsNothing, IsLockTable}
use Rattle.ftc_locks.specs.Locks.{AreBusy}

-- beyond the list there is no member
pub has-past : (sets : List ℕ) (worker partition : ℕ) → length sets ≤ worker →
    has (get_or sets worker 0) partition ≡ false
has-past sets worker partition beyond = rw (get_or_past sets worker 0 beyond) (has-zero partition)

-- there is no member in copies of a set without one
pub has-copies : (n set worker partition : ℕ) → ((p : ℕ) → has set p ≡ false) →
    has (get_or (replicate n set) worker 0) partition ≡ false
has-copies n set worker partition none =
    ⊎_elim (λ (within : worker < n). rw (get_or-replicate n worker set 0 within) (none partition))
    (λ beyond. has-past (replicate n set) worker partition (rw (length-replicate n set) beyond)) (cases_lt worker n)

-- a set that is known below a bound, and beyond it
pub has-from : (set n : ℕ) (test : ℕ → Bool) → ((k : ℕ) → k < n → has set k ≡ test k) →
    ((k : ℕ) → n ≤ k → has set k ≡ false) → ((k : ℕ) → n ≤ k → test k ≡ false) → (k : ℕ) → has set k ≡ test k
has-from set n test below above none k =
    ⊎_elim (λ within. below k within) (λ beyond. above k beyond ∙ sym (none k beyond)) (cases_lt k n)

pub if_none : {A : Type 0} (o : Option A) (P : Type 0) → (o ≡ None → P) → IfNone o P
if_none None P held = held refl
if_none (Some x) P held = tt

neither : (another change : Bool) → (another && (false || (change && false))) ≡ false
neither true true = refl
neither true false = refl
neither false change = refl

no_conflict : (another change exclusive held : Bool) → exclusive ≡ false → held ≡ false →
    (another && (exclusive || (change && held))) ≡ false
no_conflict another change exclusive held first second = rw (first, second) (neither another change)

-- who holds nothing is in nobody's way
pub conflicts-nothing : (locks : Locks) (worker partition : ℕ) (change : Bool) (other : ℕ) → HoldsNothing locks other →
    conflicts locks worker partition change other ≡ false
conflicts-nothing locks worker partition change other nothing =
    no_conflict (not (other == worker)) change (holds_exclusively locks other partition) (holds locks other partition)
    (nothing.exclusive partition) (nothing.held partition)

pub conflicts-past : (locks : Locks) (worker partition : ℕ) (change : Bool) (other : ℕ) → length locks.held ≤ other →
    length locks.exclusive ≤ other → conflicts locks worker partition change other ≡ false
conflicts-past locks worker partition change other beyond past =
    conflicts-nothing locks worker partition change other (record {
      held = λ p. has-past locks.held other p beyond;
      exclusive = λ p. has-past locks.exclusive other p past;
    })

-- who holds what it held is in the way where it was
pub conflicts-same : (old new : Locks) (worker partition : ℕ) (change : Bool) (other : ℕ) →
    SameHolding old new other partition →
    conflicts new worker partition change other ≡ conflicts old worker partition change other
conflicts-same old new worker partition change other same = rw (same.held, same.exclusive) refl

-- nobody is in its own way
pub conflicts-other : (locks : Locks) (worker partition : ℕ) (change : Bool) (other : ℕ) →
    conflicts locks worker partition change other ≡ true → other ≢ worker
conflicts-other locks worker partition change other is =
    eqb-false other worker (not-true (other == worker) (and_parts _ _ is).0)

-- who is in the way holds the partition
pub conflicts-holds : (locks : Locks) (worker partition : ℕ) (change : Bool) (other : ℕ) → IsLockTable locks →
    conflicts locks worker partition change other ≡ true → holds locks other partition ≡ true
conflicts-holds locks worker partition change other valid is =
    ⊎_elim (λ exclusive. valid.held other partition exclusive) (λ held. (and_parts change _ held).1)
    (or_cases (holds_exclusively locks other partition) _ (and_parts _ _ is).1)

-- a table that nobody holds
abbrev pub free_table : ℕ → ℕ → Locks
free_table partitions none = record {
  partitions = partitions;
  held = replicate MOST_SLOTS none;
  exclusive = replicate MOST_SLOTS none;
  ages = replicate MOST_SLOTS 0;
}

pub free_table-nothing : (partitions none : ℕ) → ((p : ℕ) → has none p ≡ false) → (worker : ℕ) →
    HoldsNothing (free_table partitions none) worker
free_table-nothing partitions none empty worker = record {
  held = λ p. has-copies MOST_SLOTS none worker p empty;
  exclusive = λ p. has-copies MOST_SLOTS none worker p empty;
}

pub free_table-valid : (partitions none : ℕ) → ((p : ℕ) → has none p ≡ false) → 1 ≤ partitions →
    partitions ≤ MOST_PARTITIONS → IsLockTable (free_table partitions none)
free_table-valid partitions none empty some within = record {
  some = some;
  within = within;
  held_size = length-replicate MOST_SLOTS none;
  exclusive_size = length-replicate MOST_SLOTS none;
  ages_size = length-replicate {A = ℕ} MOST_SLOTS 0;
  partitions = λ worker p is. absurd (false≢true (sym (has-copies MOST_SLOTS none worker p empty) ∙ is));
  held = λ worker p is. absurd (false≢true (sym (has-copies MOST_SLOTS none worker p empty) ∙ is));
  alone = λ worker other p is _. absurd (false≢true (sym (has-copies MOST_SLOTS none worker p empty) ∙ is));
  ages = λ worker other p q _ is _. absurd (false≢true (sym (has-copies MOST_SLOTS none worker p empty) ∙ is));
}

-- where nobody holds a partition, any set will do for those who are busy
pub copies-busy : (n none busy : ℕ) → ((p : ℕ) → has none p ≡ false) → AreBusy busy (replicate n none)
copies-busy n none busy empty worker p is = absurd (false≢true (sym (has-copies n none worker p empty) ∙ is))
