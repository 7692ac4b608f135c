-- What the calls of other slots, and its own reads, leave of what a slot holds.
use Rattle.std.proofs.Common.{◌≡◌, ◌≢◌, ℕ, Bool, true, List, Option, Some, None, sym, ap, subst, ◌∙◌, ⊎_elim}
use Rattle.std.specs.Prelude.{slice_set}
use Rattle.std.proofs.lemmas.Bool.{cases_Bool, cases_eq, or_right}
use Rattle.ftc_base.specs.Partition.{partition_of}
use Rattle.ftc_locks.specs.Locks.{holds_exclusively, conflicts, SameHoldings}
use Rattle.ftc_txn.specs.Slots.{Running, slot_at, begun, restarted}
use Rattle.ftc_txn.specs.Head.{HeadState, RunsUnwounded, next_age}
use Rattle.ftc_txn.specs.Steps.{HasHeadRead}
use Rattle.ftc_txn.specs.Runs.{Call, Begin, Read, Commit, Quit, caller, Step}
use Rattle.ftc_txn.specs.declared.answers.ReadAnswer.TheVariants.{Value, Blocked, Wounded as WoundedRead}
use Rattle.ftc_txn.specs.declared.answers.ReadAnswer.TheVariants.{Idle as IdleRead, NotAsked}
use Rattle.ftc_txn.specs.declared.answers.HeadCommit.TheVariants.{Done, Wounded as WoundedCommit, Idle as IdleCommit}
use Rattle.ftc_txn.specs.declared.answers.HeadCommit.TheVariants.{NoMemory}
use Rattle.ftc_txn.proofs.Kept.{none_or_some, slot_other, same_holdings, wound_of}

-- it ran before, and holds what it held
record Stayed (old new : HeadState) (worker : ℕ) (running : Running) : Type 0 where
  before : RunsUnwounded old worker running
  holdings : SameHoldings old.locks new.locks worker

unmoved : (old new : HeadState) (worker : ℕ) (running : Running) → new ≡ old → RunsUnwounded new worker running →
    Stayed old new worker running
unmoved old new worker running same runs =
    subst (λ (h : HeadState). Stayed old h worker running) (sym same)
    (record {
      before = subst (λ (h : HeadState). RunsUnwounded h worker running) same runs;
      holdings = same_holdings old.locks worker;
    })

-- one other slot was written
set_one : (old new : HeadState) (other worker : ℕ) (slot : Option Running) (running : Running) →
    new.slots ≡ slice_set old.slots other slot → worker ≢ other → SameHoldings old.locks new.locks worker →
    RunsUnwounded new worker running → Stayed old new worker running
set_one old new other worker slot running slots differs same runs = record {
  before = record {
    slot = sym (slot_other old.slots other worker slot differs) ∙ ap
        (λ (xs : List (Option Running)). slot_at xs worker) (sym slots) ∙ runs.slot;
    unwounded = runs.unwounded;
  };
  holdings = same;
}

-- one other slot was written, and no lock changed
set_alone : (old new : HeadState) (other worker : ℕ) (slot : Option Running) (running : Running) →
    new.slots ≡ slice_set old.slots other slot → new.locks ≡ old.locks → worker ≢ other →
    RunsUnwounded new worker running → Stayed old new worker running
set_alone old new other worker slot running slots locks differs runs =
    set_one old new other worker slot running slots differs (rw locks (same_holdings old.locks worker)) runs

read_by : (old new : HeadState) (other worker : ℕ) (before running : Running) (key : List ℕ) (change : Bool)
    (value : Option (List ℕ)) → HasHeadRead old new other before key change value → worker ≢ other →
    RunsUnwounded new worker running → Stayed old new worker running
read_by old new other worker before running key change value read differs runs =
    ⊎_elim (λ is.
    let was = wound_of other (slot_at old.slots worker) running (sym (read.wounded worker is) ∙ runs.slot) in
    absurd (none_or_some running.wounded other runs.unwounded was.3))
    (λ isnt. record {
      before = record { slot = sym (read.others worker differs isnt) ∙ runs.slot; unwounded = runs.unwounded };
      holdings = read.locks.others worker differs isnt;
    })
    (cases_Bool (conflicts old.locks other (partition_of old.partitions key) change worker))

stayed : (old new : HeadState) (call : Call) (worker : ℕ) (running : Running) → Step old call new →
    worker ≢ caller call → RunsUnwounded new worker running → Stayed old new worker running
stayed old new (Begin other packet) worker running step differs runs =
    set_alone old new other worker (Some (begun packet (next_age old))) running (ap (λ (h : HeadState). h.slots) step.2)
    (ap (λ (h : HeadState). h.locks) step.2) differs runs
stayed old new (Read other key change (Value value)) worker running step differs runs =
    read_by old new other worker step.0 running key change value step.2 differs runs
stayed old new (Read other key change (Blocked holder)) worker running step differs runs =
    unmoved old new worker running step.3 runs
stayed old new (Read other key change (WoundedRead by)) worker running step differs runs =
    set_alone old new other worker (Some (restarted step.0)) running (ap (λ (h : HeadState). h.slots) step.2)
    (ap (λ (h : HeadState). h.locks) step.2) differs runs
stayed old new (Read other key change IdleRead) worker running step differs runs =
    unmoved old new worker running step.1 runs
stayed old new (Read other key change NotAsked) worker running step differs runs = absurd step
stayed old new (Commit other writes (Done log)) worker running step differs runs =
    set_one old new other worker None running step.2.slots differs (step.2.locks.others worker differs) runs
stayed old new (Commit other writes (WoundedCommit by)) worker running step differs runs =
    set_alone old new other worker (Some (restarted step.0)) running (ap (λ (h : HeadState). h.slots) step.2)
    (ap (λ (h : HeadState). h.locks) step.2) differs runs
stayed old new (Commit other writes IdleCommit) worker running step differs runs =
    unmoved old new worker running step.1 runs
stayed old new (Commit other writes NoMemory) worker running step differs runs =
    unmoved old new worker running step.2 runs
stayed old new (Quit other) worker running step differs runs =
    set_one old new other worker None running step.slots differs (step.locks.others worker differs) runs

pub runs_before : (old new : HeadState) (call : Call) (worker : ℕ) (running : Running) → Step old call new →
    worker ≢ caller call → RunsUnwounded new worker running → RunsUnwounded old worker running
runs_before old new call worker running step differs runs =
    (stayed old new call worker running step differs runs).before

pub stay : (old new : HeadState) (call : Call) (worker : ℕ) (running : Running) → Step old call new →
    worker ≢ caller call → RunsUnwounded new worker running → SameHoldings old.locks new.locks worker
stay old new call worker running step differs runs = (stayed old new call worker running step differs runs).holdings

pub own : (old new : HeadState) (worker partition : ℕ) (running : Running) (key : List ℕ) (change : Bool)
    (value : Option (List ℕ)) → HasHeadRead old new worker running key change value →
    holds_exclusively old.locks worker partition ≡ true → holds_exclusively new.locks worker partition ≡ true
own old new worker partition running key change value read held =
    ⊎_elim (λ same. rw same (read.locks.exclusive ∙ or_right change
    (holds_exclusively old.locks worker (partition_of old.partitions key)) (rw (← same) held)))
    (λ differs. (read.locks.own partition differs).exclusive ∙ held)
    (cases_eq partition (partition_of old.partitions key))

pub changed : (old new : HeadState) (worker : ℕ) (running : Running) (key : List ℕ) (value : Option (List ℕ)) →
    HasHeadRead old new worker running key true value →
    holds_exclusively new.locks worker (partition_of new.partitions key)
    ≡ true
changed old new worker running key value read =
    let partitions : new.partitions ≡ old.partitions = ap (λ (h : HeadState). h.partitions) read.rest in
    rw partitions read.locks.exclusive
