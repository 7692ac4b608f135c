-- What each call may answer, and what it leaves.
use Rattle.std.specs.Prelude.{◌≡◌, ◌≢◌, ◌<◌, ◌↔◌, ◌||◌, ℕ, Bool, true, false, List, [], Option, Some, None, IsNone}
use Rattle.std.specs.Prelude.{IfSome, slice_set}
use Rattle.std.specs.List.{AllByRecursion}
use Rattle.std.specs.FinMap.{get}
use Rattle.ftc_base.specs.declared.ask.Write.{Write}
use Rattle.ftc_base.specs.Partition.{partition_of}
use Rattle.ftc_store.specs.Store.{written}
use Rattle.ftc_locks.specs.Locks.{Locks, holds, holds_exclusively, age_of, conflicts, HoldsNothing, SameHolding}
use Rattle.ftc_locks.specs.Locks.{SameHoldings, IsOldestInTheWay}
use Rattle.ftc_message.specs.Logged.{Logged}
use Rattle.ftc_txn.specs.Slots.{Running, slot_at, begun, restarted, answered, wounded_by}
use Rattle.ftc_txn.specs.Head.{HeadState, RunsUnwounded, RunsWounded, next_age}
use Rattle.ftc_txn.specs.Touched.{vector_after}
use Rattle.ftc_txn.specs.Logs.{IsLogOf}
use Rattle.ftc_txn.specs.declared.answers.ReadAnswer.{ReadAnswer}
use Rattle.ftc_txn.specs.declared.answers.ReadAnswer.TheVariants.{Value, Blocked, Wounded as WoundedRead}
use Rattle.ftc_txn.specs.declared.answers.ReadAnswer.TheVariants.{Idle as IdleRead, NotAsked}
use Rattle.ftc_txn.specs.declared.answers.HeadCommit.{HeadCommit}
use Rattle.ftc_txn.specs.declared.answers.HeadCommit.TheVariants.{Done, Wounded as WoundedCommit, Idle as IdleCommit}
use Rattle.ftc_txn.specs.declared.answers.HeadCommit.TheVariants.{NoMemory}

-- an idle slot begins a transaction, with the next age
abbrev pub begins : HeadState → ℕ → ℕ → HeadState
begins head worker packet =
    record head { slots = slice_set head.slots worker (Some (begun packet (next_age head))); last = next_age head }

-- what a slot runs begins again
abbrev pub restarts : HeadState → ℕ → Running → HeadState
restarts head worker running = record head { slots = slice_set head.slots worker (Some (restarted running)) }

-- the worker got the partition from those that it conflicted with, who are all younger and hold nothing any more; every
-- other holding is as before
pub record IsGranted (old new : Locks) (worker age partition : ℕ) (change : Bool) : Type 0 where
  pub younger : (other : ℕ) → conflicts old worker partition change other ≡ true → age < age_of old other
  pub held : holds new worker partition ≡ true
  pub exclusive : holds_exclusively new worker partition ≡ (change || holds_exclusively old worker partition)
  pub with_age : age_of new worker ≡ age
  pub own : (other : ℕ) → other ≢ partition → SameHolding old new worker other
  pub wounded : (other : ℕ) → conflicts old worker partition change other ≡ true → HoldsNothing new other
  pub others : (other : ℕ) → other ≢ worker → conflicts old worker partition change other ≡ false →
      SameHoldings old new other
  pub partitions : new.partitions ≡ old.partitions

-- the worker holds nothing any more, and every other holding is as before
pub record IsFreed (old new : Locks) (worker : ℕ) : Type 0 where
  pub nothing : HoldsNothing new worker
  pub others : (other : ℕ) → other ≢ worker → SameHoldings old new other
  pub partitions : new.partitions ≡ old.partitions

-- a read is answered with what the content has: the slot holds the key's partition and has one more answer, and those
-- that were in its way are wounded
pub record HasHeadRead (old new : HeadState) (worker : ℕ) (running : Running) (key : List ℕ) (change : Bool)
    (value : Option (List ℕ)) : Type 0 where
  pub read : value ≡ get old.content key
  pub locks : IsGranted old.locks new.locks worker running.age (partition_of old.partitions key) change
  pub answered : slot_at new.slots worker ≡ Some (answered running (record { key = key; value = value }))
  pub wounded : (other : ℕ) → conflicts old.locks worker (partition_of old.partitions key) change other ≡ true →
      slot_at new.slots other ≡ wounded_by worker (slot_at old.slots other)
  pub others : (other : ℕ) → other ≢ worker → conflicts old.locks worker (partition_of old.partitions key) change other
      ≡ false → slot_at new.slots other ≡ slot_at old.slots other
  pub rest : new ≡ record old { locks = new.locks; slots = new.slots }

-- a commit: each answer is what the content had just before, the writes are made, each changed partition's number is
-- raised by 1, the locks are freed and the slot is idle; there is a log where there are answers
pub record HasCommitted (old new : HeadState) (worker : ℕ) (running : Running) (writes : List Write)
    (log : Option Logged) : Type 0 where
  pub current : AllByRecursion (λ answer. get old.content answer.key ≡ answer.value) running.answers
  pub content : new.content ≡ written writes old.content
  pub vector : new.vector ≡ vector_after old.partitions writes old.vector
  pub no_log : IsNone log ↔ (running.answers ≡ [])
  pub logged : IfSome log (IsLogOf old.group old.partitions old.vector running.packet running.answers writes)
  pub locks : IsFreed old.locks new.locks worker
  pub slots : new.slots ≡ slice_set old.slots worker None
  pub rest : new ≡ record old { content = new.content; vector = new.vector; locks = new.locks; slots = new.slots }

-- what a commit of the writes would log now: where the slot runs unwounded what has answers, its log, and else none
pub record WouldLog (head : HeadState) (worker : ℕ) (writes : List Write) (log : Option Logged) : Type 0 where
  pub no_log : (running : Running) → RunsUnwounded head worker running → IsNone log ↔ (running.answers ≡ [])
  pub logged : (running : Running) → RunsUnwounded head worker running →
      IfSome log (IsLogOf head.group head.partitions head.vector running.packet running.answers writes)
  pub idle : slot_at head.slots worker ≡ None → log ≡ None
  pub wounded : (running : Running) (by : ℕ) → RunsWounded head worker running by → log ≡ None

-- the slot is idle and has no lock, and nothing else differs
pub record HasHeadQuit (old new : HeadState) (worker : ℕ) : Type 0 where
  pub locks : IsFreed old.locks new.locks worker
  pub slots : new.slots ≡ slice_set old.slots worker None
  pub rest : new ≡ record old { locks = new.locks; slots = new.slots }

-- each answer to a read: when it comes, and what it leaves
abbrev pub HeadReads : HeadState → HeadState → ℕ → List ℕ → Bool → ReadAnswer → Type 0
HeadReads old new worker key change (Value value) =
    (running : Running) × RunsUnwounded old worker running × HasHeadRead old new worker running key change value
-- an older one is in the way
HeadReads old new worker key change (Blocked holder) =
    (running : Running) × RunsUnwounded old worker running
    × IsOldestInTheWay old.locks worker running.age (partition_of old.partitions key) change holder × (new ≡ old)
HeadReads old new worker key change (WoundedRead by) =
    (running : Running) × RunsWounded old worker running by × (new ≡ restarts old worker running)
HeadReads old new worker key change IdleRead = (slot_at old.slots worker ≡ None) × (new ≡ old)
-- who asks without the rule of a middlebox is never told that the rule doesn't ask
HeadReads old new worker key change NotAsked = ⊥

-- each answer to a commit: when it comes, and what it leaves
abbrev pub Commits : HeadState → HeadState → ℕ → List Write → HeadCommit → Type 0
Commits old new worker writes (Done log) =
    (running : Running) × RunsUnwounded old worker running × HasCommitted old new worker running writes log
Commits old new worker writes (WoundedCommit by) =
    (running : Running) × RunsWounded old worker running by × (new ≡ restarts old worker running)
Commits old new worker writes IdleCommit = (slot_at old.slots worker ≡ None) × (new ≡ old)
Commits old new worker writes NoMemory =
    (running : Running) × RunsUnwounded old worker running × (new ≡ old)
