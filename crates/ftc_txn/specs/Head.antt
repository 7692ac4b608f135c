-- What the head of a group has, and what holds of it between two calls.
use Rattle.std.specs.Prelude.{◌≡◌, ◌≢◌, ◌≤◌, ◌+◌, ◌==◌, ◌&&◌, not, ℕ, Bool, true, List, Option, Some, None, is_some}
use Rattle.std.specs.Prelude.{if◌then◌else◌, refl}
use Rattle.std.specs.List.{AllByRecursion, Any, list_any}
use Rattle.std.specs.FinMap.{get, code}
use Rattle.std.specs.Coded.{Coded, code_by, coded×, coded_ℕ, coded_list, coded_option}
use Rattle.ftc_base.specs.declared.ask.Answer.{Answer}
use Rattle.ftc_base.specs.declared.ask.Write.{Write}
use Rattle.ftc_base.specs.Partition.{partition_of}
use Rattle.ftc_base.specs.declared.limits.TheConstants.{MOST_PARTITIONS}
use Rattle.ftc_store.specs.Store.{Content}
use Rattle.ftc_locks.specs.Locks.{Locks, holds, holds_exclusively, age_of, HoldsNothing}
use Rattle.ftc_message.specs.Logged.{keys_rise}
use Rattle.ftc_txn.specs.Slots.{Running, running_code, slot_at}

-- the group, the content and in how many partitions its keys lie, the vector, the locks, what each slot runs, and the
-- age that was drawn last
pub record HeadState : Type 0 where
  pub group : ℕ
  pub content : Content
  pub partitions : ℕ
  pub vector : List ℕ
  pub locks : Locks
  pub slots : List (Option Running)
  pub last : ℕ

-- some slot runs something
abbrev pub some_run : List (Option Running) → Bool
some_run slots = list_any is_some slots

-- an age is left to be drawn
abbrev pub ages_left : ℕ → HeadState → Bool
ages_left greatest head = not (some_run head.slots && (head.last == greatest))

-- the age that is drawn next
abbrev pub next_age : HeadState → ℕ
next_age head = if some_run head.slots then head.last + 1 else 0

-- the worker's slot runs this, which isn't wounded
pub record RunsUnwounded (head : HeadState) (worker : ℕ) (running : Running) : Type 0 where
  pub slot : slot_at head.slots worker ≡ Some running
  pub unwounded : running.wounded ≡ None

-- the worker's slot runs this, which that other worker wounded
pub record RunsWounded (head : HeadState) (worker : ℕ) (running : Running) (by : ℕ) : Type 0 where
  pub slot : slot_at head.slots worker ≡ Some running
  pub wounded : running.wounded ≡ Some by

-- the answer is what the content has now, and the worker holds its key's partition
pub record IsCurrent (head : HeadState) (worker : ℕ) (answer : Answer) : Type 0 where
  pub value : get head.content answer.key ≡ answer.value
  pub held : holds head.locks worker (partition_of head.partitions answer.key) ≡ true

-- what holds of what a slot runs: its age was drawn, its locks have that age, it has no lock where it is wounded, and
-- else its answers are current
pub record IsRunning (head : HeadState) (worker : ℕ) (running : Running) : Type 0 where
  pub drawn : running.age ≤ head.last
  pub age : (partition : ℕ) → holds head.locks worker partition ≡ true → age_of head.locks worker ≡ running.age
  pub wounded : (by : ℕ) → running.wounded ≡ Some by → HoldsNothing head.locks worker
  pub answers : running.wounded ≡ None → AllByRecursion (IsCurrent head worker) running.answers

-- there are some partitions, an idle slot has no lock, what runs is as it must be, and two slots that run have
-- different ages
pub record IsHead (head : HeadState) : Type 0 where
  pub some : 1 ≤ head.partitions
  pub within : head.partitions ≤ MOST_PARTITIONS
  pub idle : (worker : ℕ) → slot_at head.slots worker ≡ None → HoldsNothing head.locks worker
  pub running : (worker : ℕ) (running : Running) → slot_at head.slots worker ≡ Some running →
      IsRunning head worker running
  pub ages : (worker other : ℕ) (running another : Running) → worker ≢ other →
      slot_at head.slots worker ≡ Some running → slot_at head.slots other ≡ Some another → running.age ≢ another.age

-- one of the answers is of that key
abbrev pub IsAnswered : List ℕ → List Answer → Type 0
IsAnswered key answers = Any (λ answer. answer.key ≡ key) answers

-- the writes' keys rise, each is one that the worker's slot read, and the worker holds the partition of each
-- exclusively
pub record AreItsWrites (head : HeadState) (worker : ℕ) (running : Running) (writes : List Write) : Type 0 where
  pub rising : keys_rise None writes ≡ true
  pub were_read : AllByRecursion (λ write. IsAnswered write.key running.answers) writes
  pub exclusive : AllByRecursion (λ write. holds_exclusively head.locks worker (partition_of head.partitions write.key)
      ≡ true) writes

abbrev pub locks_code : Coded Locks
locks_code =
    code_by (ℕ × (List ℕ × (List ℕ × List ℕ)))
    (coded× coded_ℕ (coded× (coded_list coded_ℕ) (coded× (coded_list coded_ℕ) (coded_list coded_ℕ))))
    (λ locks. (locks.partitions, (locks.held, (locks.exclusive, locks.ages)))) (λ parts. record {
      partitions = parts.0;
      held = parts.1.0;
      exclusive = parts.1.1.0;
      ages = parts.1.1.1;
    }) (λ _. refl)

abbrev pub head_code : Coded HeadState
head_code =
    code_by (ℕ × (Content × (ℕ × (List ℕ × (Locks × (List (Option Running) × ℕ))))))
    (coded× coded_ℕ (coded× (code (coded_list coded_ℕ) (coded_list coded_ℕ))
    (coded× coded_ℕ (coded× (coded_list coded_ℕ)
    (coded× locks_code (coded× (coded_list (coded_option running_code)) coded_ℕ))))))
    (λ head. (head.group, (head.content, (head.partitions, (head.vector, (head.locks, (head.slots, head.last)))))))
    (λ parts. record {
      group = parts.0;
      content = parts.1.0;
      partitions = parts.1.1.0;
      vector = parts.1.1.1.0;
      locks = parts.1.1.1.1.0;
      slots = parts.1.1.1.1.1.0;
      last = parts.1.1.1.1.1.1;
    }) (λ _. refl)
