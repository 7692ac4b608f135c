-- What every call keeps of a head.
use Rattle.std.proofs.Common.{◌≡◌, ◌≢◌, ◌<◌, ◌≤◌, ℕ, Bool, true, false, List, [], ◌∷◌, length, Option, Some, None}
use Rattle.std.proofs.Common.{refl, sym, ap, subst, ◌∙◌, inl, inr, ⊎_elim, get_or-set_other, get_or-set_same}
use Rattle.std.specs.Prelude.{◌⊎◌, slice_set, is_some}
use Rattle.std.specs.List.{AllByRecursion}
use Rattle.std.specs.FinMap.{get}
use Rattle.std.proofs.lemmas.Bool.{cases_eq, cases_lt, false≢true}
use Rattle.std.proofs.lemmas.List.{get_or_past}
use Rattle.std.proofs.lemmas.List.Folds.{list_any_at}
use Rattle.ftc_base.specs.declared.ask.Answer.{Answer}
use Rattle.ftc_base.specs.Partition.{partition_of}
use Rattle.ftc_base.proofs.EachOf.{all-weaker}
use Rattle.ftc_locks.specs.Locks.{Locks, holds, age_of, HoldsNothing, SameHoldings}
use Rattle.ftc_txn.specs.Slots.{Running, slot_at, wounded_by}
use Rattle.ftc_txn.specs.Head.{HeadState, IsCurrent, IsRunning, IsHead, some_run}

pub not_both : {A : Type 0} (b : Bool) → b ≡ false → b ≡ true → A
not_both b isnt is = absurd (false≢true (sym isnt ∙ is))

pub none_or_some : {A : Type 0} (o : Option A) (x : A) → o ≡ None → o ≡ Some x → ⊥
none_or_some o x none some = let apart : None ≡ Some x = sym none ∙ some in cc

-- a slot that runs something stands in the list
pub slot_within : (slots : List (Option Running)) (worker : ℕ) (running : Running) →
    slot_at slots worker ≡ Some running → worker < length slots
slot_within slots worker running is =
    ⊎_elim (λ within. within)
    (λ past. absurd (none_or_some (slot_at slots worker) running (get_or_past slots worker None past) is))
    (cases_lt worker (length slots))

pub some_run_at : (slots : List (Option Running)) (worker : ℕ) (running : Running) →
    slot_at slots worker ≡ Some running → some_run slots ≡ true
some_run_at slots worker running is =
    list_any_at is_some slots worker None (slot_within slots worker running is) (ap is_some is)

pub slot_set : (slots : List (Option Running)) (worker : ℕ) (slot : Option Running) → worker < length slots →
    slot_at (slice_set slots worker slot) worker ≡ slot
slot_set slots worker slot within = get_or-set_same slots worker slot None within

pub slot_other : (slots : List (Option Running)) (worker other : ℕ) (slot : Option Running) → other ≢ worker →
    slot_at (slice_set slots worker slot) other ≡ slot_at slots other
slot_other slots worker other slot differs = rw get_or-set_other refl

pub same_holdings : (locks : Locks) (worker : ℕ) → SameHoldings locks locks worker
same_holdings locks worker = record { holdings = λ p. record { held = refl; exclusive = refl }; age = refl }

pub nothing_kept : (old new : Locks) (worker : ℕ) → SameHoldings old new worker → HoldsNothing old worker →
    HoldsNothing new worker
nothing_kept old new worker same nothing =
    record {
      held = λ p. (same.holdings p).held ∙ nothing.held p;
      exclusive = λ p. (same.holdings p).exclusive ∙ nothing.exclusive p;
    }

-- who holds a partition has a slot that runs something, with the age of its locks
pub locked_runs : (head : HeadState) (worker partition : ℕ) → IsHead head → holds head.locks worker partition ≡ true →
    (running : Running) × (slot_at head.slots worker ≡ Some running) × (age_of head.locks worker ≡ running.age)
locked_runs head worker partition valid held =
    elim (slot_at head.slots worker) as (λ o. slot_at head.slots worker ≡ o →
    (running : Running) × (slot_at head.slots worker ≡ Some running) × (age_of head.locks worker ≡ running.age)) [
      | None ↦ λ is. not_both (holds head.locks worker partition) ((valid.idle worker is).held partition) held
      | Some running ↦ λ is. (running, is, (valid.running worker running is).age partition held)
    ] refl

-- the ages of the locks of others differ from that of a slot that runs
pub ages_differ : (head : HeadState) (worker : ℕ) (running : Running) → IsHead head →
    slot_at head.slots worker ≡ Some running → (other p : ℕ) → other ≢ worker → holds head.locks other p ≡ true →
    age_of head.locks other ≢ running.age
ages_differ head worker running valid runs other p differs held same =
    let another = locked_runs head other p valid held in
    valid.ages other worker another.0 running differs another.1 runs (sym another.2 ∙ same)

-- a slot has what it had, and its worker holds what it held
pub record Stays (old new : HeadState) (other : ℕ) : Type 0 where
  pub slot : slot_at new.slots other ≡ slot_at old.slots other
  pub holdings : SameHoldings old.locks new.locks other

-- what a slot runs was wounded, and its worker holds nothing
pub record WasWounded (old new : HeadState) (by other : ℕ) : Type 0 where
  pub slot : slot_at new.slots other ≡ wounded_by by (slot_at old.slots other)
  pub nothing : HoldsNothing new.locks other

pub wound_of : (by : ℕ) (slot : Option Running) (running : Running) → wounded_by by slot ≡ Some running →
    (before : Running) × (slot ≡ Some before) × (before.age ≡ running.age) × (running.wounded ≡ Some by)
wound_of by None running is = absurd cc
wound_of by (Some before) running is =
    let same : record before { wounded = Some by } ≡ running = cc in
    (before, refl, ap (λ (r : Running). r.age) same, sym (ap (λ (r : Running). r.wounded) same))

before_of : (old new : HeadState) (by other : ℕ) (running : Running) →
    Stays old new other ⊎ WasWounded old new by other → slot_at new.slots other ≡ Some running →
    (before : Running) × (slot_at old.slots other ≡ Some before) × (before.age ≡ running.age)
before_of old new by other running (inl stays) is = (running, sym stays.slot ∙ is, refl)
before_of old new by other running (inr was) is =
    let before = wound_of by (slot_at old.slots other) running (sym was.slot ∙ is) in
    (before.0, before.1, before.2)

running_kept : (old new : HeadState) (worker : ℕ) (running : Running) → new.partitions ≡ old.partitions →
    SameHoldings old.locks new.locks worker →
    ((answer : Answer) → IsCurrent old worker answer → get new.content answer.key ≡ get old.content answer.key) →
    running.age ≤ new.last → IsRunning old worker running → IsRunning new worker running
running_kept old new worker running partitions same content last was = record {
  drawn = last;
  age = λ p is. same.age ∙ was.age p (sym (same.holdings p).held ∙ is);
  wounded = λ by is. nothing_kept old.locks new.locks worker same (was.wounded by is);
  answers = λ is. all-weaker (IsCurrent old worker) (IsCurrent new worker) (λ answer current. record {
    value = content answer current ∙ current.value;
    held = rw partitions ((same.holdings (partition_of old.partitions answer.key)).held ∙ current.held);
  }) running.answers (was.answers is);
}

wounded_running : (new : HeadState) (worker by : ℕ) (running : Running) → HoldsNothing new.locks worker →
    running.wounded ≡ Some by → running.age ≤ new.last → IsRunning new worker running
wounded_running new worker by running nothing wounded last = record {
  drawn = last;
  age = λ p is. not_both (holds new.locks worker p) (nothing.held p) is;
  wounded = λ _ _. nothing;
  answers = λ is. absurd (none_or_some running.wounded by is wounded);
}

-- a call that changes one slot, and may wound others
pub keeps : (old new : HeadState) (worker : ℕ) → IsHead old → new.partitions ≡ old.partitions
    → ((other : ℕ) → other ≢ worker → Stays old new other ⊎ WasWounded old new worker other)
    → ((other : ℕ) (answer : Answer) → other ≢ worker → IsCurrent old other answer →
    get new.content answer.key ≡ get old.content answer.key)
    → ((other : ℕ) (running : Running) → other ≢ worker → slot_at old.slots other ≡ Some running →
    running.age ≤ new.last)
    → (slot_at new.slots worker ≡ None → HoldsNothing new.locks worker)
    → ((running : Running) → slot_at new.slots worker ≡ Some running → IsRunning new worker running)
    → ((running another : Running) (other : ℕ) → other ≢ worker → slot_at new.slots worker ≡ Some running →
    slot_at old.slots other ≡ Some another → running.age ≢ another.age)
    → IsHead new
keeps old new worker valid partitions others content last idle own ages = record {
  some = rw partitions valid.some;
  within = rw partitions valid.within;
  idle = λ w none. elim (cases_eq w worker) [
    | inl same ↦ subst (λ (n : ℕ). HoldsNothing new.locks n) (sym same)
        (idle (subst (λ (n : ℕ). slot_at new.slots n ≡ None) same none))
    | inr differs ↦ elim (others w differs) [
      | inl stays ↦ nothing_kept old.locks new.locks w stays.holdings (valid.idle w (sym stays.slot ∙ none))
      | inr was ↦ was.nothing
    ]
  ];
  running = λ w running is. elim (cases_eq w worker) [
    | inl same ↦ subst (λ (n : ℕ). IsRunning new n running) (sym same)
        (own running (subst (λ (n : ℕ). slot_at new.slots n ≡ Some running) same is))
    | inr differs ↦ elim (others w differs) [
      | inl stays ↦ running_kept old new w running partitions stays.holdings
          (λ answer current. content w answer differs current) (last w running differs (sym stays.slot ∙ is))
          (valid.running w running (sym stays.slot ∙ is))
      | inr was ↦ let before = wound_of worker (slot_at old.slots w) running (sym was.slot ∙ is) in
          wounded_running new w worker running was.nothing before.3
          (subst (λ (n : ℕ). n ≤ new.last) before.2 (last w before.0 differs before.1))
    ]
  ];
  ages = λ w o running another apart is other_is same_age. elim (cases_eq w worker) [
    | inl same ↦
        let far : o ≢ worker = λ e. apart (same ∙ sym e) in
        let before = before_of old new worker o another (others o far) other_is in
        ages running before.0 o far (subst (λ (n : ℕ). slot_at new.slots n ≡ Some running) same is) before.1
        (same_age ∙ sym before.2)
    | inr differs ↦ elim (cases_eq o worker) [
      | inl same ↦
          let before = before_of old new worker w running (others w differs) is in
          ages another before.0 w differs (subst (λ (n : ℕ). slot_at new.slots n ≡ Some another) same other_is) before.1
          (sym same_age ∙ sym before.2)
      | inr far ↦
          let first = before_of old new worker w running (others w differs) is in
          let second = before_of old new worker o another (others o far) other_is in
          valid.ages w o first.0 second.0 apart first.1 second.1 (first.2 ∙ same_age ∙ sym second.2)
    ]
  ];
}
