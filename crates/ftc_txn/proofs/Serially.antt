-- Calls one after another amount to a serial execution.
use Rattle.std.proofs.Common.{◌≡◌, ◌≢◌, ℕ, Bool, List, [], ◌∷◌, Option, Some, None, refl, sym, ap, subst, ◌∙◌, inl, inr}
use Rattle.std.proofs.Common.{⊎_elim, length, ◌<◌}
use Rattle.std.specs.Prelude.{◌==◌, ◌↔◌, slice_set, IsSomeAnd, IsNone, IfSome}
use Rattle.std.specs.List.{AllByRecursion}
use Rattle.std.specs.FinMap.{get}
use Rattle.std.proofs.lemmas.List.{get_or_past, length-set}
use Rattle.std.proofs.lemmas.Bool.{cases_eq, cases_lt, cases_Bool, cond-true, cond-false, eq-eqb, ne_eqb}
use Rattle.ftc_base.specs.declared.ask.Write.{Write}
use Rattle.ftc_store.specs.Store.{Content, written}
use Rattle.ftc_txn.specs.Slots.{Running, slot_at, begun, restarted, wounded_by}
use Rattle.ftc_base.specs.Partition.{partition_of}
use Rattle.ftc_locks.specs.Locks.{conflicts}
use Rattle.ftc_message.specs.Logged.{Logged}
use Rattle.ftc_txn.specs.Touched.{vector_after}
use Rattle.ftc_txn.specs.Logs.{IsLogOf}
use Rattle.ftc_txn.specs.Steps.{restarts, HasHeadRead}
use Rattle.ftc_txn.specs.Head.{HeadState, next_age}
use Rattle.ftc_txn.specs.Runs.{Call, Begin, Read, Commit, Quit, Run, Visit, with_visit, read_on, read_anew, IsSerial}
use Rattle.ftc_txn.specs.Runs.{CommitsNow, visit_of, visits_of}
use Rattle.ftc_txn.specs.declared.answers.ReadAnswer.TheVariants.{Value, Blocked, Wounded as WoundedRead}
use Rattle.ftc_txn.specs.declared.answers.ReadAnswer.TheVariants.{Idle as IdleRead, NotAsked}
use Rattle.ftc_txn.specs.declared.answers.HeadCommit.TheVariants.{Done, Wounded as WoundedCommit, Idle as IdleCommit}
use Rattle.ftc_txn.specs.declared.answers.HeadCommit.TheVariants.{NoMemory}
use Rattle.ftc_txn.proofs.Kept.{slot_within, slot_set, slot_other}

-- visits that differ at one slot
visits_after : (visits after : ℕ → Option Visit) (worker : ℕ) (visit : Option Visit) → after worker ≡ visit →
    ((other : ℕ) → other ≢ worker → after other ≡ visits other) → after ≡ with_visit visits worker visit
visits_after visits after worker visit own others =
    let each : (other : ℕ) → after other ≡ with_visit visits worker visit other = λ other.
    elim (cases_eq other worker) [
      | inl same ↦ ap after same ∙ own ∙ sym
          (cond-true (other == worker) visit (visits other) (eq-eqb other worker same))
      | inr differs ↦ others other differs ∙ sym
          (cond-false (other == worker) visit (visits other) (ne_eqb other worker differs))
    ] in
    λ i other. each other i

moved : (group partitions : ℕ) (content : Content) (vector : List ℕ) (visits : ℕ →
    Option Visit) (mid : HeadState) (calls : List Call) (last : Content) (last_vector : List ℕ) → mid.group ≡ group →
    mid.partitions ≡ partitions → mid.content ≡ content → mid.vector ≡ vector → visits_of mid.slots ≡ visits →
    IsSerial mid.group mid.partitions mid.content mid.vector (visits_of mid.slots) calls last last_vector →
    IsSerial group partitions content vector visits calls last last_vector
moved group partitions content vector visits mid calls last last_vector a b c d e serial =
    subst (λ (g : ℕ). IsSerial g partitions content vector visits calls last last_vector) a
    (subst (λ (p : ℕ). IsSerial mid.group p content vector visits calls last last_vector) b
    (subst (λ (x : Content). IsSerial mid.group mid.partitions x vector visits calls last last_vector) c
    (subst (λ (v : List ℕ). IsSerial mid.group mid.partitions mid.content v visits calls last last_vector) d
    (subst (λ (f : ℕ → Option Visit). IsSerial mid.group mid.partitions mid.content mid.vector f calls last last_vector)
    e serial))))

set_visits : (old slots : List (Option Running)) (worker : ℕ) (slot : Option Running) → worker < length old →
    slots ≡ slice_set old worker slot → visits_of slots ≡ with_visit (visits_of old) worker (visit_of slot)
set_visits old slots worker slot within is =
    visits_after (visits_of old) (visits_of slots) worker (visit_of slot)
    (rw is (ap visit_of (slot_set old worker slot within)))
    (λ other differs. rw is (ap visit_of (slot_other old worker other slot differs)))

pub slot_set_none : (slots : List (Option Running)) (worker : ℕ) → slot_at (slice_set slots worker None) worker ≡ None
slot_set_none slots worker =
    ⊎_elim (λ within. slot_set slots worker None within)
    (λ past. get_or_past (slice_set slots worker None) worker None (rw (length-set slots worker None) past))
    (cases_lt worker (length slots))

idle_visits : (old slots : List (Option Running)) (worker : ℕ) → slots ≡ slice_set old worker None →
    visits_of slots ≡ with_visit (visits_of old) worker None
idle_visits old slots worker is =
    visits_after (visits_of old) (visits_of slots) worker None (rw is (ap visit_of (slot_set_none old worker)))
    (λ other differs. rw is (ap visit_of (slot_other old worker other None differs)))

visit_wounded : (by : ℕ) (slot : Option Running) → visit_of (wounded_by by slot) ≡ visit_of slot
visit_wounded by None = refl
visit_wounded by (Some running) = refl

read_visits : (old new : HeadState) (worker : ℕ) (running : Running) (key : List ℕ) (change : Bool)
    (value : Option (List ℕ)) → slot_at old.slots worker ≡ Some running →
    HasHeadRead old new worker running key change value →
    visits_of new.slots ≡ with_visit (visits_of old.slots) worker (read_on key value (visits_of old.slots worker))
read_visits old new worker running key change value runs read =
    visits_after (visits_of old.slots) (visits_of new.slots) worker (read_on key value (visits_of old.slots worker))
    (rw (read.answered, runs) refl)
    (λ other differs. ⊎_elim
    (λ is. ap visit_of (read.wounded other is) ∙ visit_wounded worker (slot_at old.slots other))
    (λ isnt. ap visit_of (read.others other differs isnt))
    (cases_Bool (conflicts old.locks worker (partition_of old.partitions key) change other)))

anew_visits : (old new : HeadState) (worker : ℕ) (running : Running) → slot_at old.slots worker ≡ Some running →
    new ≡ restarts old worker running →
    visits_of new.slots ≡ with_visit (visits_of old.slots) worker (read_anew (visits_of old.slots worker))
anew_visits old new worker running runs is =
    set_visits old.slots new.slots worker (Some (restarted running)) (slot_within old.slots worker running runs)
    (ap (λ (h : HeadState). h.slots) is)
    ∙ rw runs refl

-- the same, where nothing differs
unmoved : (old mid : HeadState) (calls : List Call) (last : Content) (last_vector : List ℕ) → mid ≡ old →
    IsSerial mid.group mid.partitions mid.content mid.vector (visits_of mid.slots) calls last last_vector →
    IsSerial old.group old.partitions old.content old.vector (visits_of old.slots) calls last last_vector
unmoved old mid calls last last_vector same serial =
    subst (λ (h : HeadState). IsSerial h.group h.partitions h.content h.vector
    (visits_of h.slots) calls last last_vector) same serial

anew : (old mid : HeadState) (worker : ℕ) (running : Running) (calls : List Call) (last : Content)
    (last_vector : List ℕ) → slot_at old.slots worker ≡ Some running → mid ≡ restarts old worker running →
    IsSerial mid.group mid.partitions mid.content mid.vector (visits_of mid.slots) calls last last_vector →
    IsSerial old.group old.partitions old.content old.vector
    (with_visit (visits_of old.slots) worker (read_anew (visits_of old.slots worker))) calls last last_vector
anew old mid worker running calls last last_vector runs is serial =
    moved old.group old.partitions old.content old.vector _ mid calls last last_vector
    (ap (λ (h : HeadState). h.group) is) (ap (λ (h : HeadState). h.partitions) is)
    (ap (λ (h : HeadState). h.content) is) (ap (λ (h : HeadState). h.vector) is)
    (anew_visits old mid worker running runs is) serial

committed : (old : HeadState) (worker : ℕ) (running : Running) (writes : List Write) (log : Option Logged) →
    slot_at old.slots worker ≡ Some running →
    AllByRecursion (λ answer. get old.content answer.key ≡ answer.value) running.answers →
    IsNone log ↔ (running.answers ≡ []) →
    IfSome log (IsLogOf old.group old.partitions old.vector running.packet running.answers writes) →
    IsSomeAnd (visits_of old.slots worker)
    (λ visit. CommitsNow old.group old.partitions old.content old.vector visit writes log)
committed old worker running writes log runs current no_log logged =
    rw runs (record { current = current; no_log = no_log; logged = logged })

pub serially : (calls : List Call) (old new : HeadState) → Run old calls new →
    IsSerial old.group old.partitions old.content old.vector (visits_of old.slots) calls new.content new.vector
serially [] old new run = (ap (λ (h : HeadState). h.content) run, ap (λ (h : HeadState). h.vector) run)
serially (Begin worker packet ∷ calls) old new run =
    moved old.group old.partitions old.content old.vector _ run.0 calls new.content new.vector
    (ap (λ (h : HeadState). h.group) run.1.2) (ap (λ (h : HeadState). h.partitions) run.1.2)
    (ap (λ (h : HeadState). h.content) run.1.2) (ap (λ (h : HeadState). h.vector) run.1.2)
    (set_visits old.slots run.0.slots worker (Some (begun packet (next_age old))) run.1.0
    (ap (λ (h : HeadState). h.slots) run.1.2)) (serially calls run.0 new run.2)
serially (Read worker key change (Value value) ∷ calls) old new run =
    let same = run.1.2.rest in
    moved old.group old.partitions old.content old.vector _ run.0 calls new.content new.vector
    (ap (λ (h : HeadState). h.group) same) (ap (λ (h : HeadState). h.partitions) same)
    (ap (λ (h : HeadState). h.content) same) (ap (λ (h : HeadState). h.vector) same)
    (read_visits old run.0 worker run.1.0 key change value run.1.1.slot run.1.2) (serially calls run.0 new run.2)
serially (Read worker key change (Blocked holder) ∷ calls) old new run =
    unmoved old run.0 calls new.content new.vector run.1.3 (serially calls run.0 new run.2)
serially (Read worker key change (WoundedRead by) ∷ calls) old new run =
    anew old run.0 worker run.1.0 calls new.content new.vector run.1.1.slot run.1.2 (serially calls run.0 new run.2)
serially (Read worker key change IdleRead ∷ calls) old new run =
    unmoved old run.0 calls new.content new.vector run.1.1 (serially calls run.0 new run.2)
serially (Read worker key change NotAsked ∷ calls) old new run = absurd run.1
serially (Commit worker writes (Done log) ∷ calls) old new run =
    let made = run.1.2 in (
      committed old worker run.1.0 writes log run.1.1.slot made.current made.no_log made.logged,
      moved old.group old.partitions (written writes old.content)
          (vector_after old.partitions writes old.vector) _ run.0 calls new.content new.vector
          (ap (λ (h : HeadState). h.group) made.rest)
          (ap (λ (h : HeadState). h.partitions) made.rest) made.content made.vector
          (idle_visits old.slots run.0.slots worker made.slots) (serially calls run.0 new run.2),
    )
serially (Commit worker writes (WoundedCommit by) ∷ calls) old new run =
    anew old run.0 worker run.1.0 calls new.content new.vector run.1.1.slot run.1.2 (serially calls run.0 new run.2)
serially (Commit worker writes IdleCommit ∷ calls) old new run =
    unmoved old run.0 calls new.content new.vector run.1.1 (serially calls run.0 new run.2)
serially (Commit worker writes NoMemory ∷ calls) old new run =
    unmoved old run.0 calls new.content new.vector run.1.2 (serially calls run.0 new run.2)
serially (Quit worker ∷ calls) old new run =
    let same = run.1.rest in
    moved old.group old.partitions old.content old.vector _ run.0 calls new.content new.vector
    (ap (λ (h : HeadState). h.group) same) (ap (λ (h : HeadState). h.partitions) same)
    (ap (λ (h : HeadState). h.content) same) (ap (λ (h : HeadState). h.vector) same)
    (idle_visits old.slots run.0.slots worker run.1.slots) (serially calls run.0 new run.2)
