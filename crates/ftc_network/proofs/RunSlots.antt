-- What slots run after a read or a quit, they ran before.
use Rattle.std.proofs.Common.{◌≡◌, ◌∙◌, ℕ, List, Option, Some, None, slice_set, inl, inr, refl, sym, ap}
use Rattle.std.proofs.lemmas.Bool.{cases_eq, cases_Bool}
use Rattle.std.proofs.lemmas.Option.{same_Some}
use Rattle.ftc_base.specs.Partition.{partition_of}
use Rattle.ftc_locks.specs.Locks.{conflicts}
use Rattle.ftc_server.specs.declared.server.Server.{Server}
use Rattle.ftc_server.specs.State.{ServerState}
use Rattle.ftc_server.specs.Steps.{HasQuit, Reads}
use Rattle.ftc_txn.specs.Head.{HeadState}
use Rattle.ftc_txn.specs.Slots.{Running, slot_at, restarted, wounded_by}
use Rattle.ftc_txn.specs.declared.answers.ReadAnswer.{ReadAnswer}
use Rattle.ftc_txn.specs.declared.answers.ReadAnswer.TheVariants.{Value, Blocked, Wounded, Idle, NotAsked}
use Rattle.ftc_txn.proofs.Serially.{slot_set_none}
use Rattle.ftc_network.specs.Stand.{RunNothingElse}
use Rattle.ftc_network.proofs.BegunSlots.{set_to}
use Rattle.ftc_network.proofs.IdleSlots.{set_other}
use Rattle.ftc_network.proofs.ReadySlots.{same_runs}

-- where a slot was made idle
pub emptied_runs : (old new : Server) (worker : ℕ) → new.head.slots ≡ slice_set old.head.slots worker None →
    RunNothingElse old new
emptied_runs old new worker same other running runs =
    let runs_there : slot_at (slice_set old.head.slots worker None) other ≡ Some running =
    ap (λ (s : List (Option Running)). slot_at s other) (sym same) ∙ runs in
    elim (cases_eq other worker) [
      | inl this ↦ absurd (let none : None ≡ Some running =
          sym (slot_set_none old.head.slots worker)
          ∙ (ap (slot_at (slice_set old.head.slots worker None)) (sym this) ∙ runs_there) in cc)
      | inr differs ↦ (running, sym (set_other old.head.slots worker None other differs) ∙ runs_there, refl)
    ]

pub quit_runs : (old new : Server) (worker : ℕ) → HasQuit old new worker → RunNothingElse old new
quit_runs old new worker quits = emptied_runs old new worker quits.head.slots

-- what was wounded ran before
wounded_runs : (worker : ℕ) (slot : Option Running) (running : Running) → wounded_by worker slot ≡ Some running →
    (before : Running) × (slot ≡ Some before) × (running.packet ≡ before.packet)
wounded_runs worker None running is = absurd cc
wounded_runs worker (Some before) running is = (
  before,
  refl,
  ap (λ (r : Running). r.packet)
      (sym (same_Some (record before { wounded = Some worker }) running is)),
)

-- what a slot that was restarted runs it ran before
pub restarted_runs : (old new : Server) (worker : ℕ) (before : Running) → slot_at old.head.slots worker ≡ Some before →
    new.head ≡ record old.head { slots = slice_set old.head.slots worker (Some (restarted before)) } →
    RunNothingElse old new
restarted_runs old new worker before was is other running runs =
    let set = slice_set old.head.slots worker (Some (restarted before)) in
    let runs_there : slot_at set other ≡ Some running =
    ap (λ (h : HeadState). slot_at h.slots other) (sym is) ∙ runs in
    elim (cases_eq other worker) [
      | inl same ↦
          let this = set_to old.head.slots worker (restarted before) running
          (ap (slot_at set) (sym same) ∙ runs_there) in
          (before, ap (slot_at old.head.slots) same ∙ was, ap (λ (r : Running). r.packet) (sym this))
      | inr differs ↦ (
        running,
        sym (set_other old.head.slots worker (Some (restarted before)) other differs) ∙ runs_there,
        refl,
      )
    ]

pub read_runs : (old new : Server) (worker : ℕ) (key : List ℕ) (answer : ReadAnswer) → Reads old new worker key answer →
    RunNothingElse old new
read_runs old new worker key (Value value) reads other running runs =
    let before : Running = reads.head.0 in
    let done = reads.head.2 in
    let part = partition_of old.head.partitions key in
    elim (cases_eq other worker) [
      | inl same ↦
          let this = same_Some _ running (sym done.answered ∙ (ap (slot_at new.head.slots) (sym same) ∙ runs)) in
          (before, ap (slot_at old.head.slots) same ∙ reads.head.1.slot, ap (λ (r : Running). r.packet) (sym this))
      | inr differs ↦ elim (cases_Bool (conflicts old.head.locks worker part reads.change other)) [
        | inl in_the_way ↦ wounded_runs worker (slot_at old.head.slots other) running
            (sym (done.wounded other in_the_way) ∙ runs)
        | inr apart ↦ (running, sym (done.others other differs apart) ∙ runs, refl)
      ]
    ]
read_runs old new worker key (Blocked holder) reads other running runs =
    same_runs old new reads.head.3 other running runs
read_runs old new worker key (Wounded by) reads other running runs =
    restarted_runs old new worker reads.head.0 reads.head.1.slot reads.head.2 other running runs
read_runs old new worker key Idle reads other running runs = same_runs old new reads.head.1 other running runs
read_runs old new worker key NotAsked reads other running runs =
    same_runs old new (ap (λ (s : ServerState). s.head) reads.rest) other running runs

-- the messages and the replicas are as they were
pub read_fields : (old new : Server) (worker : ℕ) (key : List ℕ) (answer : ReadAnswer) →
    Reads old new worker key answer →
    (new.others.items ≡ old.others.items) × (new.held.items ≡ old.held.items)
read_fields old new worker key (Value value) reads =
    (ap (λ (s : ServerState). s.others) reads.rest, ap (λ (s : ServerState). s.held.items) reads.rest)
read_fields old new worker key (Blocked holder) reads =
    (ap (λ (s : ServerState). s.others) reads.rest, ap (λ (s : ServerState). s.held.items) reads.rest)
read_fields old new worker key (Wounded by) reads =
    (ap (λ (s : ServerState). s.others) reads.rest, ap (λ (s : ServerState). s.held.items) reads.rest)
read_fields old new worker key Idle reads =
    (ap (λ (s : ServerState). s.others) reads.rest, ap (λ (s : ServerState). s.held.items) reads.rest)
read_fields old new worker key NotAsked reads =
    (ap (λ (s : ServerState). s.others) reads.rest, ap (λ (s : ServerState). s.held.items) reads.rest)
