-- What a slot runs that another wounded begins again by a read.
use Rattle.std.proofs.Common.{◌≡◌, ◌∙◌, ℕ, true, false, List, Option, None, refl, sym, ap}
use Rattle.std.specs.Prelude.{is_some}
use Rattle.ftc_server.specs.declared.answers.CommitAnswer.TheVariants as commit
use Rattle.ftc_server.specs.declared.server.Server.{Server}
use Rattle.ftc_server.specs.State.{fields_of}
use Rattle.ftc_server.specs.Steps.{Reads, EndsVisit}
use Rattle.ftc_txn.specs.Head.{HeadState, RunsUnwounded}
use Rattle.ftc_txn.specs.Slots.{Running, slot_at, wounded_of, wounded_at}
use Rattle.ftc_txn.specs.declared.answers.ReadAnswer.{ReadAnswer}
use Rattle.ftc_txn.specs.declared.answers.ReadAnswer.TheVariants.{Value, Blocked, Wounded, Idle, NotAsked}

-- a slot can't be wounded and run unwounded, nor be wounded and idle
not_both : (head : HeadState) (worker : ℕ) (running : Running) → is_some (wounded_at head.slots worker) ≡ true →
    RunsUnwounded head worker running → ⊥
not_both head worker running wounded runs =
    let none : wounded_at head.slots worker ≡ None = ap wounded_of runs.slot ∙ runs.unwounded in
    let both : false ≡ true = ap is_some (sym none) ∙ wounded in absurd cc

not_idle : (head : HeadState) (worker : ℕ) → is_some (wounded_at head.slots worker) ≡ true →
    slot_at head.slots worker ≡ None → ⊥
not_idle head worker wounded idle =
    let both : false ≡ true = ap (λ (slot : Option Running). is_some (wounded_of slot)) (sym idle) ∙ wounded in
    absurd cc

-- a wounded slot is told so by a read, and begins again
abbrev IsToldSo : Server → Server → ℕ → ReadAnswer → Type 0
IsToldSo old new worker answer =
    (by : ℕ) × (answer ≡ Wounded by) × EndsVisit old new worker (commit.Wounded by)

pub told_so : (old new : Server) (worker : ℕ) (key : List ℕ) (answer : ReadAnswer) →
    is_some (wounded_at old.head.slots worker) ≡ true → Reads old new worker key answer → IsToldSo old new worker answer
told_so old new worker key (Value value) wounded reads =
    absurd (not_both old.head worker reads.head.0 wounded reads.head.1)
told_so old new worker key (Blocked holder) wounded reads =
    absurd (not_both old.head worker reads.head.0 wounded reads.head.1)
told_so old new worker key (Wounded by) wounded reads = (
  by,
  refl,
  (
    reads.head.0,
    reads.head.1,
    reads.rest ∙ ap (λ (head : HeadState). record (fields_of old) { head = head }) reads.head.2,
  ),
)
told_so old new worker key Idle wounded reads = absurd (not_idle old.head worker wounded reads.head.0)
told_so old new worker key NotAsked wounded reads =
    absurd (not_both old.head worker reads.running wounded reads.runs)
