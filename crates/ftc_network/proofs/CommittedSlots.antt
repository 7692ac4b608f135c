-- What slots run after a commit, they ran before, and what a commit leaves.
use Rattle.std.proofs.Common.{◌≡◌, ◌≢◌, ◌<◌, ◌-◌, ◌^◌, ℕ, true, Option, Some, None, Result, Ok, Err, refl, ap, subst}
use Rattle.std.proofs.Math.Bool.{Bool-set}
use Rattle.std.proofs.Math.Logic.{∥∥₁_elim}
use Rattle.std.specs.Prelude.{OnErr, IfErr}
use Rattle.ftc_protocol.specs.Run.{IsRunState}
use Rattle.ftc_server.specs.Replicas.{may_rise}
use Rattle.ftc_visits.specs.declared.visit.MadeVisit.{MadeVisit}
use Rattle.ftc_network.specs.Committing.{IsAtRestAt, commit_answer}
use Rattle.ftc_server.specs.declared.answers.CommitAnswer.{CommitAnswer}
use Rattle.ftc_server.specs.declared.answers.CommitAnswer.TheVariants.{Done, Wounded, Idle, Unfinished, NoMemory}
use Rattle.ftc_server.specs.declared.server.Server.{Server}
use Rattle.ftc_server.specs.State.{ServerState}
use Rattle.ftc_server.specs.Steps.{EndsVisit}
use Rattle.ftc_refinement.specs.Contents.{IsServerAt}
use Rattle.ftc_protocol.specs.Setting.{Setting}
use Rattle.ftc_protocol.specs.State.{ChainState}
use Rattle.ftc_network.specs.Events.{SlotStandsStill}
use Rattle.ftc_network.specs.Parts.{buffer_of}
use Rattle.ftc_network.specs.Slots.{SlotEndsVisit}
use Rattle.ftc_network.specs.Stand.{RunNothingElse, IsSlot, IsUp}
use Rattle.ftc_network.proofs.ReadySlots.{same_runs, run_ready}
use Rattle.ftc_network.proofs.RunSlots.{restarted_runs}

pub undone_runs : (old new : Server) (worker : ℕ) (answer : CommitAnswer) → answer ≢ Done →
    EndsVisit old new worker answer → RunNothingElse old new
undone_runs old new worker Done not ends = absurd (not refl)
undone_runs old new worker (Wounded by) not ends =
    restarted_runs old new worker ends.0 ends.1.slot (ap (λ (s : ServerState). s.head) ends.2)
undone_runs old new worker Idle not ends = same_runs old new (ap (λ (s : ServerState). s.head) ends.1)
undone_runs old new worker (Unfinished key) not ends = same_runs old new (ap (λ (s : ServerState). s.head) ends.4)
undone_runs old new worker NoMemory not ends = same_runs old new (ap (λ (s : ServerState). s.head) ends.4.rest)

-- the messages and the replicas are as they were
pub undone_fields : (old new : Server) (worker : ℕ) (answer : CommitAnswer) → answer ≢ Done →
    EndsVisit old new worker answer → (new.others.items ≡ old.others.items) × (new.held.items ≡ old.held.items)
undone_fields old new worker Done not ends = absurd (not refl)
undone_fields old new worker (Wounded by) not ends =
    (ap (λ (s : ServerState). s.others) ends.2, ap (λ (s : ServerState). s.held.items) ends.2)
undone_fields old new worker Idle not ends =
    (ap (λ (s : ServerState). s.others) ends.1, ap (λ (s : ServerState). s.held.items) ends.1)
undone_fields old new worker (Unfinished key) not ends =
    (ap (λ (s : ServerState). s.others) ends.4, ap (λ (s : ServerState). s.held.items) ends.4)
undone_fields old new worker NoMemory not ends =
    (ap (λ (s : ServerState). s.others) ends.4.rest, ap (λ (s : ServerState). s.held.items) ends.4.rest)

-- a server stands for what it stood for after a commit that isn't done
pub undone_still : (slot : Option Server) (old new : Server) (worker : ℕ) (answer : CommitAnswer) → slot ≡ Some old →
    ((setting : Setting) (state : ChainState) (number : ℕ) → IsServerAt setting state number old →
    EndsVisit old new worker answer → answer ≢ Done → IsServerAt setting state number new) →
    answer ≢ Done → EndsVisit old new worker answer → (number : ℕ) → SlotStandsStill number slot (Some new)
undone_still slot old new worker answer same stands not ends number setting state is =
    let up : IsUp setting state number old = subst (IsSlot setting state number) same is in
    let fields = undone_fields old new worker answer not ends in
    record {
      up = up.up;
      at = stands setting state number up.at ends not;
      ready = run_ready old new (undone_runs old new worker answer not ends) fields.0 fields.1 up.ready;
    }

-- the number of a commit may rise where the server is at rest
pub may_rise_at : (slot : Option Server) (live : Server) (number : ℕ) → slot ≡ Some live →
    ((setting : Setting) (state : ChainState) → IsRunState setting state → IsServerAt setting state number live →
    state.events < 2 ^ 64 - 1 → may_rise live.head.vector ≡ true) →
    ∥ IsAtRestAt number slot ∥₁ → may_rise live.head.vector ≡ true
may_rise_at slot live number same wants rests = ∥∥₁_elim rests (Bool-set _ _) (λ given.
    let up : IsUp given.setting given.state number live =
    subst (IsSlot given.setting given.state number) same given.stands in
    wants given.setting given.state given.run up.at given.few)

-- what is so of each answer by which no visit is made is so where none is
pub where_undone : (old new : Server) (worker : ℕ) (result : Result MadeVisit CommitAnswer) (Fact : Type 0) →
    ((answer : CommitAnswer) → answer ≢ Done → EndsVisit old new worker answer → Fact) →
    EndsVisit old new worker (commit_answer result) → IfErr result (λ answer. answer ≢ Done) → OnErr result Fact
where_undone old new worker (Ok visit) Fact from ends not = tt
where_undone old new worker (Err answer) Fact from ends not = from answer not ends

-- no commit changes what is withheld
ends_buffer : (old new : Server) (worker : ℕ) (answer : CommitAnswer) → EndsVisit old new worker answer →
    new.buffer.items ≡ old.buffer.items
ends_buffer old new worker Done ends = ap (λ (s : ServerState). s.buffer.items) ends.4.rest
ends_buffer old new worker (Wounded by) ends = ap (λ (s : ServerState). s.buffer.items) ends.2
ends_buffer old new worker Idle ends = ap (λ (s : ServerState). s.buffer.items) ends.1
ends_buffer old new worker (Unfinished key) ends = ap (λ (s : ServerState). s.buffer.items) ends.4
ends_buffer old new worker NoMemory ends = ap (λ (s : ServerState). s.buffer.items) ends.4.rest

pub ends_withheld : (old new : Option Server) (worker : ℕ) (answer : CommitAnswer) →
    SlotEndsVisit old new worker answer → buffer_of new ≡ buffer_of old
ends_withheld None new worker answer ends = ap buffer_of ends.0
ends_withheld (Some old) None worker answer ends = absurd ends
ends_withheld (Some old) (Some new) worker answer ends = ends_buffer old new worker answer ends
