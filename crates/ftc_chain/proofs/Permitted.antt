-- What a network may be asked to do where a job is legal, and that the job is done by it.
use Rattle.std.proofs.Common.{◌≡◌, ◌<◌, ◌∙◌, ℕ, true, Bool, List, Result, Ok, Err, OnOk, OnErr, refl, sym, ap, subst}
use Rattle.std.proofs.Math.Bool.{Bool-set}
use Rattle.std.proofs.Math.Logic.{∥∥₁_elim, ∥∥₁_map}
use Rattle.std.proofs.lemmas.Bool.{ltb-true, lt-ltb}
use Rattle.ftc_journal.specs.declared.event.Event.{Event}
use Rattle.ftc_journal.specs.declared.job.Job.{Job}
use Rattle.ftc_journal.specs.declared.job.Job.TheVariants as job
use Rattle.ftc_base.specs.declared.limits.TheConstants.{FINISHING_SLOT}
use Rattle.ftc_protocol.specs.Jobs.{event_of, IsLegalJob, IsWithin}
use Rattle.ftc_protocol.specs.Legal.{IsLegal}
use Rattle.ftc_protocol.specs.Next.{next}
use Rattle.ftc_protocol.specs.Run.{IsRunState, IsRun, state_after}
use Rattle.ftc_protocol.specs.Setting.{Setting, IsSetting}
use Rattle.ftc_protocol.specs.State.{ChainState, opening}
use Rattle.ftc_standing.specs.View.{leaving}
use Rattle.ftc_network.specs.declared.network.Network.{Network}
use Rattle.ftc_network.specs.Events.{IsAllowed, Follows}
use Rattle.ftc_network.specs.Stand.{IsNetwork}
use Rattle.ftc_chain.specs.Doing.{MayDo, IsDone}

-- an event that is legal where the job is
pub allowed_where : {setting : Setting} {job : Job} {event : Event} {network : Network} →
    ∥ MayDo setting job network ∥₁ →
    ((state : ChainState) → IsLegalJob setting state job → IsLegal setting state event) → ∥ IsAllowed event network ∥₁
allowed_where {setting = setting} may legal = ∥∥₁_map may (λ given. record {
  setting = setting;
  state = given.state;
  run = given.run;
  legal = legal given.state given.legal;
  few = given.few;
  stands = given.stands;
})

-- the event of what the job is
pub allowed : {setting : Setting} {job other : Job} {event : Event} {network : Network} →
    ∥ MayDo setting job network ∥₁ → job ≡ other →
    ((state : ChainState) → event ≡ event_of setting state FINISHING_SLOT other) → ∥ IsAllowed event network ∥₁
allowed {setting = setting} may is same = allowed_where may (λ state.
    subst (IsLegal setting state) (ap (event_of setting state FINISHING_SLOT) is ∙ sym (same state)))

-- the job is done by the event of what it is
pub done : {A E : Type 0} {setting : Setting} {job other : Job} {event : Event} {old : Network} →
    ∥ MayDo setting job old ∥₁ → job ≡ other →
    ((state : ChainState) → event ≡ event_of setting state FINISHING_SLOT other) → (result : Result A E)
    (new : Network) → OnOk result (Follows event old new) → OnOk result (IsDone setting FINISHING_SLOT job old new)
done may is same (Err fault) new follows = tt
done {setting = setting} may is same (Ok value) new follows = λ state run legal stands.
    let by = ap (event_of setting state FINISHING_SLOT) is ∙ sym (same state) in
    ∣ subst (λ (e : Event). IsNetwork setting (next setting state e) new) (sym by)
    (follows setting state run (subst (IsLegal setting state) by legal) stands) ∣₁

-- the job was done with what it is
pub done_as : {A E : Type 0} {setting : Setting} {job other : Job} {old : Network} → ∥ MayDo setting job old ∥₁ →
    job ≡ other → (result : Result A E) (new : Network) →
    OnOk result (IsDone setting FINISHING_SLOT other old new) → OnOk result (IsDone setting FINISHING_SLOT job old new)
done_as {setting = setting} {old = old} may is result new =
    subst (λ (j : Job). OnOk result (IsDone setting FINISHING_SLOT j old new)) (sym is)

-- a number is below another in the state
pub is_below : {setting : Setting} {job : Job} {network : Network} → ∥ MayDo setting job network ∥₁ →
    (number most : ℕ) → (MayDo setting job network → number < most) → number < most
is_below may number most from =
    ltb-true number most (∥∥₁_elim may (Bool-set _ _) (λ given. lt-ltb number most (from given)))

-- a test is true in the state
pub is_true : {setting : Setting} {job : Job} {network : Network} → ∥ MayDo setting job network ∥₁ → (test : Bool) →
    (MayDo setting job network → test ≡ true) → test ≡ true
is_true may test from = ∥∥₁_elim may (Bool-set _ _) from

-- a message that its link loses leaves
pub may_leave : {setting : Setting} {server origin : ℕ} {network : Network} {lost : Bool} →
    ∥ MayDo setting (job.Lose server origin) network ∥₁ → lost ≡ true →
    ∥ IsAllowed (leaving lost server origin) network ∥₁
may_leave {server = server} {origin = origin} may is_lost =
    allowed may refl (λ state. ap (λ (b : Bool). leaving b server origin) is_lost)

-- a job that is legal in the state to which a run leads has the numbers of servers and messages
pub within_of : (setting : Setting) (state : ChainState) (job : Job) → IsRunState setting state →
    ((journal : List Event) → IsSetting setting → IsRun setting journal →
    IsLegalJob setting (state_after setting (opening setting) journal) job → IsWithin setting job) →
    IsLegalJob setting state job → IsWithin setting job
within_of setting state job run within legal = within run.journal run.right run.run
    (subst (λ (s : ChainState). IsLegalJob setting s job) (sym run.reaches) legal)
