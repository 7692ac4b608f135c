-- What the calls on a chain leave of it, for the latch.
use Rattle.std.proofs.Common.{◌≡◌, ◌+◌, ◌++◌, ◌∷◌, ℕ, List, Option, false, refl, ap, sym, ◌∙◌, arith, Result, Ok, Err}
use Rattle.std.proofs.Common.{OnOk, OnErr}
use Rattle.std.proofs.Math.Logic.{∥∥₁_elim}
use Rattle.std.specs.Coded.{Coded-set, coded_ℕ}
use Rattle.ftc_journal.specs.declared.event.Event.{Event}
use Rattle.ftc_journal.specs.declared.job.Job.{Job}
use Rattle.ftc_journal.specs.declared.job.Job.TheVariants as job
use Rattle.ftc_protocol.specs.Jobs.{event_of, IsLegalJob}
use Rattle.ftc_protocol.specs.Next.{next}
use Rattle.ftc_server.specs.declared.answers.CommitAnswer.{CommitAnswer}
use Rattle.ftc_server.specs.declared.answers.CommitAnswer.TheVariants as answer
use Rattle.ftc_chain.specs.declared.chain.Chain.{the_code}
use Rattle.ftc_chain.specs.ChainRun.{ChainRun, setting_in, chain_state}
use Rattle.ftc_chain.specs.Course.{HasMade}
use Rattle.ftc_chain.specs.Doing.{is_visit}
use Rattle.ftc_chain.specs.Slots.{IsButHeads, CommitsAt, ReadsAt}
use Rattle.ftc_txn.specs.Head.{HeadState}
use Rattle.ftc_txn.specs.declared.answers.ReadAnswer.{ReadAnswer}
use Rattle.ftc_txn.specs.declared.answers.ReadAnswer.TheVariants as read
use Rattle.ftc_alone.proofs.IdleRuns.{same_but}
use Rattle.ftc_workers.specs.Given.{given_of, HasGone, made_by}
use Rattle.ftc_workers.specs.Visits.{visits, visits_of}
use Rattle.ftc_workers.proofs.Counts.{visits_append, releases_count, step_counts}

-- nothing is other than it was but the journal and the heads
abbrev pub IsRest : ChainRun → ChainRun → Type 0
IsRest old new = new ≡ record old { journal = new.journal; heads = new.heads }

pub gone_by : (more : ℕ) (old new : ChainRun) → IsRest old new → visits new.journal ≡ visits old.journal + more →
    HasGone more old new
gone_by more old new rest count = record {
  given = ap given_of rest;
  packets = ap (λ (run : ChainRun). run.packets) rest;
  drained = ap (λ (run : ChainRun). run.drained) rest;
  visits_more = count;
}

heads_rest : (old new : ChainRun) → IsButHeads old new → IsRest old new
heads_rest old new is =
    let journal : new.journal ≡ old.journal = ap (λ (run : ChainRun). run.journal) is in
    is ∙ ap (λ (events : List Event). record old { journal = events; heads = new.heads }) (sym journal)

same_rest : (old new : ChainRun) → new ≡ old → IsRest old new
same_rest old new same =
    same ∙ ap (λ (run : ChainRun). record old { journal = run.journal; heads = run.heads }) (sym same)

pub gone_but_heads : (old new : ChainRun) → IsButHeads old new → HasGone 0 old new
gone_but_heads old new is =
    let journal : new.journal ≡ old.journal = ap (λ (run : ChainRun). run.journal) is in
    gone_by 0 old new (heads_rest old new is) (omega (arith, ap visits journal))

pub gone_nowhere : (old new : ChainRun) → new ≡ old → HasGone 0 old new
gone_nowhere old new same =
    gone_by 0 old new (same_rest old new same) (omega (arith, ap (λ (run : ChainRun). visits run.journal) same))

-- ---- a job is made

made_rest : (slot : ℕ) (job : Job) (old new : ChainRun) → HasMade slot job old new → IsRest old new
made_rest slot job old new made =
    made.grown
    ∙ ap (λ (events : List Event). record old { journal = events; heads = new.heads })
    (ap (λ (run : ChainRun). run.journal) (sym made.grown))

made_counts : (slot : ℕ) (job : Job) (old new : ChainRun) → HasMade slot job old new →
    visits new.journal ≡ visits old.journal + visits_of (event_of (setting_in old) (chain_state old) slot job)
made_counts slot job old new made =
    let one : Event = event_of (setting_in old) (chain_state old) slot job in
    let journal : new.journal ≡ old.journal ++ one ∷ made.releases = ap (λ (run : ChainRun). run.journal) made.grown in
    let none = releases_count (setting_in old) (next (setting_in old) (chain_state old) one) made.releases made.due in
    omega (arith, ap visits journal, visits_append old.journal (one ∷ made.releases), none)

pub gone_by_job : (slot more : ℕ) (job : Job) (old new : ChainRun) →
    visits_of (event_of (setting_in old) (chain_state old) slot job) ≡ more → ∥ HasMade slot job old new ∥₁ →
    HasGone more old new
gone_by_job slot more job old new counts made =
    gone_by more old new
    (∥∥₁_elim made (Coded-set the_code new _) (made_rest slot job old new))
    (∥∥₁_elim made (Coded-set coded_ℕ _ _) (λ is. omega (arith, made_counts slot job old new is, counts)))

-- a step is made, or refused
pub gone_by_step : {A E : Type 0} (result : Result A E) (slot : ℕ) (job : Job) (old new : ChainRun) →
    is_visit job ≡ false → OnOk result (∥ HasMade slot job old new ∥₁) → OnErr result (new ≡ old) →
    HasGone 0 old new
gone_by_step (Ok value) slot job old new other ok err =
    gone_by_job slot 0 job old new (step_counts (setting_in old) (chain_state old) slot job other) ok
gone_by_step (Err fault) slot job old new other ok err = gone_nowhere old new err

-- a message is taken, or that is refused
pub gone_by_take : {A E : Type 0} (result : Result A E) (slot link : ℕ) (old new : ChainRun) →
    ∥ ((origin : ℕ) × IsLegalJob (setting_in old) (chain_state old) (job.Take link origin)) ∥₁ →
    OnOk result ((origin : ℕ) → IsLegalJob (setting_in old) (chain_state old) (job.Take link origin) →
    ∥ HasMade slot (job.Take link origin) old new ∥₁) → OnErr result (new ≡ old) → HasGone 0 old new
gone_by_take (Ok value) slot link old new legal ok err =
    gone_by 0 old new
    (∥∥₁_elim legal (Coded-set the_code new _) (λ is.
    ∥∥₁_elim (ok is.0 is.1) (Coded-set the_code new _) (made_rest slot (job.Take link is.0) old new)))
    (∥∥₁_elim legal (Coded-set coded_ℕ _ _) (λ is.
    (gone_by_job slot 0 (job.Take link is.0) old new
    (step_counts (setting_in old) (chain_state old) slot (job.Take link is.0) refl) (ok is.0 is.1)).visits_more))
gone_by_take (Err fault) slot link old new legal ok err = gone_nowhere old new err

-- ---- a commit

commit_rest : (old new : ChainRun) (worker : ℕ) (result : CommitAnswer) → CommitsAt old new worker result →
    IsRest old new
commit_rest old new worker answer.Done is =
    made_rest worker (job.Visit is.server is.running.packet) old new is.made
commit_rest old new worker (answer.Wounded by) is = heads_rest old new is.rest
commit_rest old new worker answer.Idle (idle, same) = same_rest old new same
commit_rest old new worker (answer.Unfinished key) (change, asking, same) = same_rest old new same
commit_rest old new worker answer.NoMemory (end, asking, same) = same_rest old new same

commit_counts : (old new : ChainRun) (worker : ℕ) (result : CommitAnswer) → CommitsAt old new worker result →
    visits new.journal ≡ visits old.journal + made_by result
commit_counts old new worker answer.Done is =
    made_counts worker (job.Visit is.server is.running.packet) old new is.made
commit_counts old new worker (answer.Wounded by) is = (gone_but_heads old new is.rest).visits_more
commit_counts old new worker answer.Idle (idle, same) = (gone_nowhere old new same).visits_more
commit_counts old new worker (answer.Unfinished key) (change, asking, same) = (gone_nowhere old new same).visits_more
commit_counts old new worker answer.NoMemory (end, asking, same) = (gone_nowhere old new same).visits_more

pub gone_by_commit : (old new : ChainRun) (worker : ℕ) (result : CommitAnswer) →
    ∥ CommitsAt old new worker result ∥₁ → HasGone (made_by result) old new
gone_by_commit old new worker result is =
    gone_by (made_by result) old new
    (∥∥₁_elim is (Coded-set the_code new _) (commit_rest old new worker result))
    (∥∥₁_elim is (Coded-set coded_ℕ _ _) (commit_counts old new worker result))

-- ---- a read

read_rest : (old new : ChainRun) (worker : ℕ) (key : List ℕ) (result : ReadAnswer) → ReadsAt old new worker key result →
    IsButHeads old new
read_rest old new worker key (read.Value value) is = is.rest
read_rest old new worker key (read.Blocked holder) is = is.rest
read_rest old new worker key (read.Wounded by) is = is.rest
read_rest old new worker key read.Idle (idle, same) = same_but old new same
read_rest old new worker key read.NotAsked (unasked, same) = same_but old new same

pub gone_by_read : (old new : ChainRun) (worker : ℕ) (key : List ℕ) (result : ReadAnswer) →
    ∥ ReadsAt old new worker key result ∥₁ → HasGone 0 old new
gone_by_read old new worker key result is =
    gone_but_heads old new (∥∥₁_elim is (Coded-set the_code new _) (read_rest old new worker key result))
