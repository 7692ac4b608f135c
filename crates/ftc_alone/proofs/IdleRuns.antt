-- Slots that stay idle through a job.
use Rattle.std.proofs.Common.{◌≡◌, ◌∙◌, ℕ, Result, Ok, Err, OnOk, OnErr, Option, Some, List, None, inl, inr, sym, ap}
use Rattle.std.proofs.Common.{subst}
use Rattle.std.proofs.lemmas.Bool.{cases_eq}
use Rattle.ftc_journal.specs.declared.job.Job.{Job}
use Rattle.ftc_journal.specs.declared.job.Job.TheVariants as job
use Rattle.ftc_txn.specs.Head.{HeadState}
use Rattle.ftc_network.specs.Slots.{runs_in, IsIdleHead}
use Rattle.ftc_chain.specs.ChainRun.{ChainRun}
use Rattle.ftc_chain.specs.Slots.{head_in, IsIdle, AreIdle, IsButHeads, HeadsStay, OthersStay, HeadsAfter}
use Rattle.ftc_chain.proofs.HeadsKept.{idle_runs}

-- where all heads are as they were
stay_idle : (old new : ChainRun) (worker : ℕ) → HeadsStay old new → IsIdle old worker → IsIdle new worker
stay_idle old new worker stay idle server =
    ap (λ (head : Option HeadState). runs_in head worker) (stay server) ∙ idle server

-- where one server has a head that runs nothing, or none
but_one_idle : (old new : ChainRun) (worker server : ℕ) → runs_in (head_in new server) worker ≡ None →
    OthersStay server old new → IsIdle old worker → IsIdle new worker
but_one_idle old new worker server here others idle at = elim (cases_eq at server) [
  | inl same ↦ ap (λ (n : ℕ). runs_in (head_in new n) worker) same ∙ here
  | inr differs ↦ ap (λ (head : Option HeadState). runs_in head worker) (others at differs) ∙ idle at
]

idle_after : (done : Job) (old new : ChainRun) (worker : ℕ) → HeadsAfter done old new → IsIdle old worker →
    IsIdle new worker
idle_after (job.Crash server) old new worker (down, others) =
    but_one_idle old new worker server (ap (λ (head : Option HeadState). runs_in head worker) down) others
idle_after (job.Recover server) old new worker (idle, others) =
    but_one_idle old new worker server (idle_runs (head_in new server) worker idle) others
idle_after (job.Enter packet) old new worker stay = stay_idle old new worker stay
idle_after (job.Take link origin) old new worker stay = stay_idle old new worker stay
idle_after (job.Apply server origin group packet) old new worker stay = stay_idle old new worker stay
idle_after (job.Visit server packet) old new worker stay = stay_idle old new worker stay
idle_after (job.Pass server origin) old new worker stay = stay_idle old new worker stay
idle_after (job.Lose server origin) old new worker stay = stay_idle old new worker stay
idle_after (job.Carry origin) old new worker stay = stay_idle old new worker stay
idle_after (job.Pull link) old new worker stay = stay_idle old new worker stay
idle_after (job.Propagate origin) old new worker stay = stay_idle old new worker stay

-- a step is made, or refused
pub idle_stepped : {A E : Type 0} (result : Result A E) (done : Job) (old new : ChainRun) →
    OnOk result (HeadsAfter done old new) → OnErr result (new ≡ old) → AreIdle old → AreIdle new
idle_stepped (Ok value) done old new heads same idle worker below =
    idle_after done old new worker heads (idle worker below)
idle_stepped (Err fault) done old new heads same idle worker below = subst AreIdle (sym same) idle worker below

-- nothing at all differs
pub same_but : (old new : ChainRun) → new ≡ old → IsButHeads old new
same_but old new same =
    same ∙ ap (λ (heads : List (Option HeadState)). record old { heads = heads })
    (ap (λ (run : ChainRun). run.heads) (sym same))

pub refused_but : {A E : Type 0} (result : Result A E) (old new : ChainRun) → OnErr result (new ≡ old) →
    OnErr result (IsButHeads old new)
refused_but (Ok value) old new same = tt
refused_but (Err fault) old new same = same_but old new same

-- heads differed before, and then
pub but_on : (first now new : ChainRun) → IsButHeads first now → IsButHeads now new → IsButHeads first new
but_on first now new one other = other ∙ ap (λ (run : ChainRun). record run { heads = new.heads }) one
