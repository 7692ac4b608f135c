-- The work of a message before which none has work is in its turn where no pull is legal.
use Rattle.std.proofs.Common.{ℕ, refl, sym, subst}
use Rattle.ftc_journal.specs.declared.job.Job.{Job}
use Rattle.ftc_journal.specs.declared.job.Job.TheVariants as job
use Rattle.ftc_protocol.specs.Setting.{Setting}
use Rattle.ftc_protocol.specs.State.{ChainState}
use Rattle.ftc_protocol.specs.Jobs.{IsWork, IsInTurn, IsNoPull, AreIdleBefore}
use Rattle.ftc_jobs.proofs.WorkAt.{at_its_place}

module _ (setting : Setting) (state : ChainState) (server origin : ℕ) (no_pull : IsNoPull setting state)
    (idle : AreIdleBefore setting state server origin) where
  pub work_in_turn : (job : Job) → IsWork setting state server origin job → IsInTurn setting state job
  work_in_turn (job.Apply at own group packet) work =
      at_its_place (IsInTurn setting state) (λ a o. job.Apply a o group packet) server origin at own work.0 work.1
      (no_pull, idle, (refl, refl, work.2, work.3))
  work_in_turn (job.Visit at own) work =
      at_its_place (IsInTurn setting state) (λ a o. job.Visit a o) server origin at own work.0 work.1
      (no_pull, idle, (refl, refl, work.2, work.3))
  work_in_turn (job.Pass at own) work =
      at_its_place (IsInTurn setting state) (λ a o. job.Pass a o) server origin at own work.0 work.1
      (no_pull, idle, (refl, refl, work.2, work.3, work.4))
  work_in_turn (job.Lose at own) work =
      at_its_place (IsInTurn setting state) (λ a o. job.Lose a o) server origin at own work.0 work.1
      (no_pull, idle, (refl, refl, work.2, work.3, work.4))
  work_in_turn (job.Carry own) work =
      subst (λ (o : ℕ). IsInTurn setting state (job.Carry o)) (sym work.1) (
        no_pull,
        subst (λ (s : ℕ). AreIdleBefore setting state s origin) work.0 idle,
        subst (λ (s : ℕ). IsWork setting state s origin (job.Carry origin)) work.0
            (work.0, refl, work.2, work.3, work.4),
      )
  work_in_turn (job.Enter packet) work = absurd work
  work_in_turn (job.Take link own) work = absurd work
  work_in_turn (job.Crash at) work = absurd work
  work_in_turn (job.Recover at) work = absurd work
  work_in_turn (job.Pull link) work = absurd work
  work_in_turn (job.Propagate own) work = absurd work
