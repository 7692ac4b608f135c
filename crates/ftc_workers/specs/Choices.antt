-- Which jobs a worker may do.
use Rattle.std.specs.Prelude.{ℕ, ◌≡◌, Bool, false, ⊤}
use Rattle.ftc_jobs.specs.All.{IsUntaken}
use Rattle.ftc_jobs.specs.Beside.{is_visit}
use Rattle.ftc_journal.specs.declared.job.Job.{Job}
use Rattle.ftc_journal.specs.declared.job.Job.TheVariants as job
use Rattle.ftc_protocol.specs.Jobs.{IsLegalJob}
use Rattle.ftc_chain.specs.ChainRun.{ChainRun, setting_in, chain_state}
use Rattle.ftc_chain.specs.Slots.{is_running_at}
use Rattle.ftc_workers.specs.declared.choosing.Choice.{Choice}
use Rattle.ftc_workers.specs.declared.choosing.Choice.TheVariants as choice

-- a slot runs the visit that the job is
abbrev pub is_run : (ℕ → ℕ → Bool) → Job → Bool
is_run runs (job.Visit server packet) = runs server packet
is_run runs other = false

-- it is legal, and nobody does it
pub record MayBegin (run : ChainRun) (job : Job) : Type 0 where
  pub legal : ∥ IsLegalJob (setting_in run) (chain_state run) job ∥₁
  pub untaken : IsUntaken (is_running_at run) job

-- a job that was chosen may be begun
abbrev pub IsChoice : ChainRun → Choice → Type 0
IsChoice run (choice.Do job) = MayBegin run job
IsChoice run other = ⊤

-- a job that was chosen is no visit
abbrev pub IsOther : Choice → Type 0
IsOther (choice.Do job) = is_visit job ≡ false
IsOther other = ⊤
