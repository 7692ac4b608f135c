-- Jobs that a worker may do.
use Rattle.std.proofs.Common.{◌≡◌, Bool, true, false, not, refl}
use Rattle.std.proofs.Math.Logic.{∥∥₁_map, ∥∥₁_elim}
use Rattle.std.specs.Coded.{Coded-set, coded_bool}
use Rattle.std.proofs.lemmas.Bool.{not-true}
use Rattle.ftc_journal.specs.declared.job.Job.{Job}
use Rattle.ftc_journal.specs.declared.job.Job.TheVariants as job
use Rattle.ftc_jobs.specs.All.{IsUntaken}
use Rattle.ftc_jobs.specs.Beside.{is_visit, is_sought, IsWanted}
use Rattle.ftc_protocol.specs.Jobs.{IsFirstJob}
use Rattle.ftc_chain.specs.ChainRun.{ChainRun, setting_in, chain_state}
use Rattle.ftc_chain.specs.Slots.{is_running_at}
use Rattle.ftc_workers.specs.Choices.{is_run, MayBegin}

-- a job is nobody's where no slot runs the visit that it is
untaken_step : (run : ChainRun) (done : Job) → is_run (is_running_at run) done ≡ false →
    IsUntaken (is_running_at run) done
untaken_step run (job.Visit server packet) free = free
untaken_step run (job.Enter packet) free = tt
untaken_step run (job.Take link origin) free = tt
untaken_step run (job.Apply server origin group packet) free = tt
untaken_step run (job.Pass server origin) free = tt
untaken_step run (job.Lose server origin) free = tt
untaken_step run (job.Carry origin) free = tt
untaken_step run (job.Crash server) free = tt
untaken_step run (job.Recover server) free = tt
untaken_step run (job.Pull link) free = tt
untaken_step run (job.Propagate origin) free = tt

-- the first job, where no slot runs it
pub may_first : (run : ChainRun) (done : Job) → is_run (is_running_at run) done ≡ false →
    ∥ IsFirstJob (setting_in run) (chain_state run) done ∥₁ → MayBegin run done
may_first run done free first = record {
  legal = ∥∥₁_map first (λ is. is.legal);
  untaken = untaken_step run done free;
}

-- a wanted job is nobody's
untaken_wanted : (run : ChainRun) (visits : Bool) (done : Job) → is_sought visits (is_running_at run) done ≡ true →
    IsUntaken (is_running_at run) done
untaken_wanted run true (job.Visit server packet) wanted = not-true (is_running_at run server packet) wanted
untaken_wanted run false (job.Visit server packet) wanted = absurd cc
untaken_wanted run visits (job.Enter packet) wanted = tt
untaken_wanted run visits (job.Take link origin) wanted = tt
untaken_wanted run visits (job.Apply server origin group packet) wanted = tt
untaken_wanted run visits (job.Pass server origin) wanted = tt
untaken_wanted run visits (job.Lose server origin) wanted = tt
untaken_wanted run visits (job.Carry origin) wanted = tt
untaken_wanted run visits (job.Crash server) wanted = tt
untaken_wanted run visits (job.Recover server) wanted = tt
untaken_wanted run visits (job.Pull link) wanted = tt
untaken_wanted run visits (job.Propagate origin) wanted = tt

is_so : (run : ChainRun) (visits : Bool) (done : Job) →
    ∥ IsWanted visits (is_running_at run) (setting_in run) (chain_state run) done ∥₁ →
    is_sought visits (is_running_at run) done ≡ true
is_so run visits done is = ∥∥₁_elim is (Coded-set coded_bool _ _) (λ it. it.wanted)

pub may_wanted : (run : ChainRun) (visits : Bool) (done : Job) →
    ∥ IsWanted visits (is_running_at run) (setting_in run) (chain_state run) done ∥₁ → MayBegin run done
may_wanted run visits done is = record {
  legal = ∥∥₁_map is (λ it. it.legal);
  untaken = untaken_wanted run visits done (is_so run visits done is);
}

-- what is wanted where visits aren't is no visit
pub other_wanted : (run : ChainRun) (done : Job) →
    ∥ IsWanted false (is_running_at run) (setting_in run) (chain_state run) done ∥₁ → is_visit done ≡ false
other_wanted run done is = not-true (is_visit done) (is_so run false done is)
