-- A listed visit is one that no slot runs.
use Rattle.std.proofs.Common.{◌≡◌, ◌<◌, ◌∷◌, [], inl, inr, ℕ, zero, suc, false, List, get_or, length, sym, arith}
use Rattle.std.proofs.Math.Logic.{∥∥₁_elim}
use Rattle.std.specs.Coded.{Coded-set, coded_bool}
use Rattle.ftc_jobs.specs.All.{AreJobs}
use Rattle.ftc_journal.specs.declared.job.Job.{Job}
use Rattle.ftc_journal.specs.declared.job.Job.TheVariants as job
use Rattle.ftc_serial.specs.Words.{AnyOf}
use Rattle.ftc_chain.specs.ChainRun.{ChainRun, setting_in, chain_state}
use Rattle.ftc_chain.specs.Slots.{is_running_at}

pub untaken_listed : (run : ChainRun) (jobs : List Job) (server packet : ℕ) →
    ∥ AreJobs (is_running_at run) (setting_in run) (chain_state run) jobs ∥₁ →
    AnyOf (λ (other : Job). other ≡ job.Visit server packet) jobs → is_running_at run server packet ≡ false
untaken_listed run jobs server packet are any =
    ∥∥₁_elim are (Coded-set coded_bool _ _) (λ is. ((is.each (job.Visit server packet)).0 any).1)

-- the item at a place of the list is in it
pub any_at : (jobs : List Job) (place : ℕ) (done : Job) → place < length jobs → done ≡ get_or jobs place done →
    AnyOf (λ (other : Job). other ≡ done) jobs
any_at [] place done below is = absurd (omega (arith, below))
any_at (one ∷ jobs) zero done below is = inl (sym is)
any_at (one ∷ jobs) (suc place) done below is = inr (any_at jobs place done (omega (arith, below)) is)
