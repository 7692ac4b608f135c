-- The jobs of a chain that no slot runs, and those that are wanted.
use Rattle.std.proofs.Common.{◌≡◌, ◌∙◌, ℕ, Bool, true, false, not, List, Option, ap, refl, subst, sym}
use Rattle.std.proofs.Math.Logic.{∥∥₁_elim, ∥∥₁_map}
use Rattle.std.specs.Coded.{Coded-set, coded_bool}
use Rattle.std.specs.Prelude.{IfSome}
use Rattle.std.proofs.lemmas.Option.{IfSome_then}
use Rattle.ftc_jobs.specs.All.{AreJobs, IsUntaken, is_running_by}
use Rattle.ftc_jobs.specs.Beside.{is_sought, IsWanted, IsNoneWanted}
use Rattle.ftc_journal.specs.declared.job.Job.{Job}
use Rattle.ftc_journal.specs.declared.job.Job.TheVariants as job
use Rattle.ftc_protocol.specs.Setting.{Setting}
use Rattle.ftc_protocol.specs.State.{ChainState}
use Rattle.ftc_txn.specs.Head.{HeadState}
use Rattle.ftc_network.specs.Slots.{is_running_in}
use Rattle.ftc_chain.specs.ChainRun.{ChainRun, setting_in, chain_state}
use Rattle.ftc_chain.specs.Course.{IsCourseResting, state_by}
use Rattle.ftc_chain.specs.Doing.{setting_by}
use Rattle.ftc_chain.specs.declared.course.Course.{Course}
use Rattle.ftc_chain.specs.declared.given.Given.{Given}
use Rattle.ftc_chain.specs.Slots.{is_running_at}
use Rattle.ftc_chain.proofs.HeadsKept.{head_as}
use Rattle.ftc_chain.proofs.Made.{run_of}

untaken_as : (runs other : ℕ → ℕ → Bool) → ((server packet : ℕ) → other server packet ≡ runs server packet) →
    (done : Job) → IsUntaken runs done → IsUntaken other done
untaken_as runs other same (job.Visit server packet) is = same server packet ∙ is
untaken_as runs other same done is = is

wanted_as : (visits : Bool) (runs other : ℕ → ℕ → Bool) →
    ((server packet : ℕ) → other server packet ≡ runs server packet) → (done : Job) →
    is_sought visits other done ≡ is_sought visits runs done
wanted_as false runs other same done = refl
wanted_as true runs other same (job.Visit server packet) = ap not (same server packet)
wanted_as true runs other same done = refl

module _ (given : Given) (course : Course) where
  abbrev runs : ℕ → ℕ → Bool
  runs = is_running_by course.network

  abbrev seen : ℕ → ℕ → Bool
  seen = is_running_at (run_of given course)

  -- what slots run, as a contract sees it
  runs_as : (server packet : ℕ) → seen server packet ≡ runs server packet
  runs_as server packet = ap (λ (head : Option HeadState). is_running_in head packet)
      (head_as course.network.servers.items server)

  module _ (setting : Setting) (state : ChainState) where
    -- the jobs that no slot of the network runs are those that no slot runs as a contract sees them
    pub seen_jobs : (jobs : List Job) → AreJobs runs setting state jobs → AreJobs seen setting state jobs
    seen_jobs jobs are = record {
      each = λ done. (
        (λ any. let both = (are.each done).0 any in (both.0, untaken_as runs seen runs_as done both.1)),
        (λ both. (are.each done).1
            (both.0, untaken_as seen runs (λ server packet. sym (runs_as server packet)) done both.1)),
      );
      once = are.once;
    }

    -- and so it is with those that are wanted
    seen_wanted : (visits : Bool) (done : Job) → IsWanted visits runs setting state done →
        IsWanted visits seen setting state done
    seen_wanted visits done is =
        record { legal = is.legal; wanted = wanted_as visits runs seen runs_as done ∙ is.wanted }

    seen_unwanted : (visits : Bool) → IsNoneWanted visits runs setting state →
        IsNoneWanted visits seen setting state
    seen_unwanted visits none done legal = wanted_as visits runs seen runs_as done ∙ none done legal

  module _ (run : ChainRun) (is : run_of given course ≡ run) (rests : ∥ IsCourseResting (setting_by given) course ∥₁)
      (visits : Bool)
    where
      abbrev setting : Setting
      setting = setting_by given

      abbrev state : ChainState
      state = state_by setting course.journal.items

      -- what was found at rest is wanted as a contract sees it
      pub wanted_found : (Fact : Job → Type 0) (found : Option Job) →
          ((done : Job) → Fact done → IsCourseResting setting course → IsWanted visits runs setting state done) →
          IfSome found Fact →
          IfSome found (λ done. ∥ IsWanted visits (is_running_at run) (setting_in run) (chain_state run) done ∥₁)
      wanted_found Fact found wanted =
          subst (λ (r : ChainRun). IfSome found Fact →
          IfSome found (λ (done : Job). ∥ IsWanted visits (is_running_at r) (setting_in r) (chain_state r) done ∥₁)) is
          (λ facts. IfSome_then found facts (λ done fact. ∥∥₁_map rests (λ resting.
          seen_wanted setting state visits done (wanted done fact resting))))

      -- and where none is wanted at rest, none is
      pub none_wanted : (IsCourseResting setting course → IsNoneWanted visits runs setting state) →
          IsNoneWanted visits (is_running_at run) (setting_in run) (chain_state run)
      none_wanted none =
          subst (λ (r : ChainRun). IsNoneWanted visits (is_running_at r) (setting_in r) (chain_state r)) is
          (λ done legal. ∥∥₁_elim rests (Coded-set coded_bool _ _) (λ resting.
          seen_unwanted setting state visits (none resting) done legal))
