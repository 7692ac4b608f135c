-- What happened, as a run, and what a call does to it.
use Rattle.std.specs.Prelude.{ℕ, ◌≡◌, ◌≢◌, ◌++◌, ◌∷◌, List, None}
use Rattle.ftc_journal.specs.declared.event.Event.{Event}
use Rattle.ftc_journal.specs.declared.job.Job.{Job}
use Rattle.ftc_network.specs.declared.network.Network.{Network}
use Rattle.ftc_network.specs.Slots.{head_at, runs_in}
use Rattle.ftc_network.specs.Stand.{IsNetwork}
use Rattle.ftc_protocol.specs.Drive.{IsNoneDue, AreReleases}
use Rattle.ftc_protocol.specs.Jobs.{event_of}
use Rattle.ftc_protocol.specs.Moment.{released_in}
use Rattle.ftc_protocol.specs.Next.{next}
use Rattle.ftc_protocol.specs.Run.{IsRun, state_after}
use Rattle.ftc_protocol.specs.Setting.{Setting, IsSetting}
use Rattle.ftc_protocol.specs.State.{ChainState, opening}
use Rattle.ftc_chain.specs.declared.course.Course.{Course}
use Rattle.ftc_chain.specs.ChainRun.{ChainRun, setting_in, chain_state}
use Rattle.ftc_chain.specs.Outlet.{IsOutlet}

-- the state to which these events lead
abbrev pub state_by : Setting → List Event → ChainState
state_by setting journal = state_after setting (opening setting) journal

-- the journal is a run, the network stands for its state, and the outlet has what was released
pub record IsCourse (setting : Setting) (course : Course) : Type 0 where
  pub right : IsSetting setting
  pub run : IsRun setting course.journal.items
  pub stands : IsNetwork setting (state_by setting course.journal.items) course.network
  pub outlet : IsOutlet (released_in (state_by setting course.journal.items).trace) course.outlet

-- between two calls no release is due
pub record IsCourseResting (setting : Setting) (course : Course) : Type 0 where
  pub course_is : IsCourse setting course
  pub none_due : IsNoneDue setting (state_by setting course.journal.items)

-- there may be more room, and nothing else differs
pub record HasCourseRoomed (old new : Course) : Type 0 where
  pub journal : new.journal.items ≡ old.journal.items
  pub network : new.network ≡ old.network
  pub waiting : new.outlet.waiting ≡ old.outlet.waiting
  pub drained : new.outlet.drained ≡ old.outlet.drained

-- the journal has the releases that are due at its end
pub record HasReleased (setting : Setting) (old new : Course) : Type 0 where
  pub releases : List Event
  pub due : AreReleases setting (state_by setting old.journal.items) releases
  pub grown : new.journal.items ≡ old.journal.items ++ releases
  pub drained : new.outlet.drained ≡ old.outlet.drained
  pub course_is : IsCourse setting new

-- a worker's slot runs something at one server at most
abbrev pub RunsOnce : Network → Type 0
RunsOnce network = (worker one other : ℕ) → one ≢ other → runs_in (head_at network one) worker ≢ None →
    runs_in (head_at network other) worker ≡ None

-- The journal has the job's event at its end, a visit in that slot, and then the releases that are due after it.
-- Nothing else differs but heads.
pub record HasMade (slot : ℕ) (job : Job) (old new : ChainRun) : Type 0 where
  pub releases : List Event
  pub due : AreReleases (setting_in old)
      (next (setting_in old) (chain_state old) (event_of (setting_in old) (chain_state old) slot job)) releases
  pub grown : new ≡ record old {
    journal = old.journal ++ event_of (setting_in old) (chain_state old) slot job ∷ releases;
    heads = new.heads;
  }
