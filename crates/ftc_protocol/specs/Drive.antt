-- Runs in which nobody chooses: the releases that are due, the finish of a state, and the drive of a schedule.
use Rattle.std.specs.Prelude.{ℕ, ◌≡◌, ◌⊎◌, true, List, [], ◌∷◌, ◌++◌, Some}
use Rattle.ftc_base.specs.declared.limits.TheConstants.{FINISHING_SLOT}
use Rattle.ftc_journal.specs.declared.event.Event.{Event}
use Rattle.ftc_journal.specs.declared.job.Job.{Job}
use Rattle.ftc_journal.specs.Job.{job_of}
use Rattle.ftc_protocol.specs.Setting.{Setting}
use Rattle.ftc_protocol.specs.State.{Withheld, ChainState, opening}
use Rattle.ftc_protocol.specs.Known.{IsDue}
use Rattle.ftc_protocol.specs.Legal.{IsLegal, is_release}
use Rattle.ftc_protocol.specs.Next.{next}
use Rattle.ftc_protocol.specs.Run.{IsFinished, state_after}
use Rattle.ftc_protocol.specs.Jobs.{event_of, slot_of, IsLegalJob, IsFirstJob}

abbrev pub IsNoneDue : Setting → ChainState → Type 0
IsNoneDue setting state = (packet : ℕ) (withheld : Withheld) → IsDue setting state packet withheld → ⊥

-- the releases that are due, one after another, until none is due
abbrev pub AreReleases : Setting → ChainState → List Event → Type 0
AreReleases setting state [] = IsNoneDue setting state
AreReleases setting state (event ∷ events) =
    (is_release event ≡ true) × IsLegal setting state event × AreReleases setting (next setting state event) events

-- What is done next where nobody chooses: the release that is due; where none is, the first job, a visit in the slot
-- for this.
abbrev pub IsNextEvent : Setting → ChainState → Event → Type 0
IsNextEvent setting state event =
    ((is_release event ≡ true) × IsLegal setting state event)
    ⊎ ((job : Job) × IsFirstJob setting state job × (event ≡ event_of setting state FINISHING_SLOT job))

-- the event of a job after a journal, a visit in the slot for this
abbrev pub event_after : Setting → List Event → Job → Event
event_after setting journal job = event_of setting (state_after setting (opening setting) journal) FINISHING_SLOT job

-- the events of a finish: what is next, again and again, until nothing is
abbrev pub AreFinish : Setting → ChainState → List Event → Type 0
AreFinish setting state [] = IsFinished setting state
AreFinish setting state (event ∷ events) =
    IsNextEvent setting state event × AreFinish setting (next setting state event) events

-- a journal, and behind it its finish
pub record IsFinish (setting : Setting) (journal whole : List Event) : Type 0 where
  pub rest : List Event
  pub parts : whole ≡ journal ++ rest
  pub finish : AreFinish setting (state_after setting (opening setting) journal) rest

-- A schedule is played: an event whose job is legal where it is met is made, a visit in its slot, with the releases
-- that are due after it; the others, and releases, are passed over.
abbrev pub IsPassedOver : Setting → ChainState → Event → Type 0
IsPassedOver setting state event = (job : Job) → job_of event ≡ Some job → IsLegalJob setting state job → ⊥

abbrev pub IsPlay : Setting → ChainState → List Event → List Event → Type 0
IsPlay setting state [] events = events ≡ []
IsPlay setting state (event ∷ schedule) events =
    ((job : Job) × (releases : List Event) × (rest : List Event)
    × (job_of event ≡ Some job) × IsLegalJob setting state job
    × AreReleases setting (next setting state (event_of setting state (slot_of event) job)) releases
    × (events ≡ event_of setting state (slot_of event) job ∷ (releases ++ rest))
    × IsPlay setting
    (state_after setting (next setting state (event_of setting state (slot_of event) job)) releases) schedule rest)
    ⊎ (IsPassedOver setting state event × IsPlay setting state schedule events)

-- the drive of a schedule: it is played from the opening state, and then comes the finish
pub record IsDrive (setting : Setting) (schedule whole : List Event) : Type 0 where
  pub played : List Event
  pub play : IsPlay setting (opening setting) schedule played
  pub finish : IsFinish setting played whole
