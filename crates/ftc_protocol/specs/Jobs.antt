-- What may be done next: jobs, and the order in which they are done where nobody chooses.
use Rattle.std.specs.Prelude.{ℕ, ◌≡◌, ◌<◌, ◌⊎◌, List, [], ◌∷◌, Option, Some, None}
use Rattle.ftc_base.specs.declared.limits.TheConstants.{FINISHING_SLOT}
use Rattle.ftc_journal.specs.declared.event.Event.{Event}
use Rattle.ftc_journal.specs.declared.event.Event.TheVariants as event
use Rattle.ftc_journal.specs.declared.job.Job.{Job}
use Rattle.ftc_journal.specs.declared.job.Job.TheVariants as job
use Rattle.ftc_protocol.specs.Setting.{Setting, servers, count}
use Rattle.ftc_protocol.specs.State.{Message, ChainState}
use Rattle.ftc_protocol.specs.Recovery.{undone_visits}
use Rattle.ftc_protocol.specs.Legal.{IsLegal, IsHeld}
use Rattle.ftc_protocol.specs.Measure.{IsBelow, most_messages}

-- The event that does a job: a visit in that slot, and a recovery with the list that is due.
abbrev pub event_of : Setting → ChainState → ℕ → Job → Event
event_of setting state slot (job.Enter packet) = event.Enter packet
event_of setting state slot (job.Take link origin) = event.Take link origin
event_of setting state slot (job.Apply server origin group packet) = event.Apply server origin group packet
event_of setting state slot (job.Visit server packet) = event.Visit server packet slot
event_of setting state slot (job.Pass server origin) = event.Pass server origin
event_of setting state slot (job.Lose server origin) = event.Lose server origin
event_of setting state slot (job.Carry origin) = event.Carry origin
event_of setting state slot (job.Crash server) = event.Crash server
event_of setting state slot (job.Recover server) = event.Recover server (undone_visits setting state server)
event_of setting state slot (job.Pull link) = event.Pull link
event_of setting state slot (job.Propagate origin) = event.Propagate origin

-- a job is legal where its event is, in whatever slot
abbrev pub IsLegalJob : Setting → ChainState → Job → Type 0
IsLegalJob setting state job = IsLegal setting state (event_of setting state FINISHING_SLOT job)

-- the slot in which an event has its visit
abbrev pub slot_of : Event → ℕ
slot_of (event.Visit server packet worker) = worker
slot_of other = FINISHING_SLOT

-- by which event a message came to where it is
abbrev pub since_of : Option Message → ℕ
since_of None = 0
since_of (Some message) = message.since

-- The place of a job in the order: first pulls, by rising link; then the work of held messages, by rising server and
-- in the order of taking, where a message's applies come first, by packet and group, then its visit, and then its
-- pass, lose or carry; then takes, by rising link; then the next `at` line; then an enter; then a propagate. The
-- numbers behind these are not needed to tell legal jobs apart, but make the places of any two jobs differ.
abbrev pub place_of : ChainState → Job → List ℕ
place_of state (job.Pull link) = 1 ∷ link ∷ 0 ∷ 0 ∷ 0 ∷ 0 ∷ 0 ∷ []
place_of state (job.Apply server origin group packet) =
    2 ∷ server ∷ since_of (state.message origin) ∷ 1 ∷ packet ∷ group ∷ origin ∷ []
place_of state (job.Visit server packet) = 2 ∷ server ∷ since_of (state.message packet) ∷ 2 ∷ 0 ∷ 0 ∷ packet ∷ []
place_of state (job.Pass server origin) = 2 ∷ server ∷ since_of (state.message origin) ∷ 3 ∷ 0 ∷ 0 ∷ origin ∷ []
place_of state (job.Lose server origin) = 2 ∷ server ∷ since_of (state.message origin) ∷ 3 ∷ 1 ∷ 0 ∷ origin ∷ []
place_of state (job.Carry origin) = 2 ∷ 0 ∷ since_of (state.message origin) ∷ 3 ∷ 2 ∷ 0 ∷ origin ∷ []
place_of state (job.Take link origin) = 3 ∷ link ∷ 0 ∷ 0 ∷ 0 ∷ 0 ∷ origin ∷ []
place_of state (job.Crash server) = 4 ∷ server ∷ 0 ∷ 0 ∷ 0 ∷ 0 ∷ 0 ∷ []
place_of state (job.Recover server) = 4 ∷ server ∷ 0 ∷ 1 ∷ 0 ∷ 0 ∷ 0 ∷ []
place_of state (job.Enter packet) = 5 ∷ 0 ∷ 0 ∷ 0 ∷ 0 ∷ 0 ∷ packet ∷ []
place_of state (job.Propagate origin) = 6 ∷ 0 ∷ 0 ∷ 0 ∷ 0 ∷ 0 ∷ origin ∷ []

abbrev pub IsEarlier : ChainState → Job → Job → Type 0
IsEarlier state one other = IsBelow (place_of state one) (place_of state other)

-- the first legal job: it is legal, and no legal job is earlier
pub record IsFirstJob (setting : Setting) (state : ChainState) (job : Job) : Type 0 where
  pub legal : IsLegalJob setting state job
  pub least : (other : Job) → IsLegalJob setting state other → IsEarlier state other job → ⊥

-- The work of a message that a server holds: the legal apply with the smallest packet and group; where there is none,
-- the visit of its packet, where that is legal; and else its pass, lose or carry.
abbrev pub IsNoApply : Setting → ChainState → ℕ → ℕ → Type 0
IsNoApply setting state server origin =
    (group packet : ℕ) → IsLegalJob setting state (job.Apply server origin group packet) → ⊥

abbrev pub IsNoVisit : Setting → ChainState → ℕ → ℕ → Type 0
IsNoVisit setting state server origin = IsLegalJob setting state (job.Visit server origin) → ⊥

abbrev pub IsWork : Setting → ChainState → ℕ → ℕ → Job → Type 0
IsWork setting state server origin (job.Apply at own group packet) =
    (at ≡ server) × (own ≡ origin) × IsLegalJob setting state (job.Apply server origin group packet)
    × ((other another : ℕ) → IsLegalJob setting state (job.Apply server origin other another)
    → ((another < packet) ⊎ ((another ≡ packet) × (other < group))) → ⊥)
IsWork setting state server origin (job.Visit at own) =
    (at ≡ server) × (own ≡ origin) × IsNoApply setting state server origin
    × IsLegalJob setting state (job.Visit server origin)
IsWork setting state server origin (job.Pass at own) =
    (at ≡ server) × (own ≡ origin) × IsNoApply setting state server origin × IsNoVisit setting state server origin
    × IsLegalJob setting state (job.Pass server origin)
IsWork setting state server origin (job.Lose at own) =
    (at ≡ server) × (own ≡ origin) × IsNoApply setting state server origin × IsNoVisit setting state server origin
    × IsLegalJob setting state (job.Lose server origin)
IsWork setting state server origin (job.Carry own) =
    (server ≡ 0) × (own ≡ origin) × IsNoApply setting state server origin × IsNoVisit setting state server origin
    × IsLegalJob setting state (job.Carry origin)
IsWork setting state server origin (job.Enter packet) = ⊥
IsWork setting state server origin (job.Take link own) = ⊥
IsWork setting state server origin (job.Crash at) = ⊥
IsWork setting state server origin (job.Recover at) = ⊥
IsWork setting state server origin (job.Pull link) = ⊥
IsWork setting state server origin (job.Propagate own) = ⊥

-- none of a message's jobs at a server is legal
pub record IsNoWork (setting : Setting) (state : ChainState) (server origin : ℕ) : Type 0 where
  pub apply : IsNoApply setting state server origin
  pub visit : IsNoVisit setting state server origin
  pub pass : IsLegalJob setting state (job.Pass server origin) → ⊥
  pub lose : IsLegalJob setting state (job.Lose server origin) → ⊥
  pub carry : server ≡ 0 → IsLegalJob setting state (job.Carry origin) → ⊥

-- The same order in the order's own words, stage by stage: no pull is legal; no held message that stands earlier has
-- work, by rising server and in the order of taking; no held message has work; no take is legal; no `at` line is to
-- be done; no enter is legal.
abbrev pub IsNoPull : Setting → ChainState → Type 0
IsNoPull setting state = (link : ℕ) → IsLegalJob setting state (job.Pull link) → ⊥

abbrev pub AreIdleBefore : Setting → ChainState → ℕ → ℕ → Type 0
AreIdleBefore setting state server origin =
    (other another : ℕ) (message : Message) → IsHeld state other another message →
    ((other < server) ⊎ ((other ≡ server) × (message.since < since_of (state.message origin)))) →
    IsNoWork setting state other another

abbrev pub AreIdle : Setting → ChainState → Type 0
AreIdle setting state =
    (server origin : ℕ) (message : Message) → IsHeld state server origin message → IsNoWork setting state server origin

abbrev pub IsNoTake : Setting → ChainState → Type 0
IsNoTake setting state = (link origin : ℕ) → IsLegalJob setting state (job.Take link origin) → ⊥

abbrev pub IsNoLine : Setting → ChainState → Type 0
IsNoLine setting state =
    (server : ℕ) → (IsLegalJob setting state (job.Crash server) ⊎ IsLegalJob setting state (job.Recover server)) → ⊥

abbrev pub IsNoEnter : Setting → ChainState → Type 0
IsNoEnter setting state = (packet : ℕ) → IsLegalJob setting state (job.Enter packet) → ⊥

abbrev pub IsInTurn : Setting → ChainState → Job → Type 0
IsInTurn setting state (job.Pull link) =
    IsLegalJob setting state (job.Pull link)
    × ((other : ℕ) → other < link → IsLegalJob setting state (job.Pull other) → ⊥)
IsInTurn setting state (job.Apply server origin group packet) =
    IsNoPull setting state × AreIdleBefore setting state server origin
    × IsWork setting state server origin (job.Apply server origin group packet)
IsInTurn setting state (job.Visit server packet) =
    IsNoPull setting state × AreIdleBefore setting state server packet
    × IsWork setting state server packet (job.Visit server packet)
IsInTurn setting state (job.Pass server origin) =
    IsNoPull setting state × AreIdleBefore setting state server origin
    × IsWork setting state server origin (job.Pass server origin)
IsInTurn setting state (job.Lose server origin) =
    IsNoPull setting state × AreIdleBefore setting state server origin
    × IsWork setting state server origin (job.Lose server origin)
IsInTurn setting state (job.Carry origin) =
    IsNoPull setting state × AreIdleBefore setting state 0 origin × IsWork setting state 0 origin (job.Carry origin)
IsInTurn setting state (job.Take link origin) = IsNoPull setting state × AreIdle setting state
    × IsLegalJob setting state (job.Take link origin)
    × ((other another : ℕ) → other < link → IsLegalJob setting state (job.Take other another) → ⊥)
IsInTurn setting state (job.Crash server) =
    IsNoPull setting state × AreIdle setting state × IsNoTake setting state
    × IsLegalJob setting state (job.Crash server)
IsInTurn setting state (job.Recover server) =
    IsNoPull setting state × AreIdle setting state × IsNoTake setting state
    × IsLegalJob setting state (job.Recover server)
IsInTurn setting state (job.Enter packet) =
    IsNoPull setting state × AreIdle setting state × IsNoTake setting state × IsNoLine setting state
    × IsLegalJob setting state (job.Enter packet)
IsInTurn setting state (job.Propagate origin) =
    IsNoPull setting state × AreIdle setting state × IsNoTake setting state × IsNoLine setting state
    × IsNoEnter setting state × IsLegalJob setting state (job.Propagate origin)

-- the numbers of a job are those of servers, messages and packets
abbrev pub IsWithin : Setting → Job → Type 0
IsWithin setting (job.Enter packet) = packet < count setting
IsWithin setting (job.Take link origin) = (link < servers setting) × (origin < most_messages setting)
IsWithin setting (job.Apply server origin group packet) =
    (server < servers setting) × (origin < most_messages setting) × (group < servers setting) × (packet < count setting)
IsWithin setting (job.Visit server packet) = (server < servers setting) × (packet < most_messages setting)
IsWithin setting (job.Pass server origin) = (server < servers setting) × (origin < most_messages setting)
IsWithin setting (job.Lose server origin) = (server < servers setting) × (origin < most_messages setting)
IsWithin setting (job.Carry origin) = origin < most_messages setting
IsWithin setting (job.Crash server) = server < servers setting
IsWithin setting (job.Recover server) = server < servers setting
IsWithin setting (job.Pull link) = link < servers setting
IsWithin setting (job.Propagate origin) = origin < most_messages setting
