-- What of the protocol's state is at one server, and what on one link.
use Rattle.std.specs.Prelude.{ℕ, ◌≡◌, ◌≢◌, ◌+◌, ◌-◌, ◌==◌, Bool, true, false, Option, Some, None, if◌then◌else◌}
use Rattle.ftc_journal.specs.declared.event.Event.{Event}
use Rattle.ftc_journal.specs.declared.event.Event.TheVariants as event
use Rattle.ftc_ring.specs.Ring.{next_of}
use Rattle.ftc_protocol.specs.Setting.{Setting, servers}
use Rattle.ftc_protocol.specs.Visits.{Visits, no_visits}
use Rattle.ftc_protocol.specs.State.{Where, Held, Queued, Message, Withheld, ChainState}
use Rattle.ftc_protocol.specs.Recovery.{following_live}

abbrev pub is_held_by : ℕ → Where → Bool
is_held_by server (Held holder visited by_ring) = holder == server
is_held_by server (Queued link) = false

abbrev pub is_queued_on : ℕ → Where → Bool
is_queued_on link (Held holder visited by_ring) = false
is_queued_on link (Queued other) = other == link

-- the message, where the test of its place is true
abbrev pub where_it : (Where → Bool) → Option Message → Option Message
where_it test None = None
where_it test (Some message) = if test message.place then Some message else None

-- the messages that a server holds, and those that are queued on a link
abbrev pub held_at : ChainState → ℕ → ℕ → Option Message
held_at state server origin = where_it (is_held_by server) (state.message origin)

abbrev pub queued_on : ChainState → ℕ → ℕ → Option Message
queued_on state link origin = where_it (is_queued_on link) (state.message origin)

-- the packets that are withheld at a server: those of the buffer, at the last
abbrev pub withheld_at : Setting → ChainState → ℕ → ℕ → Option Withheld
withheld_at setting state server packet = if server + 1 == servers setting then state.withheld packet else None

-- the visits that wait at a server to be carried on: those of the forwarder, at the first
abbrev pub forwarded_at : ChainState → ℕ → Visits
forwarded_at state server = if server == 0 then state.forwarder else no_visits

-- a message leaves a server, and its link may lose it
abbrev pub leaving : Bool → ℕ → ℕ → Event
leaving false server origin = event.Pass server origin
leaving true server origin = event.Lose server origin

-- the event has no part in a server
abbrev pub IsBesideServer : Setting → ChainState → Event → ℕ → Type 0
IsBesideServer setting state (event.Enter packet) server = server ≢ 0
IsBesideServer setting state (event.Take link origin) server = server ≢ next_of (servers setting) link
IsBesideServer setting state (event.Apply at origin group packet) server = server ≢ at
IsBesideServer setting state (event.Visit at packet worker) server = server ≢ at
IsBesideServer setting state (event.Pass at origin) server = server ≢ at
IsBesideServer setting state (event.Lose at origin) server = server ≢ at
IsBesideServer setting state (event.Carry origin) server = server ≢ 0
IsBesideServer setting state (event.Crash at) server = server ≢ at
IsBesideServer setting state (event.Recover at undone) server =
    (server ≢ at) × (server ≢ following_live setting state at)
IsBesideServer setting state (event.Pull link) server = server ≢ next_of (servers setting) link
IsBesideServer setting state (event.Propagate origin) server = server ≢ 0
IsBesideServer setting state (event.Release packet) server = server ≢ servers setting - 1

-- nor in a link
abbrev pub IsBesideLink : Setting → ChainState → Event → ℕ → Type 0
IsBesideLink setting state (event.Enter packet) link = Unit {0}
IsBesideLink setting state (event.Take other origin) link = link ≢ other
IsBesideLink setting state (event.Apply at origin group packet) link = Unit {0}
IsBesideLink setting state (event.Visit at packet worker) link = Unit {0}
IsBesideLink setting state (event.Pass at origin) link = link ≢ at
IsBesideLink setting state (event.Lose at origin) link = link ≢ at
IsBesideLink setting state (event.Carry origin) link = Unit {0}
IsBesideLink setting state (event.Crash at) link = next_of (servers setting) link ≢ at
IsBesideLink setting state (event.Recover at undone) link =
    (link ≢ at) × (next_of (servers setting) link ≢ at) × (link ≢ following_live setting state at)
    × (next_of (servers setting) link ≢ following_live setting state at)
IsBesideLink setting state (event.Pull other) link = (link ≢ other) × (link ≢ next_of (servers setting) other)
IsBesideLink setting state (event.Propagate origin) link = Unit {0}
IsBesideLink setting state (event.Release packet) link = Unit {0}

-- what is at a server is as before
pub record IsAsBefore (setting : Setting) (before after : ChainState) (server : ℕ) : Type 0 where
  pub up : after.up server ≡ before.up server
  pub held : (origin : ℕ) → held_at after server origin ≡ held_at before server origin
  pub withheld : (packet : ℕ) → withheld_at setting after server packet ≡ withheld_at setting before server packet
  pub forwarded : (group packet : ℕ) → forwarded_at after server group packet ≡ forwarded_at before server group packet

-- what is on a link is as before
pub record IsLinkAsBefore (before after : ChainState) (link : ℕ) : Type 0 where
  pub queued : (origin : ℕ) → queued_on after link origin ≡ queued_on before link origin
  pub gap : after.gap link ≡ before.gap link
