-- The run of a chain that keeps no replicas, on one thread.
use Rattle.std.specs.Prelude.{ℕ, Bool, true, ◌≡◌, ◌+◌, ◌<◌, nat_le, nat_lt, List, [], ◌∷◌, ◌++◌, length, Option, Some}
use Rattle.std.specs.Prelude.{None, if◌then◌else◌}
use Rattle.ftc_base.specs.declared.limits.TheConstants.{FINISHING_SLOT}
use Rattle.ftc_journal.specs.declared.event.Event.{Event}
use Rattle.ftc_journal.specs.declared.event.Event.TheVariants as event
use Rattle.ftc_mbox.specs.declared.rule.Rule.{Rule}
use Rattle.ftc_serial.specs.declared.position.Position.{Position}
use Rattle.ftc_serial.specs.declared.position.Position.TheVariants as position
use Rattle.ftc_serial.specs.Words.{each_below}
use Rattle.ftc_serial.specs.Serial.{State, serial_opening, serial_run}
use Rattle.ftc_serial.specs.Trace.{trace_of}

-- the middlebox that dropped a packet, none where it wasn't dropped
abbrev pub filtered_at : Option Position → Option ℕ
filtered_at (Some (position.Waiting server bytes)) = None
filtered_at (Some (position.Passed bytes)) = None
filtered_at (Some (position.Filtered server)) = Some server
filtered_at (Some position.Released) = None
filtered_at None = None

-- A packet visits every middlebox, and where one drops it, those up to that one.
abbrev pub is_visited : Option ℕ → ℕ → Bool
is_visited None server = true
is_visited (Some last) server = nat_le server last

-- the visit at a server, where there is one
abbrev pub visit_events : ℕ → ℕ → Option ℕ → List Event
visit_events server packet filtered = if is_visited filtered server then event.Visit server packet FINISHING_SLOT ∷ []
    else []

-- the next server takes the message, where there is a next
abbrev pub take_events : ℕ → ℕ → ℕ → List Event
take_events servers server packet = if nat_lt (server + 1) servers then event.Take server packet ∷ [] else []

-- At a server the packet visits the middlebox, its message is sent on, and the next server takes the message. The
-- message of a packet that was dropped goes on without the packet.
abbrev pub server_events : ℕ → ℕ → Option ℕ → ℕ → List Event
server_events servers packet filtered server =
    visit_events server packet filtered ++ event.Pass server packet ∷ take_events servers server packet

abbrev pub release_events : ℕ → Option ℕ → List Event
release_events packet None = event.Release packet ∷ []
release_events packet (Some server) = []

-- A packet enters, goes from server to server, and leaves where no middlebox dropped it.
abbrev pub packet_events : ℕ → ℕ → Option ℕ → List Event
packet_events servers packet filtered =
    event.Enter packet ∷ (each_below (server_events servers packet filtered) servers ++ release_events packet filtered)

-- One packet after another, where these are the places at the end.
abbrev pub drive : ℕ → ℕ → (ℕ → Option Position) → List Event
drive servers count place = each_below (λ packet. packet_events servers packet (filtered_at (place packet))) count

-- each packet was released or dropped
abbrev pub IsSettled : Option Position → Type 0
IsSettled (Some (position.Waiting server bytes)) = ⊥
IsSettled (Some (position.Passed bytes)) = ⊥
IsSettled (Some (position.Filtered server)) = Unit {0}
IsSettled (Some position.Released) = Unit {0}
IsSettled None = ⊥

-- The journal drives all packets through the chain, its trace is a serial run, and that run ends in this state, in
-- which each packet was released or dropped.
pub record IsDriven (rules : List Rule) (packets : List (List ℕ)) (journal : List Event) (end : State) : Type 0 where
  pub events : journal ≡ drive (length rules) (length packets) end.place
  pub run : serial_run rules (serial_opening packets) (trace_of journal) ≡ Some end
  pub settled : (packet : ℕ) → packet < length packets → IsSettled (end.place packet)
