-- What an event does.
use Rattle.std.specs.Prelude.{ℕ, ◌+◌, ◌==◌, ◌&&◌, ◌||◌, nat_lt, not, Bool, true, false, List, [], ◌∷◌, Option, Some}
use Rattle.std.specs.Prelude.{None, is_some, if◌then◌else◌}
use Rattle.std.specs.List.{list_any}
use Rattle.ftc_journal.specs.declared.event.Event.{Event}
use Rattle.ftc_journal.specs.declared.event.Event.TheVariants as event
use Rattle.ftc_journal.specs.declared.event.VisitName.{VisitName}
use Rattle.ftc_serial.specs.Words.{with_at}
use Rattle.ftc_serial.specs.Take.{Outcome, taken}
use Rattle.ftc_serial.specs.Trace.{names}
use Rattle.ftc_serial.specs.Removal.{left_of}
use Rattle.ftc_serial.specs.Serial.{Entry, Visited, Given}
use Rattle.ftc_ring.specs.Ring.{next_of}
use Rattle.ftc_protocol.specs.declared.fate.Fate.{Fate}
use Rattle.ftc_protocol.specs.declared.fate.Fate.TheVariants as became
use Rattle.ftc_script.specs.declared.line.ScriptLine.{ScriptLine}
use Rattle.ftc_protocol.specs.Setting.{Setting, servers, packet_at, rule_at, is_member, is_tail}
use Rattle.ftc_protocol.specs.Visits.{Visits, no_visits, union, just}
use Rattle.ftc_protocol.specs.Changes.{is_touching, is_changing}
use Rattle.ftc_protocol.specs.Trace.{content_of}
use Rattle.ftc_protocol.specs.State.{Where, Held, Queued, Message, Withheld, ChainState}
use Rattle.ftc_protocol.specs.Known.{knows}
use Rattle.ftc_protocol.specs.Legal.{is_sent}
use Rattle.ftc_protocol.specs.Recovery.{previous_live, following_live, list_got, is_dropped, gaps_at}

-- ---- what a message that may not be there has

abbrev pub known_by : Option Message → Visits
known_by None = no_visits
known_by (Some message) = message.known

abbrev pub logs_of : Option Message → Visits
logs_of None = no_visits
logs_of (Some message) = message.logs

abbrev pub bytes_in : Option (List ℕ) → List ℕ
bytes_in None = []
bytes_in (Some bytes) = bytes

abbrev pub message_bytes : Option Message → List ℕ
message_bytes None = []
message_bytes (Some message) = bytes_in message.packet

abbrev pub has_packet : Option Message → Bool
has_packet None = false
has_packet (Some message) = is_some message.packet

abbrev pub bytes_withheld : Option Withheld → List ℕ
bytes_withheld None = []
bytes_withheld (Some withheld) = withheld.bytes

-- the lines behind the next
abbrev pub lines_behind : List ScriptLine → List ScriptLine
lines_behind [] = []
lines_behind (line ∷ lines) = lines

-- ---- enter and propagate: server 0 holds a message with the packet or with none, and nothing else

abbrev pub fresh_message : ℕ → Option (List ℕ) → Message
fresh_message now packet = record {
  place = Held 0 false false;
  since = now;
  packet = packet;
  logs = no_visits;
  needs = λ group. false;
  known = no_visits;
}

-- ---- take: the receiver of the link holds the message

abbrev pub taken_message : Setting → ChainState → ℕ → Option Message → Option Message
taken_message setting state link None = None
taken_message setting state link (Some message) =
    Some (record message {
      place = Held (next_of (servers setting) link) false
          (link + 1 == servers setting);
      since = state.events;
    })

-- ---- visit: the rule runs on the store of the server's own list

abbrev pub outcome_at : Setting → ChainState → ℕ → ℕ → Outcome
outcome_at setting state server packet =
    taken (rule_at setting server) (message_bytes (state.message packet))
    (content_of state.trace (state.lists server server) server)

abbrev pub visited_at : Where → Where
visited_at (Held server visited by_ring) = Held server true by_ring
visited_at (Queued link) = Queued link

-- A visit that touches something joins the logs, where there are replicas, and the needs. The packet becomes what the
-- rule made of it; where it is dropped, the message has no packet and no needs.
abbrev pub visited_message : Setting → ℕ → ℕ → Outcome → Option Message → Option Message
visited_message setting server packet outcome None = None
visited_message setting server packet outcome (Some message) = Some (record {
  place = visited_at message.place;
  since = message.since;
  packet = outcome.packet;
  logs = union message.logs (just server packet (is_touching outcome && nat_lt 0 setting.failures));
  needs = λ group. is_some outcome.packet && (message.needs group || ((group == server) && is_touching outcome));
  known = message.known;
})

abbrev pub fate_by : ℕ → Fate → Option (List ℕ) → Fate
fate_by server before None = became.Filtered server
fate_by server before (Some bytes) = before

-- ---- pass and lose: the message leaves the server

-- It loses the logs of groups whose tail the server is, and at server 0 it gets those of the forwarder.
abbrev pub logs_sent : Setting → ChainState → ℕ → Message → Visits
logs_sent setting state server message group packet =
    (message.logs group packet && not (is_tail setting group server)) || ((server == 0) && state.forwarder group packet)

-- behind the last server it has no packet and no needs
abbrev pub sent_message : Setting → ChainState → ℕ → Option Message → Option Message
sent_message setting state server None = None
sent_message setting state server (Some message) = Some (record {
  place = Queued server;
  since = state.events;
  packet = if server + 1 == servers setting then None else message.packet;
  logs = logs_sent setting state server message;
  needs = λ group. not (server + 1 == servers setting) && message.needs group;
  known = knows setting state server;
})

-- the packet goes to the buffer
abbrev pub withheld_packet : ChainState → Message → Option (List ℕ) → Option Withheld
withheld_packet state message None = None
withheld_packet state message (Some bytes) =
    Some (record { since = state.events; bytes = bytes; needs = message.needs })

abbrev pub withheld_of : ChainState → Option Message → Option Withheld
withheld_of state None = None
withheld_of state (Some message) = withheld_packet state message message.packet

-- the message goes away: the link loses it, or the next server is down
abbrev pub is_away : Setting → ChainState → ℕ → Bool → Bool
is_away setting state server lost = lost || not (state.up (next_of (servers setting) server))

abbrev pub sent_on : Setting → ChainState → ℕ → ℕ → Bool → ChainState
sent_on setting state server origin lost = record state {
  message = with_at state.message origin
      (if is_sent setting server && not (is_away setting state server lost)
      then sent_message setting state server (state.message origin) else None);
  forwarder = λ group packet. not (server == 0) && state.forwarder group packet;
  withheld = with_at state.withheld origin
      (if server + 1 == servers setting then withheld_of state (state.message origin) else state.withheld origin);
  gap = with_at state.gap server (state.gap server || (is_sent setting server && is_away setting state server lost));
  fate = with_at state.fate origin
      (if is_away setting state server lost && not (server + 1 == servers setting)
      && has_packet (state.message origin) then became.Lost state.events else state.fate origin);
}

-- ---- crash: all that the server held is gone, and what was queued to it

abbrev pub is_at : Setting → ℕ → Where → Bool
is_at setting server (Held holder visited by_ring) = holder == server
is_at setting server (Queued link) = next_of (servers setting) link == server

abbrev pub drop_if : (Message → Bool) → Option Message → Option Message
drop_if test None = None
drop_if test (Some message) = if test message then None else Some message

-- the message with the packet is among those that go away
abbrev pub loses_packet : (Message → Bool) → Option Message → Bool
loses_packet test None = false
loses_packet test (Some message) = test message && is_some message.packet

abbrev pub crashed : Setting → ChainState → ℕ → ChainState
crashed setting state server = record state {
  up = with_at state.up server false;
  lists = with_at state.lists server no_visits;
  known = with_at state.known server no_visits;
  message = λ origin. drop_if (λ message. is_at setting server message.place) (state.message origin);
  forwarder = λ group packet. not (server == 0) && state.forwarder group packet;
  withheld = λ packet. if server + 1 == servers setting then None else state.withheld packet;
  lines = lines_behind state.lines;
  fate = λ packet.
      if loses_packet (λ message. is_at setting server message.place) (state.message packet)
      || ((server + 1 == servers setting) && is_some (state.withheld packet))
      then became.Lost state.events
      else state.fate packet;
}

-- ---- recover

-- a packet that a visit dropped, where that visit is undone
abbrev pub is_undone_drop : List VisitName → ℕ → Fate → Bool
is_undone_drop undone packet (became.Filtered server) = names undone server packet
is_undone_drop undone packet other = false

abbrev pub recovered : Setting → ChainState → ℕ → List VisitName → ℕ → ℕ → ChainState
recovered setting state server undone previous following = record state {
  trace = left_of (names undone) state.trace;
  up = with_at state.up server true;
  lists = with_at state.lists server (list_got setting state server previous following);
  known = with_at state.known server (union (knows setting state previous) (knows setting state following));
  message = λ origin. drop_if (is_dropped setting state following) (state.message origin);
  gap = gaps_at setting (gaps_at setting state.gap server) following;
  lines = lines_behind state.lines;
  fate = λ packet.
      if loses_packet (is_dropped setting state following) (state.message packet)
      || is_undone_drop undone packet (state.fate packet)
      then became.Lost state.events
      else state.fate packet;
}

-- ---- pull: of each group that both ends belong to and whose head the receiver isn't, it gets the sender's list

abbrev pub pulled_list : Setting → ChainState → ℕ → ℕ → Visits
pulled_list setting state sender receiver group packet =
    if is_member setting group sender && is_member setting group receiver && not (group == receiver)
    then state.lists sender group packet else state.lists receiver group packet

-- it is new for the receiver, which isn't its tail
abbrev pub is_news : Setting → ChainState → ℕ → ℕ → Entry → Bool
is_news setting state sender receiver (Visited group packet outcome) =
    pulled_list setting state sender receiver group packet && not (state.lists receiver group packet)
    && not (is_tail setting group receiver)
is_news setting state sender receiver (Given packet bytes) = false

abbrev pub pulled : Setting → ChainState → ℕ → ℕ → ChainState
pulled setting state sender receiver = record state {
  lists = with_at state.lists receiver (pulled_list setting state sender receiver);
  gap = λ link.
      if link == sender then false
      else (if link == receiver
      then state.gap receiver || list_any (is_news setting state sender receiver) state.trace else state.gap link);
}

-- ---- what each event does

abbrev pub happened : Setting → ChainState → Event → ChainState
happened setting state (event.Enter packet) = record state {
  entered = state.entered + 1;
  message = with_at state.message packet
      (if state.up 0 then Some (fresh_message state.events
      (Some (packet_at setting packet))) else state.message packet);
  fate = with_at state.fate packet (if state.up 0 then state.fate packet else became.Lost state.events);
}
happened setting state (event.Take link origin) = record state {
  message = with_at state.message origin (taken_message setting state link (state.message origin));
  known = with_at state.known (next_of (servers setting) link)
      (union (state.known (next_of (servers setting) link)) (known_by (state.message origin)));
}
happened setting state (event.Apply server origin group packet) = record state {
  lists = with_at state.lists server (union (state.lists server) (just group packet true));
}
happened setting state (event.Visit server packet worker) = record state {
  trace = Visited server packet (outcome_at setting state server packet) ∷ state.trace;
  lists = with_at state.lists server
      (union (state.lists server)
      (just server packet (is_changing setting.partitions (outcome_at setting state server packet))));
  message = with_at state.message packet
      (visited_message setting server packet (outcome_at setting state server packet) (state.message packet));
  fate = with_at state.fate packet (fate_by server (state.fate packet) (outcome_at setting state server packet).packet);
}
happened setting state (event.Pass server origin) = sent_on setting state server origin false
happened setting state (event.Lose server origin) = sent_on setting state server origin true
happened setting state (event.Carry origin) = record state {
  message = with_at state.message origin None;
  forwarder = union state.forwarder
      (λ group packet. logs_of (state.message origin) group packet && not (is_tail setting group 0));
}
happened setting state (event.Crash server) = crashed setting state server
happened setting state (event.Recover server undone) =
    recovered setting state server undone (previous_live setting state server) (following_live setting state server)
happened setting state (event.Pull link) = pulled setting state link (next_of (servers setting) link)
happened setting state (event.Propagate origin) = record state {
  propagates = state.propagates + 1;
  message = with_at state.message origin (Some (fresh_message state.events None));
}
happened setting state (event.Release packet) = record state {
  trace = Given packet (bytes_withheld (state.withheld packet)) ∷ state.trace;
  withheld = with_at state.withheld packet None;
  fate = with_at state.fate packet became.Released;
}

-- events are counted
abbrev pub next : Setting → ChainState → Event → ChainState
next setting state event = record (happened setting state event) { events = state.events + 1 }
