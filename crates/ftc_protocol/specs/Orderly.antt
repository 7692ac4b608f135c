-- What else holds of every state of a run: who may have what, and where messages are.
use Rattle.std.specs.Prelude.{ℕ, ◌≡◌, ◌≢◌, ◌<◌, ◌≤◌, ◌+◌, ◌-◌, ◌⊎◌, Bool, true, false, Some, None, List, [], ◌∷◌, ◌++◌}
use Rattle.std.specs.Prelude.{length}
use Rattle.ftc_journal.specs.declared.event.Event.{Event}
use Rattle.ftc_journal.specs.declared.event.Event.TheVariants as event
use Rattle.ftc_script.specs.declared.line.ScriptLine.{ScriptLine}
use Rattle.ftc_script.specs.declared.line.ScriptLine.TheVariants as line
use Rattle.ftc_ring.specs.Ring.{apart, next_of}
use Rattle.ftc_ring.specs.Live.{IsAdmissible, IsBetween, IsFirstLive}
use Rattle.ftc_serial.specs.Serial.{serial_opening}
use Rattle.ftc_serial.specs.History.{IsHistory}
use Rattle.ftc_protocol.specs.Setting.{Setting, servers, shape, count}
use Rattle.ftc_protocol.specs.Visits.{In}
use Rattle.ftc_protocol.specs.Trace.{IsTouching, IsChanging, IsSomeVisit}
use Rattle.ftc_protocol.specs.State.{Where, Held, Queued, Message, Withheld, ChainState, opening}
use Rattle.ftc_protocol.specs.Known.{ServerHas}
use Rattle.ftc_protocol.specs.Recovery.{previous_live, following_live}
use Rattle.ftc_protocol.specs.Legal.{IsNextLine}
use Rattle.ftc_protocol.specs.Fates.{MayLose}
use Rattle.ftc_protocol.specs.Run.{state_after}

-- the server that holds a message, or to which it is queued
abbrev pub aim : ℕ → Where → ℕ
aim size (Held server visited by_ring) = server
aim size (Queued link) = next_of size link

pub record IsOrderly (setting : Setting) (state : ChainState) : Type 0 where
  pub admissible : IsAdmissible (shape setting) state.up
  pub inside : (server : ℕ) → state.up server ≡ true → server < servers setting
  pub history : IsHistory setting.rules (serial_opening setting.packets) state.trace
  pub had : (server group packet : ℕ) → In (state.lists server) group packet →
      (state.up server ≡ true) × (group < servers setting) × (apart (servers setting) group server ≤ setting.failures)
      × IsChanging setting.partitions state.trace group packet
  pub heads : (group packet : ℕ) → state.up group ≡ true → IsChanging setting.partitions state.trace group packet →
      In (state.lists group) group packet
  pub awake : (origin : ℕ) (message : Message) → state.message origin ≡ Some message →
      state.up (aim (servers setting) message.place) ≡ true
  pub rides : (origin group packet : ℕ) (message : Message) → state.message origin ≡ Some message →
      In message.logs group packet →
      (group < servers setting)
      × (apart (servers setting) group (aim (servers setting) message.place) ≤ setting.failures)
  pub forwarded : (group packet : ℕ) → In state.forwarder group packet →
      (state.up 0 ≡ true) × IsTouching state.trace group packet
  pub needs : (origin group : ℕ) (message : Message) (bytes : List ℕ) → state.message origin ≡ Some message →
      message.packet ≡ Some bytes →
      IsTouching state.trace group origin → message.needs group ≡ true
  pub buffered : (packet : ℕ) (withheld : Withheld) → state.withheld packet ≡ Some withheld →
      (state.up (servers setting - 1) ≡ true)
      × ((group : ℕ) → IsTouching state.trace group packet → withheld.needs group ≡ true)
  pub clock : (origin : ℕ) (message : Message) → state.message origin ≡ Some message → message.since < state.events
  pub numbered : (origin : ℕ) (message : Message) → state.message origin ≡ Some message →
      (origin < state.entered) ⊎ ((count setting ≤ origin) × (origin < count setting + state.propagates))
  pub entered : state.entered ≤ count setting
  pub links : (origin link : ℕ) (message : Message) → state.message origin ≡ Some message →
      message.place ≡ Queued link → link < servers setting
  pub by_ring : (origin server : ℕ) (visited : Bool) (message : Message) → state.message origin ≡ Some message →
      message.place ≡ Held server visited true → server ≡ 0
  pub gaps : (link : ℕ) → state.gap link ≡ true → servers setting ≢ 1
  pub crashes : (entered server : ℕ) → IsNextLine state.lines (line.Crash entered server) → server < servers setting
  pub recoveries : (entered server : ℕ) → IsNextLine state.lines (line.Recover entered server) →
      (server < servers setting) × (state.up server ≡ false)

-- the crashes and recoveries of a journal, each with the count of packets that had entered
abbrev pub lines_done : ℕ → List Event → List ScriptLine
lines_done entered [] = []
lines_done entered (event.Enter packet ∷ events) = lines_done (entered + 1) events
lines_done entered (event.Take link origin ∷ events) = lines_done entered events
lines_done entered (event.Apply server origin group packet ∷ events) = lines_done entered events
lines_done entered (event.Visit server packet worker ∷ events) = lines_done entered events
lines_done entered (event.Pass server origin ∷ events) = lines_done entered events
lines_done entered (event.Lose server origin ∷ events) = lines_done entered events
lines_done entered (event.Carry origin ∷ events) = lines_done entered events
lines_done entered (event.Crash server ∷ events) = line.Crash entered server ∷ lines_done entered events
lines_done entered (event.Recover server undone ∷ events) = line.Recover entered server ∷ lines_done entered events
lines_done entered (event.Pull link ∷ events) = lines_done entered events
lines_done entered (event.Propagate origin ∷ events) = lines_done entered events
lines_done entered (event.Release packet ∷ events) = lines_done entered events

-- each log rides on one message at most, and on none where the forwarder has it
pub record IsRiding (state : ChainState) : Type 0 where
  pub once : (group packet origin other : ℕ) (message another : Message) → state.message origin ≡ Some message →
      state.message other ≡ Some another →
      In message.logs group packet → In another.logs group packet → origin ≡ other
  pub away : (group packet origin : ℕ) (message : Message) → In state.forwarder group packet →
      state.message origin ≡ Some message → In message.logs group packet → ⊥

-- what a packet needs are touching visits of its own in the trace
pub record IsNeeding (state : ChainState) : Type 0 where
  pub carried : (origin group : ℕ) (message : Message) → state.message origin ≡ Some message →
      message.needs group ≡ true →
      IsTouching state.trace group origin × ((bytes : List ℕ) × (message.packet ≡ Some bytes))
  pub withheld : (packet group : ℕ) (withheld : Withheld) → state.withheld packet ≡ Some withheld →
      withheld.needs group ≡ true → IsTouching state.trace group packet

-- the message is behind the last server: on the ring link, or held by one that took it from there
abbrev pub IsPast : ℕ → Where → Type 0
IsPast size (Held server visited by_ring) = by_ring ≡ true
IsPast size (Queued link) = link + 1 ≡ size

-- A withheld packet came by an earlier event, and its message, if there still is one, is behind the last server and has
-- no packet.
pub record IsWithholding (setting : Setting) (state : ChainState) : Type 0 where
  pub clock : (packet : ℕ) (withheld : Withheld) → state.withheld packet ≡ Some withheld → withheld.since < state.events
  pub past : (packet : ℕ) (withheld : Withheld) (message : Message) → state.withheld packet ≡ Some withheld →
      state.message packet ≡ Some message → IsPast (servers setting) message.place
  pub bare : (packet : ℕ) (withheld : Withheld) (message : Message) → state.withheld packet ≡ Some withheld →
      state.message packet ≡ Some message → message.packet ≡ None

-- the message is still to be visited at the server at which it is, or to which it is queued
abbrev pub IsUnvisited : Where → Type 0
IsUnvisited (Held server visited by_ring) = visited ≡ false
IsUnvisited (Queued link) = Unit {0}

-- Such a message has no log and no need of that server's own middlebox: its logs are of other groups, its needs of
-- middleboxes before.
pub record AreAhead (setting : Setting) (state : ChainState) : Type 0 where
  pub logs : (origin group packet : ℕ) (message : Message) → state.message origin ≡ Some message →
      IsUnvisited message.place →
      In message.logs group packet → group ≢ aim (servers setting) message.place
  pub needs : (origin group : ℕ) (message : Message) → state.message origin ≡ Some message → IsUnvisited message.place →
      message.needs group ≡ true → group < aim (servers setting) message.place

-- the event of that number in the journal lost something of the packet
pub record IsLostAt (setting : Setting) (journal : List Event) (number : ℕ) : Type 0 where
  pub before : List Event
  pub event : Event
  pub after : List Event
  pub parts : journal ≡ before ++ event ∷ after
  pub number_is : length before ≡ number
  pub may : MayLose setting (state_after setting (opening setting) before) event

-- A visit is undone by the recovery of a server where it, or an earlier one of its packet, touches something, has its
-- head strictly between the live servers before and after, and is lacked by the one after.
pub record IsUndone (setting : Setting) (state : ChainState) (server group packet : ℕ) : Type 0 where
  pub there : IsSomeVisit state.trace group packet
  pub earlier : ℕ
  pub before : earlier ≤ group
  pub touching : IsTouching state.trace earlier packet
  pub between : IsBetween (servers setting) (previous_live setting state server)
      (following_live setting state server) earlier
  pub lacked : ServerHas setting state (following_live setting state server) earlier packet → ⊥

-- A visit of the trace stands where the first live member of its group has it, if it touches something, and so for
-- the earlier ones of its packet.
pub record IsStanding (setting : Setting) (state : ChainState) (group packet : ℕ) : Type 0 where
  pub there : IsSomeVisit state.trace group packet
  pub had : (earlier server : ℕ) → earlier ≤ group → IsTouching state.trace earlier packet →
      IsFirstLive (shape setting) state.up earlier server → ServerHas setting state server earlier packet
