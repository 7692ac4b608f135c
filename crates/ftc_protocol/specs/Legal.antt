-- When an event is legal.
use Rattle.std.specs.Prelude.{ℕ, ◌≡◌, ◌≢◌, ◌+◌, ◌<◌, ◌≤◌, ◌⊎◌, ◌==◌, ◌||◌, nat_lt, not, Bool, true, false, List, []}
use Rattle.std.specs.Prelude.{◌∷◌, Some, None}
use Rattle.std.specs.List.{AllByRecursion}
use Rattle.ftc_ring.specs.Ring.{next_of}
use Rattle.ftc_journal.specs.declared.event.Event.{Event}
use Rattle.ftc_journal.specs.declared.event.Event.TheVariants as event
use Rattle.ftc_script.specs.declared.line.ScriptLine.{ScriptLine}
use Rattle.ftc_script.specs.declared.line.ScriptLine.TheVariants.{Crash, Recover}
use Rattle.ftc_script.specs.Steps.{at_of}
use Rattle.ftc_protocol.specs.Setting.{Setting, servers, count}
use Rattle.ftc_protocol.specs.Visits.{In}
use Rattle.ftc_protocol.specs.Trace.{IsBefore, IsChanging}
use Rattle.ftc_protocol.specs.State.{Held, Queued, Message, Withheld, ChainState}
use Rattle.ftc_protocol.specs.Known.{ServerHas, IsReady, IsDue}
use Rattle.ftc_protocol.specs.Recovery.{undone_visits}

-- the next `at` line is this one
abbrev pub IsNextLine : List ScriptLine → ScriptLine → Type 0
IsNextLine [] line = ⊥
IsNextLine (next ∷ lines) line = next ≡ line

-- the server holds the message
abbrev pub IsHeld : ChainState → ℕ → ℕ → Message → Type 0
IsHeld state server origin message =
    (state.message origin ≡ Some message) × (visited : Bool) × (by_ring : Bool)
    × (message.place ≡ Held server visited by_ring)

-- Conditions of both pass and lose: the server holds the message, which is ready, has been visited here or has no
-- packet, and did not come by the ring link.
pub record MayLeave (setting : Setting) (state : ChainState) (server origin : ℕ) (message : Message) : Type 0 where
  pub there : state.message origin ≡ Some message
  pub visited : Bool
  pub held : message.place ≡ Held server visited false
  pub ready : IsReady setting state server message
  pub done : (visited ≡ true) ⊎ (message.packet ≡ None)

-- something is sent at every pass but that of the last server of a chain without failures
abbrev pub is_sent : Setting → ℕ → Bool
is_sent setting server = not (server + 1 == servers setting) || nat_lt 0 setting.failures

-- no message, no gap, and some packet withheld
pub record IsStalled (setting : Setting) (state : ChainState) : Type 0 where
  pub messages : (origin : ℕ) → state.message origin ≡ None
  pub gaps : (link : ℕ) → link < servers setting → state.gap link ≡ false
  pub packet : ℕ
  pub withheld : state.withheld packet ≢ None

-- where the event may happen, if no release is due
abbrev pub MayHappen : Setting → ChainState → Event → Type 0
MayHappen setting state (event.Enter packet) =
    (packet ≡ state.entered) × (packet < count setting)
    × AllByRecursion (λ (line : ScriptLine). at_of line ≢ packet) state.lines
MayHappen setting state (event.Take link origin) = (message : Message)
    × (state.message origin ≡ Some message) × (message.place ≡ Queued link)
    × ((other : ℕ) (queued : Message) → state.message other ≡ Some queued → queued.place ≡ Queued link
    → message.since ≤ queued.since)
MayHappen setting state (event.Apply server origin group packet) = (message : Message)
    × IsHeld state server origin message × In message.logs group packet
    × IsChanging setting.partitions state.trace group packet × (state.lists server group packet ≡ false)
    × ((earlier : ℕ) → IsBefore setting.partitions state.trace group earlier packet
    → In (state.lists server) group earlier)
    × ((smaller : ℕ) → smaller < group → In message.logs smaller packet → ServerHas setting state server smaller packet)
MayHappen setting state (event.Visit server packet worker) = (message : Message) × (bytes : List ℕ) × (by_ring : Bool)
    × (state.message packet ≡ Some message) × (message.place ≡ Held server false by_ring)
    × (message.packet ≡ Some bytes) × IsReady setting state server message
MayHappen setting state (event.Pass server origin) = (message : Message)
    × MayLeave setting state server origin message
    × ((setting.loses server origin ≡ false) ⊎ (is_sent setting server ≡ false))
MayHappen setting state (event.Lose server origin) = (message : Message)
    × MayLeave setting state server origin message × (is_sent setting server ≡ true)
    × (setting.loses server origin ≡ true)
MayHappen setting state (event.Carry origin) = (message : Message)
    × (state.message origin ≡ Some message) × (visited : Bool) × (message.place ≡ Held 0 visited true)
    × IsReady setting state 0 message
MayHappen setting state (event.Crash server) = IsNextLine state.lines (Crash state.entered server)
MayHappen setting state (event.Recover server undone) =
    IsNextLine state.lines (Recover state.entered server) × (undone ≡ undone_visits setting state server)
MayHappen setting state (event.Pull link) =
    (state.up link ≡ true) × (state.up (next_of (servers setting) link) ≡ true) × (state.gap link ≡ true)
MayHappen setting state (event.Propagate origin) =
    (state.entered ≡ count setting) × ((server : ℕ) → server < servers setting → state.up server ≡ true)
    × ((other : ℕ) (message : Message) → state.message other ≡ Some message → (visited : Bool)
    → message.place ≢ Held 0 visited false)
    × (((group : ℕ) × (packet : ℕ) × In state.forwarder group packet) ⊎ IsStalled setting state)
    × (origin ≡ count setting + state.propagates)
MayHappen setting state (event.Release packet) = (withheld : Withheld)
    × IsDue setting state packet withheld
    × ((other : ℕ) (waiting : Withheld) → IsDue setting state other waiting → withheld.since ≤ waiting.since)

abbrev pub is_release : Event → Bool
is_release (event.Release packet) = true
is_release other = false

-- while a packet is due, nothing but its release is legal
abbrev pub IsLegal : Setting → ChainState → Event → Type 0
IsLegal setting state event =
    MayHappen setting state event
    × (is_release event ≡ false → (packet : ℕ) (withheld : Withheld) → IsDue setting state packet withheld → ⊥)
