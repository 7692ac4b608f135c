-- What becomes of packets.
use Rattle.std.specs.Prelude.{ℕ, ◌≡◌, ◌<◌, ◌≤◌, ◌⊎◌, ◌↔◌, false, List, Some, None, map}
use Rattle.std.specs.List.{range_with_len}
use Rattle.ftc_ring.specs.Ring.{next_of}
use Rattle.ftc_journal.specs.declared.event.Event.{Event}
use Rattle.ftc_journal.specs.declared.event.Event.TheVariants as event
use Rattle.ftc_serial.specs.Words.{AnyOf}
use Rattle.ftc_serial.specs.Serial.{Entry, Visited, Given}
use Rattle.ftc_protocol.specs.declared.fate.Fate.{Fate}
use Rattle.ftc_protocol.specs.declared.fate.Fate.TheVariants as became
use Rattle.ftc_protocol.specs.Setting.{Setting, servers, count}
use Rattle.ftc_protocol.specs.Trace.{IsInTrace}
use Rattle.ftc_protocol.specs.State.{Message, Withheld, ChainState}

-- a visit of the trace dropped the packet
abbrev pub IsDropped : List Entry → ℕ → ℕ → Type 0
IsDropped trace server packet = IsInTrace (λ outcome. outcome.packet ≡ None) trace server packet

-- the trace has the packet's release
abbrev pub IsRelease : ℕ → Entry → Type 0
IsRelease packet (Visited server passed outcome) = ⊥
IsRelease packet (Given released bytes) = released ≡ packet

abbrev pub IsGiven : List Entry → ℕ → Type 0
IsGiven trace packet = AnyOf (IsRelease packet) trace

-- a message carries the packet; the buffer withholds it
pub record IsCarried (state : ChainState) (packet : ℕ) : Type 0 where
  pub message : Message
  pub there : state.message packet ≡ Some message
  pub bytes : List ℕ
  pub carries : message.packet ≡ Some bytes

pub record IsBuffered (state : ChainState) (packet : ℕ) : Type 0 where
  pub withheld : Withheld
  pub there : state.withheld packet ≡ Some withheld

-- A packet is released, filtered, lost or inside, and its fate says which: nothing else is left for a lost one.
pub record AreFates (state : ChainState) : Type 0 where
  pub released : (packet : ℕ) → (state.fate packet ≡ became.Released) ↔ IsGiven state.trace packet
  pub filtered : (server packet : ℕ) →
      (state.fate packet ≡ became.Filtered server) ↔ IsDropped state.trace server packet
  pub inside : (packet : ℕ) → packet < state.entered →
      (state.fate packet ≡ became.Inside) ↔ (IsCarried state packet ⊎ IsBuffered state packet)
  pub waiting : (packet : ℕ) → state.entered ≤ packet → state.fate packet ≡ became.Inside

-- the events at which a packet can be lost
abbrev pub MayLose : Setting → ChainState → Event → Type 0
MayLose setting state (event.Enter packet) = state.up 0 ≡ false
MayLose setting state (event.Pass server origin) = state.up (next_of (servers setting) server) ≡ false
MayLose setting state (event.Lose server origin) = Unit {0}
MayLose setting state (event.Crash server) = Unit {0}
MayLose setting state (event.Recover server undone) = Unit {0}
MayLose setting state (event.Take link origin) = ⊥
MayLose setting state (event.Apply server origin group packet) = ⊥
MayLose setting state (event.Visit server packet worker) = ⊥
MayLose setting state (event.Carry origin) = ⊥
MayLose setting state (event.Pull link) = ⊥
MayLose setting state (event.Propagate origin) = ⊥
MayLose setting state (event.Release packet) = ⊥

-- what became of each packet, from packet 0 on
abbrev pub fates_in : Setting → ChainState → List Fate
fates_in setting state = map state.fate (range_with_len 0 (count setting))
