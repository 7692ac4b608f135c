-- What holds at every moment of a run.
use Rattle.std.specs.Prelude.{ℕ, ◌≡◌, ◌<◌, ◌≤◌, true, false, List, [], ◌∷◌, ◌++◌, Some, unwrap_or}
use Rattle.ftc_base.specs.declared.released.Released.{Released}
use Rattle.ftc_ring.specs.Ring.{apart}
use Rattle.ftc_ring.specs.Live.{first_live_of, IsFirstLive}
use Rattle.ftc_serial.specs.declared.step.Step.{Step}
use Rattle.ftc_serial.specs.Words.{AnyOf}
use Rattle.ftc_serial.specs.Serial.{State, Entry, Visited, Given, serial_run, serial_opening}
use Rattle.ftc_serial.specs.Entries.{step_of}
use Rattle.ftc_serial.specs.Removal.{left_of}
use Rattle.ftc_protocol.specs.Setting.{Setting, servers, shape, is_member}
use Rattle.ftc_protocol.specs.Visits.{Visits, In}
use Rattle.ftc_protocol.specs.Trace.{IsSomeVisit, IsTouching, IsChanging, IsBefore, Has, lacked_by, content_of}
use Rattle.ftc_protocol.specs.State.{Message, ChainState}
use Rattle.ftc_protocol.specs.Known.{ServerHas, knows}
use Rattle.ftc_protocol.specs.Recovery.{is_up_to}

-- the first live member of a group
abbrev pub first_live : Setting → ChainState → ℕ → ℕ
first_live setting state group = unwrap_or (first_live_of (shape setting) state.up group) group

-- A visit has fallen where it, or an earlier visit of its packet, touches something and is lacked by the first live
-- member of its group. The other visits of the trace stand.
abbrev pub has_fallen : Setting → ChainState → Visits
has_fallen setting state server packet =
    is_up_to (λ earlier. lacked_by setting.partitions state.trace
    (state.lists (first_live setting state earlier)) earlier packet) server

pub record Stands (setting : Setting) (state : ChainState) (server packet : ℕ) : Type 0 where
  pub there : IsSomeVisit state.trace server packet
  pub standing : has_fallen setting state server packet ≡ false

-- the trace now: without the visits that don't stand
abbrev pub trace_now : Setting → ChainState → List Entry
trace_now setting state = left_of (has_fallen setting state) state.trace

-- the steps of a trace, the first of them first
abbrev pub steps_in : List Entry → List Step
steps_in [] = []
steps_in (entry ∷ older) = steps_in older ++ step_of entry ∷ []

-- the records that were released, in order
abbrev pub released_in : List Entry → List Released
released_in [] = []
released_in (Visited server packet outcome ∷ older) = released_in older
released_in (Given packet bytes ∷ older) = released_in older ++ record { packet = packet; bytes = bytes } ∷ []

-- a changing visit of the trace, which each live member of its group has
pub record IsEverywhere (setting : Setting) (state : ChainState) (group packet : ℕ) : Type 0 where
  pub changing : IsChanging setting.partitions state.trace group packet
  pub had : (server : ℕ) → server < servers setting → state.up server ≡ true → is_member setting group server ≡ true →
      In (state.lists server) group packet

pub record IsSound (setting : Setting) (state : ChainState) : Type 0 where
  -- the serial run of the trace now exists, and it released what was released
  pub end : State
  pub serial : serial_run setting.rules (serial_opening setting.packets) (steps_in (trace_now setting state)) ≡ Some end
  pub released : end.released ≡ released_in state.trace
  -- the first live member of each group has that run's content
  pub first : (group server : ℕ) → group < servers setting → IsFirstLive (shape setting) state.up group server →
      content_of state.trace (state.lists server group) group ≡ end.maps group
  -- a later live member of a group has no visit that an earlier live member lacks
  pub nested : (group earlier later packet : ℕ) → earlier < servers setting → state.up earlier ≡ true →
      apart (servers setting) group earlier ≤ apart (servers setting) group later →
      In (state.lists later) group packet → In (state.lists earlier) group packet
  -- a list that has a visit has each that is before it
  pub closed : (server group packet other : ℕ) → In (state.lists server) group other →
      IsBefore setting.partitions state.trace group packet other → In (state.lists server) group packet
  -- where some live server has a changing visit of a packet, the first live member of each earlier group has the
  -- packet's visit there
  pub earlier : (group later server first packet : ℕ) → group < later → IsTouching state.trace group packet →
      In (state.lists server) later packet →
      IsFirstLive (shape setting) state.up group first → ServerHas setting state first group packet
  -- what a live server or a message knows to be at its tail is everywhere
  pub known : (server group packet : ℕ) → In (knows setting state server) group packet →
      IsEverywhere setting state group packet
  pub carried : (origin group packet : ℕ) (message : Message) → state.message origin ≡ Some message →
      In message.known group packet → IsEverywhere setting state group packet
  pub known_had : (server member group packet : ℕ) →
      Has setting.partitions state.trace (knows setting state server) group packet →
      member < servers setting → state.up member ≡ true → is_member setting group member ≡ true →
      ServerHas setting state member group packet
  -- a released packet's visits are all in the trace, and all stand
  pub whole : (packet server : ℕ) (bytes : List ℕ) → AnyOf (λ entry. entry ≡ Given packet bytes) state.trace →
      server < servers setting → Stands setting state server packet
  -- what a message carries is a touching visit of the trace
  pub logs : (origin group packet : ℕ) (message : Message) → state.message origin ≡ Some message →
      In message.logs group packet → IsTouching state.trace group packet
