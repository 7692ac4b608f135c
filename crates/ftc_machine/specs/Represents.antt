-- What the machine keeps, and the state for which it stands.
use Rattle.std.specs.Prelude.{ℕ, ◌≡◌, ◌<◌, ◌+◌, true, List, [], drop, slice_index_or, Option, Some, None}
use Rattle.std.specs.Prelude.{is_some}
use Rattle.std.specs.Option.{option_map_or}
use Rattle.ftc_base.specs.Sets.{has}
use Rattle.ftc_ring.specs.Live.{is_live}
use Rattle.ftc_serial.specs.Contents.{content_at}
use Rattle.ftc_serial.specs.Serial.{Entry}
use Rattle.ftc_serial.specs.Trace.{names}
use Rattle.ftc_protocol.specs.declared.fate.Fate.{Fate}
use Rattle.ftc_protocol.specs.declared.fate.Fate.TheVariants as became
use Rattle.ftc_machine.specs.Lawful.{AreLawful}
use Rattle.ftc_machine.specs.declared.state.footprint.Footprint.{Footprint}
use Rattle.ftc_machine.specs.declared.state.MachineState.{MachineState}
use Rattle.ftc_machine.specs.declared.state.message.Message.{Message as MessageOfMachine}
use Rattle.ftc_machine.specs.declared.state.message.Place.{Place}
use Rattle.ftc_machine.specs.declared.state.message.Place.TheVariants as place
use Rattle.ftc_machine.specs.declared.state.message.Withheld.{Withheld as WithheldOfMachine}
use Rattle.ftc_journal.specs.declared.event.Event.{Event}
use Rattle.ftc_script.specs.Script.{ScriptShape, loses_of}
use Rattle.ftc_protocol.specs.Setting.{Setting, servers, shape, count, IsSetting}
use Rattle.ftc_protocol.specs.Legal.{IsLegal}
pub use Rattle.ftc_protocol.specs.Recovery.{visits_in}
use Rattle.ftc_protocol.specs.Run.{IsRun, state_after}
use Rattle.ftc_machine.specs.Slots.{slot_at}
use Rattle.ftc_machine.specs.Frontier.{Numbers, AreRising, AreFrontiers, Footprints, numbers_of, AreFootprints}
use Rattle.ftc_protocol.specs.State.{Where, Held, Queued, Message, Withheld, ChainState, opening}
use Rattle.ftc_protocol.specs.Trace.{content_of}
use Rattle.ftc_protocol.specs.Visits.{Visits}

-- the footprint of a visit, the reach of a server's set
abbrev pub footprints_in : List (List (Option Footprint)) → Footprints
footprints_in visits server packet = slot_at (slice_index_or visits server []) packet

abbrev pub frontiers_of : List (List (List ℕ)) → ℕ → List (List ℕ)
frontiers_of reaches server = slice_index_or reaches server []

-- a message is where it is kept to be; a queued one carries what it is kept to carry
abbrev pub IsPlace : ℕ → List Entry → Numbers → Visits → Where → Place → Type 0
IsPlace partitions trace numbers known (Held server visited by_ring) (place.Held other said by) =
    (other ≡ server) × (said ≡ visited) × (by ≡ by_ring)
IsPlace partitions trace numbers known (Held server visited by_ring) (place.Queued other reach) = ⊥
IsPlace partitions trace numbers known (Queued link) (place.Held other said by) = ⊥
IsPlace partitions trace numbers known (Queued link) (place.Queued other reach) =
    (other ≡ link) × AreFrontiers partitions trace numbers known reach.value

pub record IsMessage (partitions : ℕ) (trace : List Entry) (numbers : Numbers) (message : Message)
    (kept : MessageOfMachine) : Type 0 where
  pub place : IsPlace partitions trace numbers message.known message.place kept.place
  pub since : kept.since ≡ message.since
  pub packet : kept.packet ≡ message.packet
  pub logs : (server packet : ℕ) → names kept.logs server packet ≡ message.logs server packet
  pub needs : (server : ℕ) → has kept.needs server ≡ message.needs server

abbrev pub IsMessageSlot : ℕ → List Entry → Numbers → Option Message → Option MessageOfMachine → Type 0
IsMessageSlot partitions trace numbers None None = Unit {0}
IsMessageSlot partitions trace numbers None (Some kept) = ⊥
IsMessageSlot partitions trace numbers (Some message) None = ⊥
IsMessageSlot partitions trace numbers (Some message) (Some kept) = IsMessage partitions trace numbers message kept

pub record IsWithheld (packet : ℕ) (withheld : Withheld) (kept : WithheldOfMachine) : Type 0 where
  pub packet_is : kept.packet ≡ packet
  pub since : kept.since ≡ withheld.since
  pub needs : (server : ℕ) → has kept.needs server ≡ withheld.needs server

abbrev pub IsWithheldSlot : ℕ → Option Withheld → Option WithheldOfMachine → Type 0
IsWithheldSlot packet None None = Unit {0}
IsWithheldSlot packet None (Some kept) = ⊥
IsWithheldSlot packet (Some withheld) None = ⊥
IsWithheldSlot packet (Some withheld) (Some kept) = IsWithheld packet withheld kept

abbrev pub fate_in : List (Option Fate) → ℕ → Fate
fate_in fates packet = option_map_or (λ (fate : Fate). fate) (slot_at fates packet) became.Inside

-- the parts that speak of sets of visits
pub record RepresentsSets (setting : Setting) (state : ChainState) (machine : MachineState) : Type 0 where
  -- visits are numbered by their events, from 1 on, and each has its footprint
  pub rising : AreRising (numbers_of (footprints_in machine.visits.items)) (state.events + 1) state.trace
  pub footprints : AreFootprints setting.partitions (footprints_in machine.visits.items) state.trace
  pub order : machine.order ≡ visits_in state.trace
  -- the visits that servers have and know of, and that messages carry
  pub lists : (server : ℕ) → server < servers setting
      → AreFrontiers setting.partitions state.trace (numbers_of (footprints_in machine.visits.items))
      (state.lists server) (frontiers_of machine.lists.items server)
  pub known : (server : ℕ) → server < servers setting
      → AreFrontiers setting.partitions state.trace (numbers_of (footprints_in machine.visits.items))
      (state.known server) (frontiers_of machine.known.items server)
  pub messages : (origin : ℕ) → IsMessageSlot setting.partitions state.trace
      (numbers_of (footprints_in machine.visits.items)) (state.message origin) (slot_at machine.messages origin)
  -- a live server's own store
  pub stores : (server : ℕ) → server < servers setting → state.up server ≡ true
      → content_at machine.stores.items server ≡ content_of state.trace (state.lists server server) server

-- and the others
pub record Represents (setting : Setting) (state : ChainState) (machine : MachineState) : Type 0 where
  pub ring : machine.ring ≡ shape setting
  pub partitions : machine.partitions ≡ setting.partitions
  pub up : (server : ℕ) → server < servers setting → state.up server ≡ is_live machine.down server
  pub sets : RepresentsSets setting state machine
  pub forwarder : (server packet : ℕ) → names machine.forwarder server packet ≡ state.forwarder server packet
  pub buffer : (packet : ℕ) → IsWithheldSlot packet (state.withheld packet) (slot_at machine.buffer packet)
  pub gaps : (link : ℕ) → link < servers setting → has machine.gaps link ≡ state.gap link
  pub lines : state.lines ≡ drop machine.done setting.lines
  pub entered : machine.entered ≡ state.entered
  pub propagates : machine.propagates ≡ state.propagates
  pub fates : (packet : ℕ) → fate_in machine.fates packet ≡ state.fate packet

-- an event that is legal after a run that leads to this state
pub record FollowsRun (setting : Setting) (state : ChainState) (event : Event) : Type 0 where
  pub supposed : IsSetting setting
  pub journal : List Event
  pub run : IsRun setting journal
  pub leads : state_after setting (opening setting) journal ≡ state
  pub laws : AreLawful setting
  pub legal : IsLegal setting state event

-- what stands for one state stands for another
abbrev pub Simulates : Setting → ChainState → ChainState → MachineState → MachineState → Type 0
Simulates setting state other old new = Represents setting state old → Represents setting other new

-- what stood for a state still does
abbrev pub RepresentsSame : MachineState → MachineState → Type 0
RepresentsSame old new = (setting : Setting) (state : ChainState) → Simulates setting state state old new

-- a run that leads to a state, and what is kept for it
pub record RepresentsRun (setting : Setting) (state : ChainState) (machine : MachineState) : Type 0 where
  pub supposed : IsSetting setting
  pub journal : List Event
  pub run : IsRun setting journal
  pub leads : state_after setting (opening setting) journal ≡ state
  pub laws : AreLawful setting
  pub kept : Represents setting state machine

-- the script and the count of packets of a setting
pub record AreInputs (setting : Setting) (script : ScriptShape) (packets : ℕ) : Type 0 where
  pub lines : setting.lines ≡ script.steps
  pub loses : (link origin : ℕ) → setting.loses link origin ≡ is_some (loses_of script.loses link origin)
  pub counted : count setting ≡ packets
