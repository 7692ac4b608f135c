-- What the slots of a network run.
use Rattle.std.specs.Prelude.{ℕ, ◌≡◌, ◌≢◌, ◌<◌, ◌-◌, ◌^◌, Bool, true, false, List, Option, Some, None}
use Rattle.ftc_base.specs.declared.limits.TheConstants.{MOST_SLOTS}
use Rattle.ftc_journal.specs.declared.event.Event.{Event}
use Rattle.ftc_journal.specs.declared.event.Event.TheVariants as event
use Rattle.ftc_protocol.specs.Drive.{IsNoneDue}
use Rattle.ftc_protocol.specs.Legal.{IsLegal}
use Rattle.ftc_protocol.specs.Next.{next}
use Rattle.ftc_protocol.specs.Run.{IsRunState}
use Rattle.ftc_protocol.specs.Setting.{Setting}
use Rattle.ftc_protocol.specs.State.{ChainState}
use Rattle.ftc_server.specs.declared.answers.CommitAnswer.{CommitAnswer}
use Rattle.ftc_server.specs.declared.answers.CommitAnswer.TheVariants as commit
use Rattle.ftc_server.specs.declared.held.HeldMessage.{HeldMessage}
use Rattle.ftc_server.specs.declared.server.Server.{Server}
use Rattle.ftc_server.specs.Holding.{found}
use Rattle.ftc_server.specs.Slots.{is_running}
use Rattle.ftc_server.specs.Steps.{HasQuit, Reads, EndsVisit}
use Rattle.ftc_txn.specs.Head.{HeadState, ages_left}
use Rattle.ftc_txn.specs.Slots.{Running, slot_at}
use Rattle.ftc_txn.specs.declared.answers.ReadAnswer.{ReadAnswer}
use Rattle.ftc_txn.specs.declared.answers.ReadAnswer.TheVariants.{Idle}
use Rattle.ftc_network.specs.declared.network.Network.{Network}
use Rattle.ftc_network.specs.Parts.{server_in}
use Rattle.ftc_network.specs.Stand.{IsSlot, IsNetwork}

-- what the head of a server has, none where the server is down
abbrev pub head_of : Option Server → Option HeadState
head_of None = None
head_of (Some server) = Some server.head

abbrev pub head_at : Network → ℕ → Option HeadState
head_at network server = head_of (server_in network.servers.items server)

-- what a worker's slot runs at a head
abbrev pub runs_in : Option HeadState → ℕ → Option Running
runs_in None worker = None
runs_in (Some head) worker = slot_at head.slots worker

-- some slot runs the packet at a head
abbrev pub is_running_in : Option HeadState → ℕ → Bool
is_running_in None packet = false
is_running_in (Some head) packet = is_running head packet

-- only workers' slots run something
abbrev pub RunWithin : Server → Type 0
RunWithin server = (worker : ℕ) (running : Running) → slot_at server.head.slots worker ≡ Some running →
    worker < MOST_SLOTS

-- an age is left at a head, and where the server is down
abbrev pub ages_left_in : ℕ → Option HeadState → Bool
ages_left_in greatest None = true
ages_left_in greatest (Some head) = ages_left greatest head

-- a slot gives up what it runs at a server, where that is up
abbrev pub SlotQuits : Option Server → Option Server → ℕ → Type 0
SlotQuits None new worker = new ≡ None
SlotQuits (Some old) None worker = ⊥
SlotQuits (Some old) (Some new) worker = HasQuit old new worker

-- what a slot runs at a server reads a key; where the server is down, it runs nothing there
abbrev pub SlotReads : Option Server → Option Server → ℕ → List ℕ → ReadAnswer → Type 0
SlotReads None new worker key answer = (new ≡ None) × (answer ≡ Idle)
SlotReads (Some old) None worker key answer = ⊥
SlotReads (Some old) (Some new) worker key answer = Reads old new worker key answer

-- The event is legal in a state to which a run leads, and for which the network stands.
pub record IsLegalIn (event : Event) (network : Network) : Type 0 where
  pub setting : Setting
  pub state : ChainState
  pub run : IsRunState setting state
  pub legal : IsLegal setting state event
  pub stands : IsNetwork setting state network

-- the same of one server, which is up or down
pub record IsLegalAt (event : Event) (number : ℕ) (slot : Option Server) : Type 0 where
  pub setting : Setting
  pub state : ChainState
  pub run : IsRunState setting state
  pub legal : IsLegal setting state event
  pub stands : IsSlot setting state number slot

-- ---- heads

-- every head is as it was
abbrev pub AreSameHeads : Network → Network → Type 0
AreSameHeads old new = (server : ℕ) → head_at new server ≡ head_at old server

-- those of the other servers are
abbrev pub AreOtherHeads : ℕ → Network → Network → Type 0
AreOtherHeads server old new = (other : ℕ) → other ≢ server → head_at new other ≡ head_at old other

-- a head is there whose slots run nothing
abbrev pub IsIdleHead : Option HeadState → Type 0
IsIdleHead None = ⊥
IsIdleHead (Some head) = (worker : ℕ) → slot_at head.slots worker ≡ None

-- the slots of a head that were idle are so still
abbrev pub RunNoMore : Option HeadState → Option HeadState → Type 0
RunNoMore old new = (worker : ℕ) → runs_in old worker ≡ None → runs_in new worker ≡ None

-- ---- what a slot runs

-- the packet of a held message
abbrev pub packet_of_held : Option HeldMessage → Option (List ℕ)
packet_of_held None = None
packet_of_held (Some held) = held.message.packet

-- the bytes of the packet that a slot runs at a server
abbrev pub bytes_run : Server → Option Running → Option (List ℕ)
bytes_run server None = None
bytes_run server (Some running) = packet_of_held (found running.packet server.held.items)

abbrev pub bytes_run_at : Option Server → ℕ → Option (List ℕ)
bytes_run_at None worker = None
bytes_run_at (Some server) worker = bytes_run server (slot_at server.head.slots worker)

-- ---- commits

-- what a slot runs at a server is committed; where the server is down, it runs nothing there
abbrev pub SlotEndsVisit : Option Server → Option Server → ℕ → CommitAnswer → Type 0
SlotEndsVisit None new worker answer = (new ≡ None) × (answer ≡ commit.Idle)
SlotEndsVisit (Some old) None worker answer = ⊥
SlotEndsVisit (Some old) (Some new) worker answer = EndsVisit old new worker answer

-- A run of few events leads to a state in which no release is due, and for which the network stands.
pub record IsNetworkAtRest (network : Network) : Type 0 where
  pub setting : Setting
  pub state : ChainState
  pub run : IsRunState setting state
  pub none_due : IsNoneDue setting state
  pub few : state.events < 2 ^ 64 - 1
  pub stands : IsNetwork setting state network

-- The visit of what a worker's slot ran at a server is legal in each state for which the network stood and in which no
-- release is due, and the network stands for the state after it.
abbrev pub FollowsCommit : ℕ → ℕ → Network → Network → Type 0
FollowsCommit worker server old new = (setting : Setting) (state : ChainState) (running : Running) →
    IsRunState setting state → IsNoneDue setting state → IsNetwork setting state old →
    runs_in (head_at old server) worker ≡ Some running →
    ∥ IsLegal setting state (event.Visit server running.packet worker)
    × IsNetwork setting (next setting state (event.Visit server running.packet worker)) new ∥₁
