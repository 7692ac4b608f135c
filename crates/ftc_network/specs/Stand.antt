-- For which state of the protocol a network stands.
use Rattle.std.specs.Prelude.{ℕ, ◌≡◌, ◌<◌, true, false, drop, Option, Some, None}
use Rattle.ftc_base.specs.declared.limits.TheConstants.{MOST_SLOTS}
use Rattle.ftc_protocol.specs.Setting.{Setting, servers, shape}
use Rattle.ftc_protocol.specs.State.{ChainState}
use Rattle.ftc_txn.specs.Slots.{Running, slot_at}
use Rattle.ftc_refinement.specs.Contents.{IsServerAt}
use Rattle.ftc_server.specs.declared.server.Server.{Server}
use Rattle.ftc_server.specs.Slots.{slots_are_ready}
use Rattle.ftc_standing.specs.Stand.{IsLink}
use Rattle.ftc_visits.specs.Made.{AreMade}
use Rattle.ftc_network.specs.declared.network.Network.{Network}
use Rattle.ftc_network.specs.Parts.{NetworkParts, parts_of, server_in, link_in}

-- no slot runs anything
abbrev pub AreIdle : Server → Type 0
AreIdle server = (worker : ℕ) → slot_at server.head.slots worker ≡ None

-- The server has all logs of the messages whose packets its slots run. Only workers' slots run something.
pub record AreReady (server : Server) : Type 0 where
  pub all : slots_are_ready server.others.items server.head server.held.items ≡ true
  pub within : (worker : ℕ) (running : Running) → slot_at server.head.slots worker ≡ Some running → worker < MOST_SLOTS

-- each slot that runs something ran that packet before
abbrev pub RunNothingElse : Server → Server → Type 0
RunNothingElse old new = (worker : ℕ) (running : Running) → slot_at new.head.slots worker ≡ Some running →
    (before : Running) × (slot_at old.head.slots worker ≡ Some before) × (running.packet ≡ before.packet)

-- The server is up and stands for what is there. What its slots run is ready, so that it may be visited at every moment
-- at which no release is due.
pub record IsUp (setting : Setting) (state : ChainState) (number : ℕ) (server : Server) : Type 0 where
  pub up : state.up number ≡ true
  pub at : IsServerAt setting state number server
  pub ready : AreReady server

abbrev pub IsSlot : Setting → ChainState → ℕ → Option Server → Type 0
IsSlot setting state number None = state.up number ≡ false
IsSlot setting state number (Some server) = IsUp setting state number server

-- how many packets have entered, how many lines of the script are done, and how many messages began without a packet
pub record AreCounts (setting : Setting) (state : ChainState) (entered done propagates : ℕ) : Type 0 where
  pub entered_is : entered ≡ state.entered
  pub lines : state.lines ≡ drop done setting.lines
  pub propagates_is : propagates ≡ state.propagates

-- each server and each link stands for what is there, and the visits are those of the trace
pub record AreParts (setting : Setting) (state : ChainState) (parts : NetworkParts) : Type 0 where
  pub ring : parts.ring ≡ shape setting
  pub partitions : parts.partitions ≡ setting.partitions
  pub servers_are : (server : ℕ) → server < servers setting →
      IsSlot setting state server (server_in parts.servers server)
  pub links_are : (link : ℕ) → link < servers setting → IsLink setting state link (link_in parts.links link)
  pub counts : AreCounts setting state parts.entered parts.done parts.propagates
  pub visits : AreMade setting state parts.visits

abbrev pub IsNetwork : Setting → ChainState → Network → Type 0
IsNetwork setting state network = AreParts setting state (parts_of network)
