-- What an event does to a network.
use Rattle.std.specs.Prelude.{ℕ, ◌≡◌, ◌<◌, ◌+◌, ◌^◌, ◌-◌, ◌==◌, Bool, Option}
use Rattle.ftc_journal.specs.declared.event.Event.{Event}
use Rattle.ftc_journal.specs.declared.event.Event.TheVariants.{Take}
use Rattle.ftc_link.specs.Queue.{Queue}
use Rattle.ftc_protocol.specs.Setting.{Setting, servers}
use Rattle.ftc_protocol.specs.State.{ChainState}
use Rattle.ftc_protocol.specs.Legal.{IsLegal}
use Rattle.ftc_protocol.specs.Next.{next}
use Rattle.ftc_protocol.specs.Run.{IsRunState}
use Rattle.ftc_ring.specs.Ring.{next_of}
use Rattle.ftc_server.specs.declared.server.Server.{Server}
use Rattle.ftc_standing.specs.Stand.{IsLink}
use Rattle.ftc_standing.specs.View.{leaving}
use Rattle.ftc_network.specs.declared.network.Network.{Network}
use Rattle.ftc_network.specs.Stand.{IsSlot, IsNetwork}

-- The event is legal in a state to which a run of few events leads, and for which the network stands.
pub record IsAllowed (event : Event) (network : Network) : Type 0 where
  pub setting : Setting
  pub state : ChainState
  pub run : IsRunState setting state
  pub legal : IsLegal setting state event
  pub few : state.events < 2 ^ 64 - 1
  pub stands : IsNetwork setting state network

-- the same of one server, which is up or down
pub record IsAllowedAt (event : Event) (number : ℕ) (slot : Option Server) : Type 0 where
  pub setting : Setting
  pub state : ChainState
  pub run : IsRunState setting state
  pub legal : IsLegal setting state event
  pub few : state.events < 2 ^ 64 - 1
  pub stands : IsSlot setting state number slot

-- the same of a link and its receiver, where the event is that a message is taken
pub record IsTaking (link origin : ℕ) (by_ring : Bool) (queue : Queue) (slot : Option Server) : Type 0 where
  pub setting : Setting
  pub state : ChainState
  pub run : IsRunState setting state
  pub legal : IsLegal setting state (Take link origin)
  pub by_ring_is : by_ring ≡ (link + 1 == servers setting)
  pub link_stands : IsLink setting state link queue
  pub stands : IsSlot setting state (next_of (servers setting) link) slot

-- what stood for a state in which the event is legal stands for the state after the event
abbrev pub FollowsIn : Setting → ChainState → Event → Network → Network → Type 0
FollowsIn setting state event old new =
    IsRunState setting state → IsLegal setting state event → IsNetwork setting state old →
    IsNetwork setting (next setting state event) new

abbrev pub Follows : Event → Network → Network → Type 0
Follows event old new = (setting : Setting) (state : ChainState) → FollowsIn setting state event old new

abbrev pub SlotFollowsIn : Setting → ChainState → Event → ℕ → Option Server → Option Server → Type 0
SlotFollowsIn setting state event number old new =
    IsRunState setting state → IsLegal setting state event → IsSlot setting state number old →
    IsSlot setting (next setting state event) number new

abbrev pub SlotFollows : Event → ℕ → Option Server → Option Server → Type 0
SlotFollows event number old new =
    (setting : Setting) (state : ChainState) → SlotFollowsIn setting state event number old new

-- the same of a link and its receiver
abbrev pub EndsFollow : Setting → ChainState → ℕ → ℕ → Queue → Queue → Option Server → Option Server → Type 0
EndsFollow setting state link origin queue queue_after old new =
    IsRunState setting state → IsLegal setting state (Take link origin) → IsLink setting state link queue →
    IsSlot setting state (next_of (servers setting) link) old →
    IsLink setting (next setting state (Take link origin)) link queue_after
    × IsSlot setting (next setting state (Take link origin)) (next_of (servers setting) link) new

-- what stood for a state still does
abbrev pub StandsStill : Network → Network → Type 0
StandsStill old new =
    (setting : Setting) (state : ChainState) → IsNetwork setting state old → IsNetwork setting state new

abbrev pub SlotStandsStill : ℕ → Option Server → Option Server → Type 0
SlotStandsStill number old new =
    (setting : Setting) (state : ChainState) → IsSlot setting state number old → IsSlot setting state number new

-- A held message may leave a server, and its link stands for what is queued on it. `up` says whether the receiver is
-- up.
pub record IsLeaving (lost : Bool) (server origin : ℕ) (up : Bool) (queue : Queue) (slot : Option Server) : Type 0 where
  pub setting : Setting
  pub state : ChainState
  pub run : IsRunState setting state
  pub legal : IsLegal setting state (leaving lost server origin)
  pub up_is : up ≡ state.up (next_of (servers setting) server)
  pub link_stands : IsLink setting state server queue
  pub stands : IsSlot setting state server slot

abbrev pub LeavingFollows : Setting → ChainState → Bool → ℕ → ℕ → Queue → Queue → Option Server → Option Server → Type 0
LeavingFollows setting state lost server origin queue queue_after old new =
    IsRunState setting state → IsLegal setting state (leaving lost server origin) → IsLink setting state server queue →
    IsSlot setting state server old →
    IsLink setting (next setting state (leaving lost server origin)) server queue_after
    × IsSlot setting (next setting state (leaving lost server origin)) server new
