-- How many messages are held and queued.
use Rattle.std.specs.Prelude.{ℕ, ◌≡◌, ◌≢◌, ◌+◌, ◌↔◌, List, [], ◌∷◌, length, Option, Some, None}
use Rattle.ftc_link.specs.Queue.{Queue}
use Rattle.ftc_protocol.specs.State.{Message, ChainState}
use Rattle.ftc_serial.specs.Words.{AnyOf, EachLater}
use Rattle.ftc_server.specs.declared.held.HeldMessage.{HeldMessage}
use Rattle.ftc_server.specs.declared.server.Server.{Server}
use Rattle.ftc_network.specs.declared.network.Network.{Network}

-- the message of that origin is somewhere: a server holds it, or it is queued on a link
abbrev pub IsUnderWay : ChainState → ℕ → Type 0
IsUnderWay state origin = (message : Message) × (state.message origin ≡ Some message)

-- there are so many of them: their origins are a list in which each stands once
pub record AreUnderWay (state : ChainState) (count : ℕ) : Type 0 where
  pub origins : List ℕ
  pub each : (origin : ℕ) → AnyOf (λ (other : ℕ). other ≡ origin) origins ↔ IsUnderWay state origin
  pub once : EachLater (λ (one other : ℕ). one ≢ other) origins
  pub count_is : length origins ≡ count

-- ---- the same of servers and links

abbrev pub held_in : Option Server → List HeldMessage
held_in None = []
held_in (Some server) = server.held.items

abbrev pub all_held : List (Option Server) → ℕ
all_held [] = 0
all_held (slot ∷ slots) = length (held_in slot) + all_held slots

abbrev pub all_queued : List Queue → ℕ
all_queued [] = 0
all_queued (queue ∷ queues) = length queue.messages + all_queued queues

abbrev pub messages_in : Network → ℕ
messages_in network = all_held network.servers.items + all_queued network.links.items
