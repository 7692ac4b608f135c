-- The servers and links of a chain by their numbers, and when a message may begin without a packet.
use Rattle.std.specs.Prelude.{ℕ, ◌≡◌, ◌≢◌, ◌<◌, ◌+◌, ◌-◌, ◌⊎◌, true, false, [], Option, Some, None}
use Rattle.std.specs.List.{AllByRecursion}
use Rattle.ftc_link.specs.Queue.{Queue}
use Rattle.ftc_protocol.specs.Setting.{Setting, servers, count}
use Rattle.ftc_protocol.specs.State.{ChainState}
use Rattle.ftc_server.specs.declared.held.HeldMessage.{HeldMessage}
use Rattle.ftc_server.specs.declared.server.Server.{Server}
use Rattle.ftc_standing.specs.Stand.{IsLink}
use Rattle.ftc_refinement.specs.Contents.{IsServerAt}

-- what has a server's number: it stands for what is there, or is nothing where the server is down
abbrev pub IsServerSlot : Setting → ChainState → ℕ → Option Server → Type 0
IsServerSlot setting state number None = state.up number ≡ false
IsServerSlot setting state number (Some server) = (state.up number ≡ true) × IsServerAt setting state number server

-- each server and each link of the chain
pub record AreRepresented (setting : Setting) (state : ChainState) (slots : ℕ → Option Server) (queues : ℕ → Queue) :
    Type 0 where
  pub servers_are : (number : ℕ) → number < servers setting → IsServerSlot setting state number (slots number)
  pub links_are : (link : ℕ) → link < servers setting → IsLink setting state link (queues link)

-- no server holds a message, no link has one or a gap, and the last server withholds some packet
pub record AreStalled (setting : Setting) (slots : ℕ → Option Server) (queues : ℕ → Queue) : Type 0 where
  pub none_held : (number : ℕ) (server : Server) → number < servers setting → slots number ≡ Some server →
      server.held.items ≡ []
  pub none_queued : (link : ℕ) → link < servers setting → (queues link).messages ≡ []
  pub no_gap : (link : ℕ) → link < servers setting → (queues link).gap ≡ false
  pub last : Server
  pub last_is : slots (servers setting - 1) ≡ Some last
  pub withheld : last.buffer.items ≢ []

-- All packets have entered and all servers are up; what server 0 holds came by the ring link; and its forwarder has a
-- log, or the chain is stalled. The message has the next number behind all packets.
pub record IsToPropagate (setting : Setting) (state : ChainState) (slots : ℕ → Option Server) (queues : ℕ → Queue)
    (origin : ℕ) : Type 0 where
  pub entered : state.entered ≡ count setting
  pub up : (number : ℕ) → number < servers setting → (server : Server) × (slots number ≡ Some server)
  pub first : Server
  pub first_is : slots 0 ≡ Some first
  pub by_ring : AllByRecursion (λ (held : HeldMessage). held.by_ring ≡ true) first.held.items
  pub some : (first.forwarder ≢ []) ⊎ AreStalled setting slots queues
  pub origin_is : origin ≡ count setting + state.propagates
