-- A network of which one server and one link are changed, and what stands at a place of it.
use Rattle.std.proofs.Common.{◌≡◌, ◌≢◌, ◌∙◌, ◌<◌, ℕ, Bool, Option, Some, None, length, slice_set, sym, ap, subst, arith}
use Rattle.std.specs.Prelude.{is_some}
use Rattle.ftc_link.specs.Queue.{Queue}
use Rattle.ftc_protocol.specs.Setting.{Setting, servers}
use Rattle.ftc_protocol.specs.State.{ChainState}
use Rattle.ftc_ring.specs.Ring.{RingShape, next_of}
use Rattle.ftc_server.specs.declared.server.Server.{Server}
use Rattle.ftc_standing.specs.Stand.{IsLink}
use Rattle.ftc_visits.specs.Made.{AreMade}
use Rattle.ftc_network.specs.Parts.{NetworkParts, server_in, link_in}
use Rattle.ftc_network.specs.Stand.{IsSlot, AreCounts, AreParts}
use Rattle.ftc_network.proofs.Changed.{server_set, link_set}

module _ (setting : Setting) (state : ChainState) (parts : NetworkParts) (are : AreParts setting state parts) where
  pub one_each : (after : ChainState) (number : ℕ) (slot : Option Server) (from : ℕ) (queue : Queue) →
      number < length parts.servers → from < length parts.links →
      IsSlot setting after number slot → IsLink setting after from queue →
      ((server : ℕ) (other : Option Server) → server ≢ number → IsSlot setting state server other →
      IsSlot setting after server other) →
      ((link : ℕ) (other : Queue) → link ≢ from → IsLink setting state link other → IsLink setting after link other) →
      AreCounts setting after parts.entered parts.done parts.propagates → AreMade setting after parts.visits →
      AreParts setting after (record parts {
        servers = slice_set parts.servers number slot;
        links = slice_set parts.links from queue;
      })
  one_each after number slot from queue within along here there others links counts visits = record {
    ring = are.ring;
    partitions = are.partitions;
    servers_are = server_set (IsSlot setting after) (servers setting) parts.servers number slot within here
        (λ server below differs. others server (server_in parts.servers server) differs (are.servers_are server below));
    links_are = link_set (IsLink setting after) (servers setting) parts.links from queue along there
        (λ link below differs. links link (link_in parts.links link) differs (are.links_are link below));
    counts = counts;
    visits = visits;
  }

  pub slot_there : (number place : ℕ) (slot : Option Server) → place ≡ number → number < servers setting →
      slot ≡ server_in parts.servers place → IsSlot setting state number slot
  slot_there number place slot same below is =
      subst (IsSlot setting state number) (sym is)
      (subst (λ n. IsSlot setting state number (server_in parts.servers n)) (sym same) (are.servers_are number below))

-- whether a server is up is whether one is there
pub up_there : (setting : Setting) (state : ChainState) (number : ℕ) (slot : Option Server) →
    IsSlot setting state number slot → is_some slot ≡ state.up number
up_there setting state number None down = sym down
up_there setting state number (Some server) is = sym is.up

-- whether the receiver of a link is up
pub receiver_up : (setting : Setting) (state : ChainState) (parts : NetworkParts) (are : AreParts setting state parts)
    (server receiver place : ℕ) (slot : Option Server) (up : Bool) → receiver ≡ next_of parts.ring.servers server →
    receiver < parts.ring.servers → place ≡ receiver → slot ≡ server_in parts.servers place → up ≡ is_some slot →
    up ≡ state.up (next_of (servers setting) server)
receiver_up setting state parts are server receiver place slot up is below same there up_is =
    let size : parts.ring.servers ≡ servers setting = ap (λ (ring : RingShape). ring.servers) are.ring in
    let inside : receiver < servers setting = omega (arith, size, below) in
    up_is ∙ (up_there setting state receiver slot
    (slot_there setting state parts are receiver place slot same inside there)
    ∙ ap state.up (is ∙ ap (λ n. next_of n server) size))
