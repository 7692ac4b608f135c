-- A network of which one server is changed.
use Rattle.std.proofs.Common.{◌≡◌, ◌≢◌, ◌<◌, ◌≤◌, ◌∙◌, ℕ, List, [], false, Option, None, length, slice_set, get_or, inl}
use Rattle.std.proofs.Common.{inr, sym, ap, subst, arith, get_or-set_same, get_or-set_other}
use Rattle.std.proofs.lemmas.Bool.{cases_eq}
use Rattle.std.proofs.lemmas.List.{get_or_read}
use Rattle.ftc_edge.specs.declared.buffer.Withheld.{Withheld}
use Rattle.ftc_link.specs.Queue.{Queue}
use Rattle.ftc_protocol.specs.Setting.{Setting, servers}
use Rattle.ftc_protocol.specs.State.{ChainState}
use Rattle.ftc_server.specs.declared.server.Server.{Server}
use Rattle.ftc_standing.specs.Stand.{IsLink}
use Rattle.ftc_visits.specs.Made.{AreMade}
use Rattle.ftc_network.specs.Parts.{NetworkParts, server_in, link_in, buffer_of}
use Rattle.ftc_network.specs.Stand.{IsSlot, AreCounts, AreParts}
use Rattle.ftc_network.proofs.Changed.{server_set, link_set}

pub one_server : (setting : Setting) (state after : ChainState) (parts : NetworkParts) (number : ℕ)
    (slot : Option Server)
    (entered done propagates : ℕ) → number < length parts.servers → AreParts setting state parts →
    IsSlot setting after number slot →
    ((server : ℕ) (other : Option Server) → server < servers setting → server ≢ number →
    IsSlot setting state server other →
    IsSlot setting after server other) →
    ((link : ℕ) (queue : Queue) → link < servers setting → IsLink setting state link queue →
    IsLink setting after link queue) →
    AreCounts setting after entered done propagates → AreMade setting after parts.visits →
    AreParts setting after (record parts {
      servers = slice_set parts.servers number slot;
      entered = entered;
      done = done;
      propagates = propagates;
    })
one_server setting state after parts number slot entered done propagates within are here others links counts visits =
    record {
      ring = are.ring;
      partitions = are.partitions;
      servers_are = server_set (IsSlot setting after) (servers setting) parts.servers number slot within here
          (λ server below differs. others server (server_in parts.servers server) below differs
          (are.servers_are server below));
      links_are = λ link below. links link (link_in parts.links link) below (are.links_are link below);
      counts = counts;
      visits = visits;
    }

-- the server at a place, as it is read there
pub read_server : (items : List (Option Server)) (place number : ℕ) (slot : Option Server) → place ≡ number →
    place < length items → slot ≡ get_or items place slot → slot ≡ server_in items number
read_server items place number slot same within read =
    get_or_read items place slot within read None ∙ ap (server_in items) same

-- where a server stands for what it stood for, so does the network
pub still_server : (setting : Setting) (state : ChainState) (parts : NetworkParts) (place number : ℕ)
    (slot : Option Server) →
    place ≡ number → place < length parts.servers → AreParts setting state parts → IsSlot setting state number slot →
    AreParts setting state (record parts { servers = slice_set parts.servers place slot })
still_server setting state parts place number slot same within are here =
    one_server setting state state parts place slot parts.entered parts.done parts.propagates within are
    (subst (λ (n : ℕ). IsSlot setting state n slot) (sym same) here)
    (λ server other below differs stays. stays) (λ link queue below stays. stays) are.counts are.visits

-- as many packets are withheld where a server withholds what it did
pub same_withheld : (items : List (Option Server)) (place last : ℕ) (slot : Option Server) → place < length items →
    buffer_of slot ≡ buffer_of (server_in items place) →
    length (buffer_of (server_in (slice_set items place slot) last)) ≡ length (buffer_of (server_in items last))
same_withheld items place last slot within same = elim (cases_eq last place) [
  | inl here ↦ ap (λ (n : ℕ). length (buffer_of (server_in (slice_set items place slot) n))) here
      ∙ (ap (λ (o : Option Server). length (buffer_of o)) (get_or-set_same items place slot None within)
      ∙ (ap (λ (list : List Withheld). length list) same
      ∙ ap (λ (n : ℕ). length (buffer_of (server_in items n))) (sym here)))
  | inr differs ↦ ap (λ (o : Option Server). length (buffer_of o)) (get_or-set_other items place last slot None differs)
]

-- the link at a place, as it is read there
pub read_link : (items : List Queue) (place number : ℕ) (queue : Queue) → place ≡ number → place < length items →
    queue ≡ get_or items place queue → queue ≡ link_in items number
read_link items place number queue same within read =
    get_or_read items place queue within read (record { from = 0; messages = []; gap = false }) ∙ ap
    (link_in items) same

-- a network of which one server and one link are changed
pub server_and_link : (setting : Setting) (state after : ChainState) (parts : NetworkParts) (number : ℕ)
    (slot : Option Server) (link : ℕ) (queue : Queue) (entered done propagates : ℕ) → number < length parts.servers →
    link < length parts.links → AreParts setting state parts → IsSlot setting after number slot →
    IsLink setting after link queue →
    ((server : ℕ) (other : Option Server) → server < servers setting → server ≢ number →
    IsSlot setting state server other →
    IsSlot setting after server other) →
    ((other : ℕ) (queued : Queue) → other < servers setting → other ≢ link → IsLink setting state other queued →
    IsLink setting after other queued) →
    AreCounts setting after entered done propagates → AreMade setting after parts.visits →
    AreParts setting after (record parts {
      servers = slice_set parts.servers number slot;
      links = slice_set parts.links link queue;
      entered = entered;
      done = done;
      propagates = propagates;
    })
server_and_link setting state after parts number slot link queue entered done propagates within inside are here there
    servers_stay links_stay counts visits =
    record {
      ring = are.ring;
      partitions = are.partitions;
      servers_are = server_set (IsSlot setting after) (servers setting) parts.servers number slot within here
          (λ server below differs. servers_stay server (server_in parts.servers server) below differs
          (are.servers_are server below));
      links_are = link_set (IsLink setting after) (servers setting) parts.links link queue inside there
          (λ other below differs. links_stay other (link_in parts.links other) below differs
          (are.links_are other below));
      counts = counts;
      visits = visits;
    }

-- no more packets are withheld where a server is gone
pub gone_withheld : (items : List (Option Server)) (place last : ℕ) → place < length items →
    length (buffer_of (server_in (slice_set items place None) last)) ≤ length (buffer_of (server_in items last))
gone_withheld items place last within = elim (cases_eq last place) [
  | inl here ↦
      let none : length (buffer_of (server_in (slice_set items place None) last)) ≡ 0 =
      ap (λ (n : ℕ). length (buffer_of (server_in (slice_set items place None) n))) here
      ∙ ap (λ (o : Option Server). length (buffer_of o)) (get_or-set_same items place None None within) in
      omega (arith, none)
  | inr differs ↦
      let same : length (buffer_of (server_in (slice_set items place None) last))
      ≡ length (buffer_of (server_in items last)) =
      ap (λ (o : Option Server). length (buffer_of o)) (get_or-set_other items place last None None differs) in
      omega (arith, same)
]
