-- The slot of a server, and the link that leaves one, as they are read at their places, and the network where the slot
-- is changed at its place.
use Rattle.std.proofs.Common.{◌≡◌, ◌≢◌, ◌<◌, ◌≤◌, ◌∙◌, ◌-◌, ℕ, List, Option, None, length, slice_set, get_or, refl, sym}
use Rattle.std.proofs.Common.{ap, subst, arith, get_or-set_same, get_or-set_other}
use Rattle.std.proofs.Math.Logic.{∥∥₁_map}
use Rattle.std.specs.Vec.{vec_len}
use Rattle.ftc_journal.specs.declared.event.Event.{Event}
use Rattle.ftc_link.specs.Queue.{Queue}
use Rattle.ftc_protocol.specs.Legal.{IsLegal}
use Rattle.ftc_protocol.specs.Next.{next}
use Rattle.ftc_protocol.specs.Run.{IsRunState}
use Rattle.ftc_protocol.specs.Setting.{Setting, servers}
use Rattle.ftc_protocol.specs.State.{ChainState}
use Rattle.ftc_ring.specs.Ring.{RingShape}
use Rattle.ftc_server.specs.declared.server.Server.{Server}
use Rattle.ftc_standing.specs.Stand.{IsLink}
use Rattle.ftc_standing.specs.View.{IsBesideServer, IsBesideLink}
use Rattle.ftc_visits.specs.Made.{AreMade}
use Rattle.ftc_visits.specs.declared.visit.MadeVisit.{MadeVisit}
use Rattle.ftc_network.specs.declared.network.Network.{Network}
use Rattle.ftc_network.specs.Committing.{IsAtRestAt}
use Rattle.ftc_network.specs.Events.{IsAllowed, IsAllowedAt, SlotStandsStill}
use Rattle.ftc_network.specs.Parts.{NetworkParts, parts_of, server_in, link_in, buffer_of}
use Rattle.ftc_network.specs.Slots.{head_of, IsNetworkAtRest}
use Rattle.ftc_network.specs.Stand.{IsSlot, IsNetwork, AreCounts, AreParts}
use Rattle.ftc_network.proofs.Changed.{server_set}
use Rattle.ftc_network.proofs.Heads.{same_heads}
use Rattle.ftc_network.proofs.OneServer.{read_server, read_link, still_server, same_withheld}

-- the slot of a server of the network, which stands at that place
pub record IsAt (network : Network) (place server : ℕ) (slot : Option Server) : Type 0 where
  pub inside : server < network.ring.servers
  pub same : place ≡ server
  pub within : place < length network.servers.items
  pub slot_is : slot ≡ server_in network.servers.items server

-- there is something at that place
pub is_within : (network : Network) {place server : ℕ} → server < network.ring.servers → place ≡ server →
    place < vec_len network.servers
is_within network inside same = omega (arith, inside, network.each_server, same)

-- what is read there is that slot
pub is_at : (network : Network) {place server : ℕ} {slot : Option Server} → server < network.ring.servers →
    place ≡ server → slot ≡ get_or network.servers.items place slot → IsAt network place server slot
is_at network {place = place} {server = server} {slot = slot} inside same read =
    let within : place < length network.servers.items = omega (arith, inside, network.each_server, same) in
    record {
      inside = inside;
      same = same;
      within = within;
      slot_is = read_server network.servers.items place server slot same within read;
    }

-- the slot of the first server
pub is_first : (network : Network) {slot : Option Server} → 1 ≤ network.ring.servers →
    slot ≡ get_or network.servers.items 0 slot → IsAt network 0 0 slot
is_first network some read = is_at network (omega (arith, some)) refl read

-- where the network stands for a state, the slot does
pub stands_there : {network : Network} {place server : ℕ} {slot : Option Server} → IsAt network place server slot →
    (setting : Setting) (state : ChainState) → IsNetwork setting state network → IsSlot setting state server slot
stands_there {server = server} at setting state is =
    subst (IsSlot setting state server) (sym at.slot_is) (is.servers_are server
    (subst (λ (n : ℕ). server < n) (ap (λ (ring : RingShape). ring.servers) is.ring) at.inside))

-- what is allowed with the network is allowed with that server
pub allowed_there : {event : Event} {network : Network} {place server : ℕ} {slot : Option Server} →
    IsAt network place server slot → ∥ IsAllowed event network ∥₁ → ∥ IsAllowedAt event server slot ∥₁
allowed_there at allowed = ∥∥₁_map allowed (λ given. record {
  setting = given.setting;
  state = given.state;
  run = given.run;
  legal = given.legal;
  few = given.few;
  stands = stands_there at given.setting given.state given.stands;
})

-- where the network is at rest, the server is
pub rests_there : {network : Network} {place server : ℕ} {slot : Option Server} → IsAt network place server slot →
    ∥ IsNetworkAtRest network ∥₁ → ∥ IsAtRestAt server slot ∥₁
rests_there at rests = ∥∥₁_map rests (λ given. record {
  setting = given.setting;
  state = given.state;
  run = given.run;
  few = given.few;
  stands = stands_there at given.setting given.state given.stands;
})

-- the changed slot is that of the server
pub is_there : {network : Network} {place server : ℕ} {slot : Option Server} → IsAt network place server slot →
    (new : Option Server) → server_in (slice_set network.servers.items place new) server ≡ new
is_there {network = network} {place = place} at new =
    ap (server_in (slice_set network.servers.items place new)) (sym at.same)
    ∙ get_or-set_same network.servers.items place new None at.within

-- what holds of the slot before and after, holds of the server before and after
pub both_there : {network : Network} {place server : ℕ} {slot : Option Server} → IsAt network place server slot →
    (new : Option Server) (Fact : Option Server → Option Server → Type 0) → Fact slot new →
    Fact (server_in network.servers.items server) (server_in (slice_set network.servers.items place new) server)
both_there {network = network} {place = place} {server = server} {slot = slot} at new Fact fact =
    subst (λ (o : Option Server). Fact o (server_in (slice_set network.servers.items place new) server)) at.slot_is
    (subst (Fact slot) (sym (is_there at new)) fact)

-- the other servers are as they were
pub others_there : (items : List (Option Server)) (place server : ℕ) (new : Option Server) → place ≡ server →
    (other : ℕ) → other ≢ server → server_in (slice_set items place new) other ≡ server_in items other
others_there items place server new same other differs =
    get_or-set_other items place other new None (λ here. differs (here ∙ same))

-- where the slot stands for what it stood for, so does the network
pub still_there : {network : Network} {place server : ℕ} {slot : Option Server} → IsAt network place server slot →
    (new : Option Server) → SlotStandsStill server slot new → (setting : Setting) (state : ChainState) →
    IsNetwork setting state network →
    AreParts setting state (record (parts_of network) { servers = slice_set network.servers.items place new })
still_there {network = network} {place = place} {server = server} at new still setting state is =
    still_server setting state (parts_of network) place server new at.same at.within is
    (still setting state (stands_there at setting state is))

-- where the slot withholds what it did, the last server withholds as many packets
pub withheld_there : {network : Network} {place server : ℕ} {slot : Option Server} → IsAt network place server slot →
    (new : Option Server) → buffer_of new ≡ buffer_of slot →
    length (buffer_of (server_in (slice_set network.servers.items place new) (network.ring.servers - 1)))
    ≡ length (buffer_of (server_in network.servers.items (network.ring.servers - 1)))
withheld_there {network = network} {place = place} at new same =
    same_withheld network.servers.items place (network.ring.servers - 1) new at.within
    (same ∙ ap buffer_of (at.slot_is ∙ ap (server_in network.servers.items) (sym at.same)))

-- where its head is as it was, all heads are
pub heads_there : {network : Network} {place server : ℕ} {slot : Option Server} → IsAt network place server slot →
    (new : Option Server) → head_of new ≡ head_of slot → (number : ℕ) →
    head_of (server_in (slice_set network.servers.items place new) number)
    ≡ head_of (server_in network.servers.items number)
heads_there {network = network} {place = place} at new same =
    same_heads network.servers.items place new at.within
    (same ∙ ap head_of (at.slot_is ∙ ap (server_in network.servers.items) (sym at.same)))

-- the same of the link that leaves a server
pub record IsLinkAt (network : Network) (place link : ℕ) (queue : Queue) : Type 0 where
  pub inside : link < network.ring.servers
  pub same : place ≡ link
  pub within : place < length network.links.items
  pub queue_is : queue ≡ link_in network.links.items link

pub is_link_at : (network : Network) {place link : ℕ} {queue : Queue} → link < network.ring.servers → place ≡ link →
    queue ≡ get_or network.links.items place queue → IsLinkAt network place link queue
is_link_at network {place = place} {link = link} {queue = queue} inside same read =
    let within : place < length network.links.items = omega (arith, inside, network.each_link, same) in
    record {
      inside = inside;
      same = same;
      within = within;
      queue_is = read_link network.links.items place link queue same within read;
    }

pub link_stands_there : {network : Network} {place link : ℕ} {queue : Queue} → IsLinkAt network place link queue →
    (setting : Setting) (state : ChainState) → IsNetwork setting state network → IsLink setting state link queue
link_stands_there {link = link} at setting state is =
    subst (IsLink setting state link) (sym at.queue_is) (is.links_are link
    (subst (λ (n : ℕ). link < n) (ap (λ (ring : RingShape). ring.servers) is.ring) at.inside))

-- where a state counts as many as another, the counts that stand for the one stand for the other
pub same_counts : {setting : Setting} {state : ChainState} {entered done propagates : ℕ} (after : ChainState) →
    after.entered ≡ state.entered → after.lines ≡ state.lines → after.propagates ≡ state.propagates →
    AreCounts setting state entered done propagates → AreCounts setting after entered done propagates
same_counts after as_many_entered same_lines as_many_begun are = record {
  entered_is = are.entered_is ∙ sym as_many_entered;
  lines = same_lines ∙ are.lines;
  propagates_is = are.propagates_is ∙ sym as_many_begun;
}

-- the same visits may stand in place of the visits
pub with_visits : {setting : Setting} {state : ChainState} (parts : NetworkParts) {visits : List MadeVisit} →
    visits ≡ parts.visits → AreParts setting state parts → AreParts setting state (record parts { visits = visits })
with_visits {setting = setting} {state = state} parts same are = record {
  ring = are.ring;
  partitions = are.partitions;
  servers_are = are.servers_are;
  links_are = are.links_are;
  counts = are.counts;
  visits = subst (AreMade setting state) (sym same) are.visits;
}

-- where an event has a part in that server alone, and in no link, and the server stands for what is there after it, so
-- does the network
module _ (servers_stay : (setting : Setting) (state : ChainState) (event : Event) (number : ℕ)
    (slot : Option Server) → IsRunState setting state → IsLegal setting state event →
    IsBesideServer setting state event number →
    IsSlot setting state number slot → IsSlot setting (next setting state event) number slot)
    (links_stay : (setting : Setting) (state : ChainState) (event : Event) (link : ℕ) (queue : Queue) →
    IsRunState setting state → IsLegal setting state event → IsBesideLink setting state event link →
    IsLink setting state link queue → IsLink setting (next setting state event) link queue) where
  pub follows_there : {network : Network} {place server : ℕ} {slot : Option Server} → IsAt network place server slot →
      (new : Option Server) (setting : Setting) (state : ChainState) (event : Event) →
      ((other : ℕ) → other ≢ server → IsBesideServer setting state event other) →
      ((link : ℕ) → IsBesideLink setting state event link) → IsRunState setting state →
      IsLegal setting state event → IsNetwork setting state network →
      IsSlot setting (next setting state event) server new → (entered done propagates : ℕ) →
      AreCounts setting (next setting state event) entered done propagates → (visits : List MadeVisit) →
      AreMade setting (next setting state event) visits →
      AreParts setting (next setting state event) (record (parts_of network) {
        servers = slice_set network.servers.items place new;
        entered = entered;
        done = done;
        propagates = propagates;
        visits = visits;
      })
  follows_there {network = network} {place = place} at new setting state event beside aside run legal is here entered
      done propagates counts visits made = record {
        ring = is.ring;
        partitions = is.partitions;
        servers_are = server_set (IsSlot setting (next setting state event)) (servers setting) network.servers.items
            place new at.within
            (subst (λ (n : ℕ). IsSlot setting (next setting state event) n new) (sym at.same) here)
            (λ other below differs. servers_stay setting state event other (server_in network.servers.items other) run
            legal (beside other (λ same. differs (same ∙ sym at.same))) (is.servers_are other below));
        links_are = λ link below. links_stay setting state event link (link_in network.links.items link) run legal
            (aside link) (is.links_are link below);
        counts = counts;
        visits = made;
      }
