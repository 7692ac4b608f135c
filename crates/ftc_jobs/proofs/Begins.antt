-- The test of whether a message may begin without a packet says that it may.
use Rattle.std.proofs.Common.{◌≡◌, ◌∙◌, ◌<◌, ◌-◌, ◌+◌, ◌&&◌, ◌==◌, ℕ, true, false, not, [], Option, Some, None, length}
use Rattle.std.proofs.Common.{refl, sym, ap, subst, inl, inr, arith}
use Rattle.std.specs.Prelude.{is_some, nat_lt}
use Rattle.std.proofs.lemmas.Bool.{and_from, and_parts, not-true, or_cases, or_left, or_right}
use Rattle.ftc_base.proofs.EachOf.{all_tests, tests_all}
use Rattle.ftc_link.specs.Queue.{Queue}
use Rattle.ftc_protocol.specs.Setting.{Setting, servers, count}
use Rattle.ftc_protocol.specs.State.{ChainState}
use Rattle.ftc_server.specs.declared.held.HeldMessage.{HeldMessage}
use Rattle.ftc_server.specs.declared.server.Server.{Server}
use Rattle.ftc_refinement.specs.Slots.{AreRepresented, AreStalled, IsServerSlot, IsToPropagate}
use Rattle.ftc_network.specs.declared.network.Network.{Network}
use Rattle.ftc_network.specs.Parts.{buffer_of, link_in, server_in, withheld_in}
use Rattle.ftc_network.specs.Stand.{IsSlot}
use Rattle.ftc_jobs.specs.Quiet.{all_clear, all_up, came_by_ring, has_forwarded, holds_nothing, is_clear, is_wanted}
use Rattle.ftc_jobs.specs.Quiet.{may_begin, none_held}
use Rattle.ftc_jobs.specs.Rest.{IsResting}
use Rattle.ftc_jobs.proofs.Sizes.{size_of}
use Rattle.ftc_jobs.proofs.TwoParts.{all_of, each_of, length_none, length_some, none_in, some_in}

-- ---- one server

slot_stands : (setting : Setting) (state : ChainState) (number : ℕ) (slot : Option Server) →
    IsSlot setting state number slot → IsServerSlot setting state number slot
slot_stands setting state number None down = down
slot_stands setting state number (Some server) is = (is.up, is.at)

there : (slot : Option Server) → is_some slot ≡ true → (server : Server) × (slot ≡ Some server)
there None is = absurd cc
there (Some server) is = (server, refl)

up_there : (slot : Option Server) → (server : Server) × (slot ≡ Some server) → is_some slot ≡ true
up_there None is = absurd (let same = is.1 in cc)
up_there (Some server) is = refl

by_ring_there : (slot : Option Server) → came_by_ring slot ≡ true → (server : Server) × (slot ≡ Some server)
by_ring_there None is = absurd cc
by_ring_there (Some server) is = (server, refl)

nothing_held : (slot : Option Server) (server : Server) → slot ≡ Some server → holds_nothing slot ≡ true →
    server.held.items ≡ []
nothing_held slot server same is =
    none_in server.held.items (subst (λ (s : Option Server). holds_nothing s ≡ true) same is)

holds_none : (slot : Option Server) → ((server : Server) → slot ≡ Some server → server.held.items ≡ []) →
    holds_nothing slot ≡ true
holds_none None none = refl
holds_none (Some server) none = length_none server.held.items (none server refl)

withholds : (slot : Option Server) → nat_lt 0 (length (buffer_of slot)) ≡ true →
    (server : Server) × (slot ≡ Some server) × (server.buffer.items ≡ [] → ⊥)
withholds None is = absurd cc
withholds (Some server) is = (server, refl, some_in server.buffer.items is)

-- ---- the network

module _ (setting : Setting) (state : ChainState) (network : Network) (rest : IsResting setting state network) where
  abbrev slots : ℕ → Option Server
  slots number = server_in network.servers.items number

  abbrev queues : ℕ → Queue
  queues link = link_in network.links.items link

  pub slots_stand : AreRepresented setting state slots queues
  slots_stand = record {
    servers_are = λ number below. slot_stands setting state number (slots number)
        (rest.stands.servers_are number below);
    links_are = rest.stands.links_are;
  }

  within : (number : ℕ) → number < servers setting → number < length network.servers.items
  within number below =
      let size = size_of setting state network rest in omega (arith, size, network.each_server, below)

  within_links : (link : ℕ) → link < servers setting → link < length network.links.items
  within_links link below =
      let size = size_of setting state network rest in omega (arith, size, network.each_link, below)

  outside : (number : ℕ) → number < length network.servers.items → number < servers setting
  outside number below =
      let size = size_of setting state network rest in omega (arith, size, network.each_server, below)

  outside_links : (link : ℕ) → link < length network.links.items → link < servers setting
  outside_links link below =
      let size = size_of setting state network rest in omega (arith, size, network.each_link, below)

  last_is : network.ring.servers - 1 ≡ servers setting - 1
  last_is = ap (λ (n : ℕ). n - 1) (size_of setting state network rest)

  stalled : nat_lt 0 (withheld_in network) ≡ true → none_held network ≡ true → all_clear network ≡ true →
      AreStalled setting slots queues
  stalled some held clear =
      let last = withholds (slots (network.ring.servers - 1)) some in
      let is_clear_at : (link : ℕ) → link < servers setting → is_clear (queues link) ≡ true = λ link below.
      each_of is_clear network.links.items (record { from = 0; messages = []; gap = false }) clear link
      (within_links link below) in
      record {
        none_held = λ number server below same. nothing_held (slots number) server same
            (each_of holds_nothing network.servers.items None held number (within number below));
        none_queued = λ link below. none_in (queues link).messages
            (and_parts (length (queues link).messages == 0) (not (queues link).gap) (is_clear_at link below)).0;
        no_gap = λ link below. not-true (queues link).gap
            (and_parts (length (queues link).messages == 0) (not (queues link).gap) (is_clear_at link below)).1;
        last = last.0;
        last_is = ap slots (sym last_is) ∙ last.1;
        withheld = last.2;
      }

  pub may_be : (origin : ℕ) → state.entered ≡ count setting → origin ≡ count setting + state.propagates →
      may_begin network ≡ true → IsToPropagate setting state slots queues origin
  may_be origin entered origin_is begins =
      let parts = and_parts (came_by_ring (slots 0)) (all_up network && is_wanted network) begins in
      let others = and_parts (all_up network) (is_wanted network) parts.1 in
      let first = by_ring_there (slots 0) parts.0 in
      record {
        entered = entered;
        up = λ number below. there (slots number)
            (each_of (λ (slot : Option Server). is_some slot) network.servers.items None others.0 number
            (within number below));
        first = first.0;
        first_is = first.1;
        by_ring = tests_all (λ (held : HeldMessage). held.by_ring) first.0.held.items
            (subst (λ (slot : Option Server). came_by_ring slot ≡ true) first.1 parts.0);
        some = elim (or_cases (has_forwarded (slots 0))
            (nat_lt 0 (withheld_in network) && (none_held network && all_clear network)) others.1) [
              | inl forwarded ↦ inl (some_in first.0.forwarder
                  (subst (λ (slot : Option Server). has_forwarded slot ≡ true) first.1 forwarded))
              | inr still ↦
                  let withheld = and_parts (nat_lt 0 (withheld_in network))
                  (none_held network && all_clear network) still in
                  let quiet = and_parts (none_held network) (all_clear network) withheld.1 in
                  inr (stalled withheld.0 quiet.0 quiet.1)
            ];
        origin_is = origin_is;
      }

  pub must_be : (origin : ℕ) → IsToPropagate setting state slots queues origin → may_begin network ≡ true
  must_be origin is =
      and_from (came_by_ring (slots 0)) (all_up network && is_wanted network)
      (subst (λ (slot : Option Server). came_by_ring slot ≡ true) (sym is.first_is)
      (all_tests (λ (held : HeldMessage). held.by_ring) is.first.held.items is.by_ring))
      (and_from (all_up network) (is_wanted network)
      (all_of (λ (slot : Option Server). is_some slot) network.servers.items None
      (λ number below. up_there (slots number) (is.up number (outside number below))))
      (elim is.some [
        | inl forwarded ↦ or_left (has_forwarded (slots 0))
            (nat_lt 0 (withheld_in network) && (none_held network && all_clear network))
            (subst (λ (slot : Option Server). has_forwarded slot ≡ true) (sym is.first_is)
            (length_some is.first.forwarder forwarded))
        | inr still ↦ or_right (has_forwarded (slots 0))
            (nat_lt 0 (withheld_in network) && (none_held network && all_clear network))
            (and_from (nat_lt 0 (withheld_in network)) (none_held network && all_clear network)
            (subst (λ (n : ℕ). nat_lt 0 (length (buffer_of (slots n))) ≡ true) (sym last_is)
            (subst (λ (slot : Option Server). nat_lt 0 (length (buffer_of slot)) ≡ true) (sym still.last_is)
            (length_some still.last.buffer.items still.withheld)))
            (and_from (none_held network) (all_clear network)
            (all_of holds_nothing network.servers.items None
            (λ number below. holds_none (slots number) (λ server same.
            still.none_held number server (outside number below) same)))
            (all_of is_clear network.links.items (record { from = 0; messages = []; gap = false })
            (λ link below. and_from (length (queues link).messages == 0) (not (queues link).gap)
            (length_none (queues link).messages (still.none_queued link (outside_links link below)))
            (ap not (still.no_gap link (outside_links link below)))))))
      ]))
