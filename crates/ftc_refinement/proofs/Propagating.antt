-- When a message may begin without a packet, by what the servers and links have.
use Rattle.std.proofs.Common.{◌≡◌, ◌≢◌, ◌∙◌, ◌<◌, ◌≤◌, ◌+◌, ◌-◌, ◌==◌, ◌∷◌, ℕ, Bool, true, false, List, [], Option}
use Rattle.std.proofs.Common.{Some, None, refl, sym, ap, subst, cond, arith, inl, inr, eq-eqb}
use Rattle.std.specs.List.{AllByRecursion}
use Rattle.std.proofs.lemmas.Bool.{true≢false}
use Rattle.std.proofs.lemmas.Option.{none-some}
use Rattle.ftc_edge.specs.declared.buffer.Withheld.{Withheld as WithheldPacket}
use Rattle.ftc_journal.specs.declared.event.Event.TheVariants as event
use Rattle.ftc_link.specs.Queue.{Queue}
use Rattle.ftc_message.specs.Logged.{Logged}
use Rattle.ftc_protocol.specs.Setting.{Setting, servers}
use Rattle.ftc_protocol.specs.State.{ChainState, Message, Where, Held, Queued}
use Rattle.ftc_protocol.specs.Visits.{In}
use Rattle.ftc_protocol.specs.Legal.{MayHappen, IsStalled}
use Rattle.ftc_protocol.specs.Orderly.{IsOrderly, aim}
use Rattle.ftc_ties.specs.Messages.{AreLogsOf, names_log}
use Rattle.ftc_server.specs.declared.held.HeldMessage.{HeldMessage}
use Rattle.ftc_server.specs.declared.server.Server.{Server}
use Rattle.ftc_server.specs.Holding.{found}
use Rattle.ftc_standing.specs.Arrivals.{AreArrived}
use Rattle.ftc_standing.specs.View.{withheld_at}
use Rattle.ftc_standing.specs.Stand.{IsWithheldAs, time_of, packet_of}
use Rattle.ftc_standing.proofs.Arriving.{none_there, there_here}
use Rattle.ftc_standing.proofs.Lasting.{of_last}
use Rattle.ftc_refinement.specs.Contents.{IsServerAt}
use Rattle.ftc_refinement.specs.Slots.{IsServerSlot, AreRepresented, AreStalled, IsToPropagate}
use Rattle.ftc_refinement.proofs.HeldInTurn.{there_in_state}
use Rattle.ftc_refinement.proofs.InTurn.{all_placed}
use Rattle.ftc_refinement.proofs.Messages.{found_as, found_is}
use Rattle.ftc_refinement.proofs.QueuedMessages.{on_link, none_on_link, none_queued}
use Rattle.ftc_refinement.proofs.Ring.{each_named}
use Rattle.ftc_refinement.proofs.Works.{same_flags}

-- ---- one server

module _ (setting : Setting) (state : ChainState) (number : ℕ) (server : Server)
    (at : IsServerAt setting state number server) where
  -- what is held there came by the ring link, where no message is there that didn't
  pub each_by_ring : ((origin : ℕ) (message : Message) → state.message origin ≡ Some message → (visited : Bool) →
      message.place ≢ Held number visited false) →
      AllByRecursion (λ (held : HeldMessage). held.by_ring ≡ true) server.held.items
  each_by_ring never = all_placed (λ (held : HeldMessage). held.by_ring ≡ true) [] server.held.items
      (λ before held after parts.
      let its = there_in_state setting state number server.held.items at.stands.held before held after parts in
      came held.message.origin its.0 held.visited held.by_ring its.1 its.2)
    where
      came : (origin : ℕ) (message : Message) (visited by_ring : Bool) → state.message origin ≡ Some message →
          message.place ≡ Held number visited by_ring → by_ring ≡ true
      came origin message visited true there place = refl
      came origin message visited false there place = absurd (never origin message there visited place)

  pub none_beside_ring : AllByRecursion (λ (held : HeldMessage). held.by_ring ≡ true) server.held.items →
      (origin : ℕ) (message : Message) → state.message origin ≡ Some message → (visited : Bool) →
      message.place ≢ Held number visited false
  none_beside_ring all origin message there visited place =
      let it = found_as setting state number origin message visited false server.held.items there place at.stands.held
      in
      let flags = same_flags number it.held.visited it.held.by_ring visited false (sym it.stands.place ∙ place) in
      true≢false (sym (found_is (λ (held : HeldMessage). held.by_ring ≡ true)
      (λ (held : HeldMessage). held.message.origin == origin) server.held.items it.held all it.there).0 ∙ flags.1)

  pub none_held_there : ((origin : ℕ) → state.message origin ≡ None) → server.held.items ≡ []
  none_held_there none = empty server.held.items refl
    where
      empty : (items : List HeldMessage) → server.held.items ≡ items → items ≡ []
      empty [] parts = refl
      empty (held ∷ rest) parts =
          let its = there_in_state setting state number server.held.items at.stands.held [] held rest parts in
          absurd (none-some its.0 (sym (none held.message.origin) ∙ its.1))

  -- the buffer of the last server
  at_last : number + 1 ≡ servers setting → (packet : ℕ) →
      withheld_at setting state number packet ≡ state.withheld packet
  at_last last packet = ap (λ b. cond b (state.withheld packet) None) (eq-eqb (number + 1) (servers setting) last)

  pub some_kept : number + 1 ≡ servers setting → (packet : ℕ) → state.withheld packet ≢ None → server.buffer.items ≢ []
  some_kept last packet some empty = some (sym (at_last last packet)
      ∙ none_there time_of packet_of (IsWithheldAs setting state) (withheld_at setting state number) packet
      (subst (AreArrived time_of packet_of (IsWithheldAs setting state) (withheld_at setting state number)) empty
      at.stands.withheld))

  pub some_withheld : server.buffer.items ≢ [] → (packet : ℕ) × (state.withheld packet ≢ None)
  some_withheld some = first server.buffer.items refl
    where
      first : (items : List WithheldPacket) → server.buffer.items ≡ items →
          (packet : ℕ) × (state.withheld packet ≢ None)
      first [] parts = absurd (some parts)
      first (kept ∷ rest) parts =
          let its = there_here time_of packet_of (IsWithheldAs setting state) (withheld_at setting state number) [] kept
          rest (subst (AreArrived time_of packet_of (IsWithheldAs setting state) (withheld_at setting state number))
          parts at.stands.withheld) in (
            kept.packet,
            λ none. none-some its.0 (sym none ∙ of_last (number + 1 == servers setting) (state.withheld kept.packet)
                its.0 its.1),
          )

-- a log of the forwarder is one of its visits, and the other way round
module _ (setting : Setting) (state : ChainState) (logs : List Logged)
    (are : AreLogsOf setting state state.forwarder logs)
  where
    pub some_logs : (group packet : ℕ) → In state.forwarder group packet → logs ≢ []
    some_logs group packet has empty =
        let named = subst (λ list. names_log list group packet ≡ true) empty
        (are.names group packet ∙ has) in true≢false (sym named)

    pub some_visit : logs ≢ [] → (group : ℕ) × (packet : ℕ) × In state.forwarder group packet
    some_visit some = first logs refl
      where
        first : (list : List Logged) → logs ≡ list → (group : ℕ) × (packet : ℕ) × In state.forwarder group packet
        first [] parts = absurd (some parts)
        first (log ∷ list) parts = (
          log.group,
          log.origin,
          sym (are.names log.group log.origin)
              ∙ (ap (λ list. names_log list log.group log.origin) parts
              ∙ (each_named (log ∷ list)).0),
        )

-- ---- the whole chain

module _ (setting : Setting) (state : ChainState) (slots : ℕ → Option Server) (queues : ℕ → Queue)
    (some : 1 ≤ servers setting) (order : IsOrderly setting state)
    (are : AreRepresented setting state slots queues) where
  slot_up : (number : ℕ) → number < servers setting → state.up number ≡ true →
      (server : Server) × (slots number ≡ Some server)
  slot_up number below up = by_slot (slots number) refl (are.servers_are number below)
    where
      by_slot : (o : Option Server) → slots number ≡ o → IsServerSlot setting state number o →
          (server : Server) × (slots number ≡ Some server)
      by_slot None is down = absurd (true≢false (sym up ∙ down))
      by_slot (Some server) is slot = (server, is)

  of_slot : (number : ℕ) (server : Server) → number < servers setting → slots number ≡ Some server →
      (state.up number ≡ true) × IsServerAt setting state number server
  of_slot number server below is = subst (IsServerSlot setting state number) is (are.servers_are number below)

  last_below : servers setting - 1 < servers setting
  last_below = omega (arith, some)

  last_is_last : (servers setting - 1) + 1 ≡ servers setting
  last_is_last = omega (arith, some)

  stalled_by : ((number : ℕ) → number < servers setting → state.up number ≡ true) → IsStalled setting state →
      AreStalled setting slots queues
  stalled_by up stalled =
      let last = slot_up (servers setting - 1) last_below (up (servers setting - 1) last_below) in
      record {
        none_held = λ number server below is.
            let at = of_slot number server below is in
            none_held_there setting state number server at.1 stalled.messages;
        none_queued = λ link below. none_queued setting state link (queues link)
            (are.links_are link below) stalled.messages;
        no_gap = λ link below. let link_is = are.links_are link below in link_is.gap ∙ stalled.gaps link below;
        last = last.0;
        last_is = last.1;
        withheld =
            let at = of_slot (servers setting - 1) last.0 last_below last.1 in
            some_kept setting state (servers setting - 1) last.0 at.1 last_is_last stalled.packet stalled.withheld;
      }

  pub propagates_by : (origin : ℕ) → MayHappen setting state (event.Propagate origin) →
      IsToPropagate setting state slots queues origin
  propagates_by origin may =
      let first = slot_up 0 some (may.1 0 some) in
      let at = of_slot 0 first.0 some first.1 in
      record {
        entered = may.0;
        up = λ number below. slot_up number below (may.1 number below);
        first = first.0;
        first_is = first.1;
        by_ring = each_by_ring setting state 0 first.0 at.1 may.2;
        some = elim may.3 [
          | inl carried ↦ inl (some_logs setting state first.0.forwarder at.1.stands.forwarded carried.0 carried.1
              carried.2)
          | inr stalled ↦ inr (stalled_by may.1 stalled)
        ];
        origin_is = may.4;
      }

  -- where no server holds a message and none is queued, there is none
  none_at : AreStalled setting slots queues →
      ((number : ℕ) → number < servers setting → (server : Server) × (slots number ≡ Some server)) → (origin : ℕ) →
      state.message origin ≡ None
  none_at stalled up origin = by_place (state.message origin) refl
    where
      nowhere : (message : Message) (place : Where) → state.message origin ≡ Some message → message.place ≡ place → ⊥
      nowhere message (Held server visited by_ring) there place =
          let below = order.inside server (subst (λ (w : Where). state.up (aim (servers setting) w) ≡ true) place
          (order.awake origin message there)) in
          let slot = up server below in
          let at = of_slot server slot.0 below slot.1 in
          let it = found_as setting state server origin message visited by_ring slot.0.held.items there place
          at.1.stands.held in
          none-some it.held (ap (found origin)
          (sym (stalled.none_held server slot.0 below slot.1)) ∙ it.there)
      nowhere message (Queued link) there place =
          let below = order.links origin link message there place in
          none-some message (sym (none_on_link setting state link (queues link) (are.links_are link below) origin
          (stalled.none_queued link below))
          ∙ on_link setting state link (queues link) (are.links_are link below) origin message there place)

      by_place : (o : Option Message) → state.message origin ≡ o → o ≡ None
      by_place None is = refl
      by_place (Some message) is = absurd (nowhere message message.place is refl)

  is_stalled : AreStalled setting slots queues →
      ((number : ℕ) → number < servers setting → (server : Server) × (slots number ≡ Some server)) →
      IsStalled setting state
  is_stalled stalled up =
      let at = of_slot (servers setting - 1) stalled.last last_below stalled.last_is in
      let kept = some_withheld setting state (servers setting - 1) stalled.last at.1 stalled.withheld in
      record {
        messages = none_at stalled up;
        gaps = λ link below. let link_is = are.links_are link below in sym link_is.gap ∙ stalled.no_gap link below;
        packet = kept.0;
        withheld = kept.1;
      }

  pub may_propagate : (origin : ℕ) → IsToPropagate setting state slots queues origin →
      MayHappen setting state (event.Propagate origin)
  may_propagate origin is =
      let at = of_slot 0 is.first some is.first_is in (
        is.entered,
        λ number below. let slot = is.up number below in
            let here = of_slot number slot.0 below slot.1 in here.0,
        none_beside_ring setting state 0 is.first at.1 is.by_ring,
        elim is.some [
          | inl carried ↦ inl (some_visit setting state is.first.forwarder at.1.stands.forwarded carried)
          | inr stalled ↦ inr (is_stalled stalled is.up)
        ],
        is.origin_is,
      )
