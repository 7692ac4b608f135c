use Rattle.std.proofs.Common.{◌≡◌, ◌∙◌, Bool, true, false, sym, ap}
use Rattle.std.proofs.Math.Logic.{∥∥₁_map}
use Rattle.ftc_protocol.specs.State.{Held}
use Rattle.ftc_refinement.proofs.Works.{held_in}
use Rattle.ftc_server.proofs.Slotting.{slot_ready as one_ready}
use Rattle.ftc_server.specs.Replicas.{is_ready}
use Rattle.ftc_server.specs.Slots.{is_ready_one}
use Rattle.ftc_network.proofs.laws.what_runs_may_be_visited.Goals as goal

pub returns : goal.returns
returns c setting state number worker server running run is none_due runs =
    ∥∥₁_map server.slots (λ slots.
    let slot = slots.each worker running runs in
    let held = slot.held in
    let there = held_in setting state number running.packet held server.held.items slot.there is.at.stands.held in
    let ready : is_ready server.others.items held ≡ true =
    ap (is_ready_one server.others.items) (sym slot.there)
    ∙ one_ready server.others.items server.held.items server.head.slots worker running is.ready.all runs in
    let place : there.message.place ≡ Held number false held.by_ring =
    there.stands.place ∙ ap (λ (visited : Bool). Held number visited held.by_ring) slot.unvisited in
    let message_ready = (c.what_is_ready.ensures setting state number running.packet held.visited held.by_ring
    there.message
    held server run is.at there.there there.stands.place slot.there).0 ready in (
      (
        there.message,
        slot.packet,
        held.by_ring,
        there.there,
        place,
        sym there.stands.as_sent.packet ∙ slot.with_packet,
        message_ready,
      ),
      λ other. none_due,
    ))
