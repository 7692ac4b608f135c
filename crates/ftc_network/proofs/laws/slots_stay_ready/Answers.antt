use Rattle.std.proofs.Common.{◌≡◌, ◌∙◌, ℕ, Bool, true, false, Some, sym, ap}
use Rattle.std.proofs.Math.Bool.{Bool-set}
use Rattle.std.proofs.Math.Logic.{∥∥₁_elim}
use Rattle.ftc_protocol.proofs.RunLists.{run_next}
use Rattle.ftc_protocol.specs.Next.{next}
use Rattle.ftc_protocol.specs.State.{Held}
use Rattle.ftc_refinement.proofs.Works.{held_in}
use Rattle.ftc_server.proofs.Slotting.{slot_ready as one_ready}
use Rattle.ftc_server.specs.Holding.{found}
use Rattle.ftc_server.specs.Replicas.{is_ready}
use Rattle.ftc_server.specs.Slots.{is_ready_one}
use Rattle.ftc_network.proofs.ReadySlots.{all_ready, not_visited, still_there}
use Rattle.ftc_network.proofs.laws.slots_stay_ready.Goals as goal

pub returns : goal.returns
returns c setting state event number old new run legal before after only ready =
    still_there old new only ready
    (∥∥₁_elim old.slots (Bool-set _ _) (λ old_slots. ∥∥₁_elim new.slots (Bool-set _ _) (λ new_slots.
    all_ready new.others.items new.held.items new.head.slots (λ worker running runs.
    let was = only worker running runs in
    let origin = was.0.packet in
    let old_slot = old_slots.each worker was.0 was.1 in
    let new_slot = new_slots.each worker running runs in
    let held = old_slot.held in
    let now = new_slot.held in
    let found_now : found origin new.held.items ≡ Some now =
    ap (λ (packet : ℕ). found packet new.held.items) (sym was.2) ∙ new_slot.there in
    let is_there = held_in setting state number origin held old.held.items old_slot.there before.stands.held in
    let is_now = held_in setting
    (next setting state event) number origin now new.held.items found_now after.stands.held in
    let place = is_there.stands.place in
    let place_now = is_now.stands.place in
    let ready_old : is_ready old.others.items held ≡ true =
    ap (is_ready_one old.others.items) (sym old_slot.there)
    ∙ one_ready old.others.items old.held.items old.head.slots worker was.0 ready.all was.1 in
    let message_ready = (c.what_is_ready.ensures setting state number origin held.visited held.by_ring is_there.message
    held
    old run before is_there.there place old_slot.there).0 ready_old in
    let unvisited : is_now.message.place ≡ Held number false now.by_ring =
    place_now ∙ ap (λ (visited : Bool). Held number visited now.by_ring) new_slot.unvisited in
    let still = c.ready_messages_stay.ensures setting state event number origin held.visited held.by_ring now.visited
    now.by_ring is_there.message is_now.message run legal
    (not_visited setting state number origin held.visited held.by_ring now.by_ring is_there.message is_now.message
    is_there.there place unvisited event is_now.there) is_there.there place message_ready is_now.there place_now in
    ap (is_ready_one new.others.items) new_slot.there
    ∙ (c.what_is_ready.ensures setting
    (next setting state event) number origin now.visited now.by_ring is_now.message now
    new (run_next setting state event run legal) after is_now.there place_now found_now).1 still))))
