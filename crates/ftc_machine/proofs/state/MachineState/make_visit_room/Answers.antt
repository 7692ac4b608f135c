use Rattle.std.proofs.Common.{rules, ℕ, ◌≡◌, ◌<◌, ◌≤◌, ◌∙◌, length, List, [], Option, Some, refl, sym, ap, subst, arith}
use Rattle.std.proofs.Common.{slice_set, slice_index_or, get_or-set_same}
use Rattle.std.specs.Prelude.{slice_get}
use Rattle.std.proofs.lemmas.List.{get_or_read}
use Rattle.std.proofs.lemmas.Option.{same_Some}
use Rattle.ftc_base.specs.declared.limits.TheConstants.{MOST_WRITES}
use Rattle.ftc_serial.specs.Contents.{content_at}
use Rattle.ftc_serial.proofs.Places.{get_set_same}
use Rattle.ftc_store.specs.Store.{Stored}
use Rattle.ftc_machine.specs.declared.state.footprint.Footprint.{Footprint}
use Rattle.ftc_machine.specs.declared.state.MachineState.{MachineState}
use Rattle.ftc_machine.specs.declared.state.message.Message.{Message as MessageOfMachine}
use Rattle.ftc_machine.specs.declared.state.message.Withheld.{Withheld as WithheldOfMachine}
use Rattle.ftc_machine.specs.Represents.{RepresentsSame, footprints_in}
use Rattle.ftc_machine.specs.Slots.{slot_at}
use Rattle.ftc_machine.proofs.SameParts.{AreEqual, stands_still, footprints_alike, contents_alike, content_read}
use Rattle.ftc_machine.proofs.state.MachineState.make_visit_room.Goals as goal
use Rattle.ftc_machine.proofs.state.MachineState.make_visit_room.Goals.{After-make_room, After-reserve}

-- what stood for a state still does, where all of it is as it was
room_still : (k : MachineState) {new : MachineState} → AreEqual k new → new.messages ≡ k.messages →
    new.buffer ≡ k.buffer →
    ((server : ℕ) → content_at new.stores.items server ≡ content_at k.stores.items server) →
    ((server packet : ℕ) →
    footprints_in new.visits.items server packet ≡ footprints_in k.visits.items server packet) →
    ((packet : ℕ) → slot_at new.fates packet ≡ slot_at k.fates packet) → RepresentsSame k new
room_still k {new = new} others messages buffer stores visits fates = stands_still k new (record {
  others = others;
  stores = stores;
  visits = visits;
  messages = λ origin. ap (λ (slots : List (Option MessageOfMachine)). slot_at slots origin) messages;
  buffer = λ packet. ap (λ (slots : List (Option WithheldOfMachine)). slot_at slots packet) buffer;
  fates = fates;
})

-- the footprints, once the server's row has been given room
visits_still : (c : After-make_room) → (other packet : ℕ) →
    footprints_in (slice_set c.args.self.now.visits.items c.from-place.result c.make_room.new.self) other packet
    ≡ footprints_in c.args.self.now.visits.items other packet
visits_still c =
    let k = c.args.self.now in
    let place : c.from-place.result ≡ c.args.server = c.from-place.ensures ∙ c.number.ensures.same in
    let inside : c.from-place.result < length k.visits.items = omega (arith, place, c.requires, k.each_visits) in
    footprints_alike k.visits.items _ c.from-place.result c.make_room.new.self refl inside
    (λ packet. c.make_room.ensures.same packet ∙ ap (λ (found : List (Option Footprint)). slot_at found packet)
    (get_or_read k.visits.items c.from-place.result c.index_mut.result.now inside c.index_mut.ensures.value []))

-- the contents, once the server's store has been
stores_still : (c : After-reserve) → (other : ℕ) →
    content_at (slice_set c.args.self.now.stores.items c.from-place.result c.reserve.new.self) other
    ≡ content_at c.args.self.now.stores.items other
stores_still c =
    let k = c.args.self.now in
    let place : c.from-place.result ≡ c.args.server = c.from-place.ensures ∙ c.number.ensures.same in
    let inside : c.from-place.result < length k.stores.items = omega (arith, place, c.requires, k.each_store) in
    contents_alike k.stores.items _ c.from-place.result c.reserve.new.self refl inside (c.reserve.ensures.content
    ∙ content_read k.stores.items c.from-place.result c.index_mut-2.result.now inside c.index_mut-2.ensures.value)

pub returns-in_err-make_room-clause-still : goal.returns-in_err-make_room-clause-still
returns-in_err-make_room-clause-still c =
    let past = goal.at.returns-in_err-make_room-clause-still c in
    room_still _ (search rules) refl refl (λ server. refl) (visits_still past.After-make_room) (λ packet. refl)

pub returns-in_err-make_room-2-clause-still : goal.returns-in_err-make_room-2-clause-still
returns-in_err-make_room-2-clause-still c =
    let past = goal.at.returns-in_err-make_room-2-clause-still c in
    room_still _ (search rules) refl refl (λ server. refl) (visits_still past.After-make_room)
    c.make_room-2.ensures.same

pub returns-in_err-reserve-clause-still : goal.returns-in_err-reserve-clause-still
returns-in_err-reserve-clause-still c =
    let past = goal.at.returns-in_err-reserve-clause-still c in
    room_still _ (search rules) refl refl (stores_still past.After-reserve) (visits_still past.After-make_room)
    c.make_room-2.ensures.same

pub returns-clause-still : goal.returns-clause-still
returns-clause-still c =
    let past = goal.at.returns-clause-still c in
    room_still _ (search rules) refl refl (stores_still past.After-reserve) (visits_still past.After-make_room)
    c.make_room-2.ensures.same

pub returns-clause-room : goal.returns-clause-room
returns-clause-room c =
    let k = c.args.self.now in
    let rows : length k.visits.items ≡ k.ring.servers = k.each_visits in
    let places : length k.stores.items ≡ k.ring.servers = k.each_store in
    let within : c.args.server < k.ring.servers = c.requires in
    let place : c.from-place.result ≡ c.args.server = c.from-place.ensures ∙ c.number.ensures.same in
    record {
      visits = subst (λ p. c.args.packet < length
          (slice_index_or (slice_set k.visits.items c.from-place.result c.make_room.new.self) p [])) place
          (subst (λ (row : List (Option Footprint)). c.args.packet < length row)
          (sym (get_or-set_same k.visits.items c.from-place.result c.make_room.new.self []
          (omega arith))) c.in_ok-make_room.ensures.room);
      fates = c.in_ok-make_room-2.ensures.room;
      writes = λ stored there.
          let own : c.reserve.new.self ≡ stored =
          same_Some _ _ (sym (get_set_same k.stores.items c.from-place.result c.reserve.new.self
          (omega arith)) ∙ subst (λ p. slice_get (slice_set k.stores.items c.from-place.result c.reserve.new.self) p
          ≡ Some stored) (sym place) there) in
          subst (λ (s : Stored). MOST_WRITES ≤ s.spare) own c.in_ok-reserve.ensures.ok;
    }
