-- Tests of events that have to do with a message say when the event may happen.
use Rattle.std.proofs.Common.{◌≡◌, ℕ, ◌<◌, ◌≤◌, ◌+◌, ◌==◌, ◌&&◌, ◌||◌, nat_lt, not, Bool, true, false, List, Option}
use Rattle.std.proofs.Common.{Some, None, is_some, is_none, inl, inr, refl, sym, ap, subst, ◌∙◌, ◌↔◌, ◌⊎◌, arith}
use Rattle.std.proofs.Common.{eqb-true, eq-eqb, lt-ltb}
use Rattle.std.specs.List.{list_all, list_any}
use Rattle.std.proofs.lemmas.Bool.{true≢false, and_parts, and_from, or_cases, or_left, or_right, cases_Bool, cases_lt}
use Rattle.std.proofs.lemmas.Bool.{ltb-true}
use Rattle.ftc_base.proofs.Bools.{not_from_never, not_both}
use Rattle.ftc_vector.specs.Commits.{vector_of}
use Rattle.ftc_journal.specs.declared.event.Event.TheVariants.{Take, Apply, Visit, Pass, Lose, Carry}
use Rattle.ftc_script.specs.Script.{ScriptShape, loses_of}
use Rattle.ftc_serial.specs.Serial.{Entry}
use Rattle.ftc_serial.specs.Trace.{names}
use Rattle.ftc_machine.specs.declared.state.MachineState.{MachineState}
use Rattle.ftc_machine.specs.declared.state.message.Message.{Message as MessageOfMachine}
use Rattle.ftc_machine.specs.declared.state.message.Place.{Place}
use Rattle.ftc_machine.specs.declared.state.message.Place.TheVariants as place
use Rattle.ftc_protocol.specs.Setting.{Setting, servers, IsSetting}
use Rattle.ftc_protocol.specs.Visits.{Visits, In}
use Rattle.ftc_protocol.specs.Trace.{IsTouching}
use Rattle.ftc_protocol.specs.State.{ChainState, Message, Where, Held, Queued}
use Rattle.ftc_protocol.specs.Known.{IsReady}
use Rattle.ftc_protocol.specs.Legal.{MayHappen, MayLeave, is_sent}
use Rattle.ftc_machine.specs.Slots.{slot_at, has_such}
use Rattle.ftc_machine.specs.Frontier.{Numbers, numbers_of, has_changed, contains, follows}
use Rattle.ftc_machine.specs.Represents.{Represents, IsMessage, IsPlace, AreInputs}
use Rattle.ftc_machine.specs.LegalityTests.{footprints_of, list_of, has_named, is_held, is_unvisited, may_go}
use Rattle.ftc_machine.specs.LegalityTests.{came_by_ring, is_queued, is_ready, is_older, may_take, may_add, is_in_turn}
use Rattle.ftc_machine.specs.LegalityTests.{carries, may_apply, may_visit, may_leave, sends, may_pass, may_lose}
use Rattle.ftc_machine.specs.LegalityTests.{may_carry}
use Rattle.ftc_machine.specs.Lawful.{IsLawful}
use Rattle.ftc_protocol.specs.Orderly.{aim}
use Rattle.ftc_protocol.proofs.TraceLemmas.{stands_map}
use Rattle.ftc_machine.proofs.FootprintTests.{changed_changing, contains_in, follows_all}
use Rattle.ftc_machine.proofs.SlotTests.{such_item, item_such, any_item, item_any, name_of, each_name, all_names}
use Rattle.ftc_machine.proofs.RepresentedMessages.{kept_message, said_message, footprint_there, named_has, ready_tests}

-- ---- where a message is

module _ (partitions : ℕ) (trace : List Entry) (numbers : Numbers) (known : Visits) where
  pub queued_said : (said : Where) (kept : Place) (link : ℕ) → IsPlace partitions trace numbers known said kept →
      is_queued link kept ≡ true → said ≡ Queued link
  queued_said (Held a b d) (place.Held e f g) link is test = absurd (true≢false (sym test))
  queued_said (Held a b d) (place.Queued e reach) link is test = absurd is
  queued_said (Queued a) (place.Held e f g) link is test = absurd is
  queued_said (Queued a) (place.Queued e reach) link is test = ap Queued (sym is.0 ∙ eqb-true e link test)

  pub queued_kept : (said : Where) (kept : Place) (link : ℕ) → IsPlace partitions trace numbers known said kept →
      said ≡ Queued link → is_queued link kept ≡ true
  queued_kept (Held a b d) kept link is test = absurd (cc)
  queued_kept (Queued a) (place.Held e f g) link is test = absurd is
  queued_kept (Queued a) (place.Queued e reach) link is test = eq-eqb e link (is.0 ∙ (let same : a ≡ link = cc in same))

  pub held_said : (said : Where) (kept : Place) (server : ℕ) → IsPlace partitions trace numbers known said kept →
      is_held server kept ≡ true → (visited : Bool) × (by_ring : Bool) × (said ≡ Held server visited by_ring)
  held_said (Held a b d) (place.Held e f g) server is test =
      (b, d, ap (λ x. Held x b d) (sym is.0 ∙ eqb-true e server test))
  held_said (Held a b d) (place.Queued e reach) server is test = absurd is
  held_said (Queued a) (place.Held e f g) server is test = absurd is
  held_said (Queued a) (place.Queued e reach) server is test = absurd (true≢false (sym test))

  pub held_kept : (said : Where) (kept : Place) (server : ℕ) (visited by_ring : Bool) →
      IsPlace partitions trace numbers known said kept → said ≡ Held server visited by_ring
      → (other : ℕ) × (flag by : Bool) × (kept ≡ place.Held other flag by) × (other ≡ server) × (flag ≡ visited)
      × (by ≡ by_ring)
  held_kept (Held a b d) (place.Held e f g) server visited by_ring is same = (
    e,
    f,
    g,
    refl,
    is.0 ∙ (let x : a ≡ server = cc in x),
    is.1 ∙ (let x : b ≡ visited = cc in x),
    is.2 ∙ (let x : d ≡ by_ring = cc in x),
  )
  held_kept (Held a b d) (place.Queued e reach) server visited by_ring is same = absurd is
  held_kept (Queued a) kept server visited by_ring is same = absurd (cc)

  pub unvisited_said : (said : Where) (kept : Place) (server : ℕ) → IsPlace partitions trace numbers known said kept →
      is_unvisited server kept ≡ true → (by_ring : Bool) × (said ≡ Held server false by_ring)
  unvisited_said (Held a b d) (place.Held e f g) server is test =
      let both = and_parts (e == server) (not f) test in
      let at : a ≡ server = sym is.0 ∙ eqb-true e server both.0 in
      (d, ap (λ x. Held x b d) at ∙ ap (λ x. Held server x d) (unvisited b f is.1 both.1))
    where
      unvisited : (b f : Bool) → f ≡ b → not f ≡ true → b ≡ false
      unvisited true true same isnt = absurd (true≢false (sym isnt))
      unvisited true false same isnt = absurd (true≢false (sym same))
      unvisited false f same isnt = refl
  unvisited_said (Held a b d) (place.Queued e reach) server is test = absurd is
  unvisited_said (Queued a) (place.Held e f g) server is test = absurd is
  unvisited_said (Queued a) (place.Queued e reach) server is test = absurd (true≢false (sym test))

  pub going_said : (said : Where) (kept : Place) (server : ℕ) (bare : Bool) →
      IsPlace partitions trace numbers known said kept → may_go server bare kept ≡ true
      → (visited : Bool) × (said ≡ Held server visited false) × ((visited ≡ true) ⊎ (bare ≡ true))
  going_said (Held a b d) (place.Held e f g) server bare is test =
      let outer = and_parts (e == server && not g) (f || bare) test in
      let inner = and_parts (e == server) (not g) outer.0 in
      let at : a ≡ server = sym is.0 ∙ eqb-true e server inner.0 in (
        b,
        ap (λ x. Held x b d) at ∙ ap (λ x. Held server b x) (off d g is.2 inner.1),
        elim (or_cases f bare outer.1) [ inl y ↦ inl (sym is.1 ∙ y) | inr y ↦ inr y ],
      )
    where
      off : (b f : Bool) → f ≡ b → not f ≡ true → b ≡ false
      off true true same isnt = absurd (true≢false (sym isnt))
      off true false same isnt = absurd (true≢false (sym same))
      off false f same isnt = refl
  going_said (Held a b d) (place.Queued e reach) server bare is test = absurd is
  going_said (Queued a) (place.Held e f g) server bare is test = absurd is
  going_said (Queued a) (place.Queued e reach) server bare is test = absurd (true≢false (sym test))

  pub ringed_said : (said : Where) (kept : Place) → IsPlace partitions trace numbers known said kept →
      came_by_ring kept ≡ true → (visited : Bool) × (said ≡ Held 0 visited true)
  ringed_said (Held a b d) (place.Held e f g) is test =
      let both = and_parts (e == 0) g test in
      let at : a ≡ 0 = sym is.0 ∙ eqb-true e 0 both.0 in
      (b, ap (λ x. Held x b d) at ∙ ap (λ x. Held 0 b x) (sym is.2 ∙ both.1))
  ringed_said (Held a b d) (place.Queued e reach) is test = absurd is
  ringed_said (Queued a) (place.Held e f g) is test = absurd is
  ringed_said (Queued a) (place.Queued e reach) is test = absurd (true≢false (sym test))

-- a packet is there, or none is
some_bytes : (packet : Option (List ℕ)) → is_some packet ≡ true → (bytes : List ℕ) × (packet ≡ Some bytes)
some_bytes None is = absurd (true≢false (sym is))
some_bytes (Some bytes) is = (bytes, refl)

none_bytes : (packet : Option (List ℕ)) → is_none packet ≡ true → packet ≡ None
none_bytes None is = refl
none_bytes (Some bytes) is = absurd (true≢false (sym is))

module _ (c : Setting) (is : IsSetting c) (s : ChainState) (r : IsLawful c s) (k : MachineState)
    (h : Represents c s k) where
  abbrev pub Numbered : Numbers
  Numbered = numbers_of (footprints_of k)

  up_below : (server : ℕ) → s.up server ≡ true → server < servers c
  up_below server up = r.order.inside server up

  held_below : (origin : ℕ) (message : Message) (server : ℕ) (visited by_ring : Bool) →
      s.message origin ≡ Some message → message.place ≡ Held server visited by_ring → server < servers c
  held_below origin message server visited by_ring there at =
      up_below server (subst (λ w. s.up (aim (servers c) w) ≡ true) at (r.order.awake origin message there))

  pub apply_below : (server origin group packet : ℕ) → MayHappen c s (Apply server origin group packet) →
      server < servers c
  apply_below server origin group packet may = held_below origin may.0 server may.1.1 may.1.2 may.1.0 may.1.3

  pub take_below : (link origin : ℕ) → MayHappen c s (Take link origin) → link < servers c
  take_below link origin may = r.order.links origin link may.0 may.1 may.2

  pub visit_below : (server packet worker : ℕ) → MayHappen c s (Visit server packet worker) → server < servers c
  visit_below server packet worker may = held_below packet may.0 server false may.2 may.3 may.4

  pub leave_below : (server origin : ℕ) (message : Message) → MayLeave c s server origin message → server < servers c
  leave_below server origin message may = held_below origin message server may.visited false may.there may.held

  touching : (origin : ℕ) (message : Message) → s.message origin ≡ Some message → (group packet : ℕ) →
      In message.logs group packet → IsTouching s.trace group packet
  touching origin message there group packet log = r.sound.logs origin group packet message there log

  ready_is : (server : ℕ) → server < servers c → (origin : ℕ) (message : Message) → s.message origin ≡ Some message →
      (kept : MessageOfMachine) → IsMessage c.partitions s.trace Numbered message kept
      → (is_ready k server kept ≡ true) ↔ IsReady c s server message
  ready_is server below origin message there kept same =
      ready_tests c s k h server below message kept same (touching origin message there)

  -- ---- take

  pub right_take : (link origin : ℕ) → (may_take k link origin ≡ true) ↔ MayHappen c s (Take link origin)
  right_take link origin = (
    λ test.
        let found = such_item (λ (m : MessageOfMachine). is_queued link m.place
        && not (list_any (has_such (is_older link m.since)) k.messages)) (slot_at k.messages origin) test in
        let kept = found.0 in
        let both = and_parts (is_queued link kept.place)
        (not (list_any (has_such (is_older link kept.since)) k.messages)) found.2 in
        let said = said_message c s k h origin kept found.1 in
        let message = said.0 in (
          message,
          said.1,
          queued_said c.partitions s.trace Numbered message.known message.place kept.place link said.2.place both.0,
          λ other queued there at.
              let one = kept_message c s k h other queued there in
              elim (cases_lt queued.since message.since) [
                | inr more ↦ more
                | inl less ↦
                    let early : one.0.since < kept.since = let a = one.2.since in let b = said.2.since in omega arith in
                    absurd (not_both (list_any (has_such (is_older link kept.since)) k.messages) both.1
                    (item_any (is_older link kept.since) k.messages other one.0 one.1
                    (and_from (is_queued link one.0.place) (nat_lt one.0.since kept.since)
                    (queued_kept c.partitions s.trace Numbered queued.known queued.place one.0.place link one.2.place
                    at) (lt-ltb one.0.since kept.since early))))
              ],
        ),
    λ may.
        let message = may.0 in
        let one = kept_message c s k h origin message may.1 in
        item_such (λ (m : MessageOfMachine). is_queued link m.place
        && not (list_any (has_such (is_older link m.since)) k.messages)) (slot_at k.messages origin) one.0 one.1
        (and_from (is_queued link one.0.place) (not (list_any (has_such (is_older link one.0.since)) k.messages))
        (queued_kept c.partitions s.trace Numbered message.known message.place one.0.place link one.2.place may.2)
        (not_from_never (list_any (has_such (is_older link one.0.since)) k.messages) (λ any.
        let found = any_item (is_older link one.0.since) k.messages any in
        let both = and_parts (is_queued link found.1.place) (nat_lt found.1.since one.0.since) found.3 in
        let said = said_message c s k h found.0 found.1 found.2 in
        let least : message.since ≤ said.0.since =
        may.3 found.0 said.0 said.1
        (queued_said c.partitions s.trace Numbered said.0.known said.0.place found.1.place link said.2.place both.0)
        in
        let less : found.1.since < one.0.since = ltb-true found.1.since one.0.since both.1 in
        let a = one.2.since in let b = said.2.since in omega arith))),
  )

  -- ---- apply

  abbrev carries_test : (server group packet : ℕ) → MessageOfMachine → Bool
  carries_test server group packet m =
      is_held server m.place && names m.logs group packet && list_all (is_in_turn k server group packet) m.logs

  pub right_apply : (server : ℕ) → server < servers c → (origin group packet : ℕ) →
      (may_apply k server origin group packet ≡ true) ↔ MayHappen c s (Apply server origin group packet)
  right_apply server below origin group packet = (
    λ test.
        let halves = and_parts (carries k server origin group packet)
        (has_such (may_add (vector_of (list_of k server) group)) (footprints_of k group packet)) test in
        let found = such_item (carries_test server group packet) (slot_at k.messages origin) halves.0 in
        let kept = found.0 in
        let outer = and_parts (is_held server kept.place
        && names kept.logs group packet) (list_all (is_in_turn k server group packet) kept.logs) found.2 in
        let inner = and_parts (is_held server kept.place) (names kept.logs group packet) outer.0 in
        let said = said_message c s k h origin kept found.1 in
        let message = said.0 in
        let at = held_said c.partitions s.trace Numbered message.known message.place kept.place server said.2.place
        inner.0 in
        let log : In message.logs group packet = sym (said.2.logs group packet) ∙ inner.1 in
        let there = touching origin message said.1 group packet log in
        let foot = such_item (may_add (vector_of (list_of k server) group)) (footprints_of k group packet) halves.1 in
        let print = foot.0 in
        let vector = vector_of (list_of k server) group in
        let both = and_parts (has_changed print && not (contains print vector)) (follows print vector) foot.2 in
        let first = and_parts (has_changed print) (not (contains print vector)) both.0 in
        let some = stands_map _ (λ o. Unit {0}) (λ o x. tt) s.trace group packet there in
        let changing = (changed_changing c.partitions (s.events
        + 1) s.trace (footprints_of k) h.sets.rising h.sets.footprints group packet print some foot.1).0 first.0 in
        let inside = contains_in c.partitions (s.events
        + 1) s.trace (footprints_of k) h.sets.rising h.sets.footprints group packet print some foot.1
        (s.lists server) vector (h.sets.lists server below group) changing in
        let behind = follows_all c.partitions (s.events
        + 1) s.trace (footprints_of k) h.sets.rising h.sets.footprints group packet print some foot.1
        (s.lists server) vector (h.sets.lists server below group) in (
          message,
          (said.1, at.0, at.1, at.2),
          log,
          changing,
          elim (cases_Bool (s.lists server group packet)) [
            | inr isnt ↦ isnt
            | inl in_it ↦
                absurd (not_both (contains print vector) first.1 (inside.1 in_it))
          ],
          behind.0 both.1,
          λ smaller less carried.
              let named : names kept.logs smaller packet ≡ true = said.2.logs smaller packet ∙ carried in
              let turn = each_name (is_in_turn k server group packet) kept.logs smaller packet outer.1 named in
              elim (or_cases (not (packet == packet && nat_lt smaller group))
              (has_named (footprints_of k) (list_of k server) (name_of smaller packet)) turn) [
                | inl isnt ↦ absurd (not_both (packet == packet
                    && nat_lt smaller group) isnt
                    (and_from (packet == packet) (nat_lt smaller group) (eq-eqb packet packet refl)
                    (lt-ltb smaller group less)))
                | inr had ↦ (named_has c s k h _ (s.lists server) (list_of k server)
                    (h.sets.lists server below) smaller packet
                    (touching origin message said.1 smaller packet carried)).0 had
              ],
        ),
    λ may.
        let message = may.0 in
        let one = kept_message c s k h origin message may.1.0 in
        let kept = one.0 in
        let at = held_kept c.partitions s.trace Numbered message.known message.place kept.place server may.1.1 may.1.2
        one.2.place may.1.3 in
        let held : is_held server kept.place ≡ true =
        subst (λ p. is_held server p ≡ true) (sym at.3) (eq-eqb at.0 server at.4) in
        let named : names kept.logs group packet ≡ true = one.2.logs group packet ∙ may.2 in
        let there = touching origin message may.1.0 group packet may.2 in
        let foot = footprint_there _ c.partitions (footprints_of k) s.trace h.sets.footprints group packet there in
        let print = foot.0 in
        let vector = vector_of (list_of k server) group in
        let some = stands_map _ (λ o. Unit {0}) (λ o x. tt) s.trace group packet there in
        let changed = (changed_changing c.partitions (s.events
        + 1) s.trace (footprints_of k) h.sets.rising h.sets.footprints group packet print some foot.1).1 may.3 in
        let inside = contains_in c.partitions (s.events
        + 1) s.trace (footprints_of k) h.sets.rising h.sets.footprints group packet print some foot.1
        (s.lists server) vector (h.sets.lists server below group) may.3 in
        let behind = follows_all c.partitions (s.events
        + 1) s.trace (footprints_of k) h.sets.rising h.sets.footprints group packet print some foot.1
        (s.lists server) vector (h.sets.lists server below group) in
        let turns = all_names (is_in_turn k server group packet) kept.logs (λ other passed listed.
        elim (cases_Bool (passed == packet && nat_lt other group)) [
          | inr isnt ↦ or_left (not (passed == packet && nat_lt other group))
              (has_named (footprints_of k) (list_of k server) (name_of other passed)) (ap not isnt)
          | inl both ↦
              let parts = and_parts (passed == packet) (nat_lt other group) both in
              let same : passed ≡ packet = eqb-true passed packet parts.0 in
              let carried : In message.logs other packet =
              subst (λ p. In message.logs other p) same (sym (one.2.logs other passed) ∙ listed) in
              let has = may.6 other (ltb-true other group parts.1) carried in
              or_right (not (passed == packet && nat_lt other group))
              (has_named (footprints_of k) (list_of k server) (name_of other passed))
              (subst (λ p. has_named (footprints_of k) (list_of k server) (name_of other p) ≡ true) (sym same)
              ((named_has c s k h _ (s.lists server) (list_of k server) (h.sets.lists server below) other packet
              (touching origin message may.1.0 other packet carried)).1 has))
        ]) in
        and_from (carries k server origin group packet) (has_such (may_add vector) (footprints_of k group packet))
        (item_such (carries_test server group packet) (slot_at k.messages origin) kept one.1
        (and_from (is_held server kept.place
        && names kept.logs group packet) (list_all (is_in_turn k server group packet) kept.logs)
        (and_from (is_held server kept.place) (names kept.logs group packet) held named) turns))
        (item_such (may_add vector) (footprints_of k group packet) print foot.1
        (and_from (has_changed print && not (contains print vector)) (follows print vector)
        (and_from (has_changed print) (not (contains print vector)) changed
        (not_from_never (contains print vector) (λ within. true≢false (sym (inside.0 within) ∙ may.4))))
        (behind.1 may.5))),
  )

  -- ---- visit

  abbrev visit_test : ℕ → MessageOfMachine → Bool
  visit_test server m = is_unvisited server m.place && is_some m.packet && is_ready k server m

  pub right_visit : (server : ℕ) → server < servers c → (packet worker : ℕ) →
      (may_visit k server packet ≡ true) ↔ MayHappen c s (Visit server packet worker)
  right_visit server below packet worker = (
    λ test.
        let found = such_item (visit_test server) (slot_at k.messages packet) test in
        let kept = found.0 in
        let outer = and_parts (is_unvisited server kept.place
        && is_some kept.packet) (is_ready k server kept) found.2 in
        let inner = and_parts (is_unvisited server kept.place) (is_some kept.packet) outer.0 in
        let said = said_message c s k h packet kept found.1 in
        let message = said.0 in
        let at = unvisited_said c.partitions s.trace Numbered message.known message.place kept.place server said.2.place
        inner.0 in
        let bytes = some_bytes kept.packet inner.1 in (
          message,
          bytes.0,
          at.0,
          said.1,
          at.1,
          sym said.2.packet ∙ bytes.1,
          (ready_is server below packet message said.1 kept said.2).0 outer.1,
        ),
    λ may.
        let message = may.0 in
        let one = kept_message c s k h packet message may.3 in
        let kept = one.0 in
        let at = held_kept c.partitions s.trace Numbered message.known message.place kept.place server false may.2
        one.2.place may.4 in
        let there : is_some kept.packet ≡ true = ap is_some (one.2.packet ∙ may.5) in
        item_such (visit_test server) (slot_at k.messages packet) kept one.1
        (and_from (is_unvisited server kept.place && is_some kept.packet) (is_ready k server kept)
        (and_from (is_unvisited server kept.place) (is_some kept.packet)
        (subst (λ p. is_unvisited server p
        ≡ true) (sym at.3) (and_from (at.0 == server) (not at.1) (eq-eqb at.0 server at.4) (ap not at.5))) there)
        ((ready_is server below packet message may.3 kept one.2).1 may.6)),
  )

  -- ---- pass and lose

  abbrev leave_test : ℕ → MessageOfMachine → Bool
  leave_test server m = may_go server (is_none m.packet) m.place && is_ready k server m

  leaves : (server : ℕ) → server < servers c → (origin : ℕ) → may_leave k server origin ≡ true →
      (message : Message) × MayLeave c s server origin message
  leaves server below origin test =
      let found = such_item (leave_test server) (slot_at k.messages origin) test in
      let kept = found.0 in
      let both = and_parts (may_go server (is_none kept.packet) kept.place) (is_ready k server kept) found.2 in
      let said = said_message c s k h origin kept found.1 in
      let message = said.0 in
      let at = going_said c.partitions s.trace Numbered message.known message.place kept.place server
      (is_none kept.packet) said.2.place both.0 in (
        message,
        record {
          there = said.1;
          visited = at.0;
          held = at.1;
          ready = (ready_is server below origin message said.1 kept said.2).0 both.1;
          done = elim at.2 [
            | inl visited ↦ inl visited
            | inr bare ↦
                inr (sym said.2.packet ∙ none_bytes kept.packet bare)
          ];
        },
      )

  may_left : (server : ℕ) → server < servers c → (origin : ℕ) (message : Message) → MayLeave c s server origin message →
      may_leave k server origin ≡ true
  may_left server below origin message may =
      let one = kept_message c s k h origin message may.there in
      let kept = one.0 in
      let at = held_kept c.partitions s.trace Numbered message.known message.place kept.place server may.visited false
      one.2.place may.held in
      let goes : at.1 || is_none kept.packet ≡ true =
      elim may.done [
        | inl visited ↦ or_left at.1 (is_none kept.packet) (at.5 ∙ visited)
        | inr bare ↦ or_right at.1 (is_none kept.packet) (ap is_none (one.2.packet ∙ bare))
      ] in
      item_such (leave_test server) (slot_at k.messages origin) kept one.1
      (and_from (may_go server (is_none kept.packet) kept.place) (is_ready k server kept)
      (subst (λ p. may_go server (is_none kept.packet) p ≡ true) (sym at.3)
      (and_from (at.0 == server && not at.2) (at.1
      || is_none kept.packet) (and_from (at.0 == server) (not at.2) (eq-eqb at.0 server at.4) (ap not at.6)) goes))
      ((ready_is server below origin message may.there kept one.2).1 may.ready))

  sends_is : (server : ℕ) → sends k.ring server ≡ is_sent c server
  sends_is server = ap (λ ring. sends ring server) h.ring

  none_some : (o : Option ℕ) → is_none o ≡ not (is_some o)
  none_some None = refl
  none_some (Some x) = refl

  off : (b : Bool) → not b ≡ true → b ≡ false
  off true isnt = absurd (true≢false (sym isnt))
  off false isnt = refl

  module _ (script : ScriptShape) (packets : ℕ) (given : AreInputs c script packets) where
    pub right_pass : (server : ℕ) → server < servers c → (origin : ℕ) → (may_pass k script server origin ≡ true)
        ↔ MayHappen c s (Pass server origin)
    right_pass server below origin = (
      λ test.
          let both = and_parts (may_leave k server origin) (is_none (loses_of script.loses server origin)
          || not (sends k.ring server)) test in
          let left = leaves server below origin both.0 in (
            left.0,
            left.1,
            elim (or_cases (is_none (loses_of script.loses server origin)) (not (sends k.ring server)) both.1) [
              | inl kept ↦ inl (given.loses server origin ∙ off (is_some (loses_of script.loses server origin))
                  (sym (none_some (loses_of script.loses server origin)) ∙ kept))
              | inr unsent ↦ inr (sym (sends_is server) ∙ off (sends k.ring server) unsent)
            ],
          ),
      λ may. and_from (may_leave k server origin) (is_none (loses_of script.loses server origin)
          || not (sends k.ring server))
          (may_left server below origin may.0 may.1)
          (elim may.2 [
            | inl kept ↦ or_left (is_none (loses_of script.loses server origin)) (not (sends k.ring server))
                (none_some (loses_of script.loses server origin) ∙ ap not (sym (given.loses server origin) ∙ kept))
            | inr unsent ↦ or_right (is_none (loses_of script.loses server origin)) (not (sends k.ring server))
                (ap not (sends_is server ∙ unsent))
          ]),
    )

    pub right_lose : (server : ℕ) → server < servers c → (origin : ℕ) → (may_lose k script server origin ≡ true)
        ↔ MayHappen c s (Lose server origin)
    right_lose server below origin = (
      λ test.
          let outer = and_parts (may_leave k server origin
          && sends k.ring server) (is_some (loses_of script.loses server origin)) test in
          let inner = and_parts (may_leave k server origin) (sends k.ring server) outer.0 in
          let left = leaves server below origin inner.0 in
          (left.0, left.1, sym (sends_is server) ∙ inner.1, given.loses server origin ∙ outer.1),
      λ may. and_from (may_leave k server origin && sends k.ring server) (is_some (loses_of script.loses server origin))
          (and_from (may_leave k server origin) (sends k.ring server) (may_left server below origin may.0 may.1)
          (sends_is server ∙ may.2))
          (sym (given.loses server origin) ∙ may.3),
    )

  -- ---- carry

  abbrev carry_test : MessageOfMachine → Bool
  carry_test m = came_by_ring m.place && is_ready k 0 m

  pub right_carry : (origin : ℕ) → (may_carry k origin ≡ true) ↔ MayHappen c s (Carry origin)
  right_carry origin = let first : 0 < servers c = let some = is.ring.some in omega arith in (
    λ test.
        let found = such_item carry_test (slot_at k.messages origin) test in
        let kept = found.0 in
        let both = and_parts (came_by_ring kept.place) (is_ready k 0 kept) found.2 in
        let said = said_message c s k h origin kept found.1 in
        let message = said.0 in
        let at = ringed_said c.partitions s.trace Numbered message.known message.place kept.place said.2.place both.0 in
        (message, said.1, at.0, at.1, (ready_is 0 first origin message said.1 kept said.2).0 both.1),
    λ may.
        let message = may.0 in
        let one = kept_message c s k h origin message may.1 in
        let kept = one.0 in
        let at = held_kept c.partitions s.trace Numbered message.known message.place kept.place 0 may.2 true one.2.place
        may.3 in
        item_such carry_test (slot_at k.messages origin) kept one.1
        (and_from (came_by_ring kept.place) (is_ready k 0 kept)
        (subst (λ p. came_by_ring p ≡ true) (sym at.3) (and_from (at.0 == 0) at.2 (eq-eqb at.0 0 at.4) at.6))
        ((ready_is 0 first origin message may.1 kept one.2).1 may.4)),
  )
