-- Tests of the packets of the buffer say which are due.
use Rattle.std.proofs.Common.{◌≡◌, ℕ, ◌<◌, ◌≤◌, ◌-◌, ◌&&◌, ◌||◌, nat_lt, not, Bool, true, Some, inl, inr, sym, ap}
use Rattle.std.proofs.Common.{subst, ◌∙◌, ◌↔◌, arith, lt-ltb}
use Rattle.std.specs.List.{list_any}
use Rattle.std.proofs.lemmas.Bool.{and_parts, and_from, or_cases, or_left, or_right, cases_Bool, cases_lt, ltb-true}
use Rattle.ftc_base.specs.Sets.{has}
use Rattle.ftc_base.proofs.Bools.{not_from_never, not_both}
use Rattle.ftc_journal.specs.declared.event.Event.TheVariants as event
use Rattle.ftc_machine.specs.declared.state.MachineState.{MachineState}
use Rattle.ftc_machine.specs.declared.state.message.Withheld.{Withheld as WithheldOfMachine}
use Rattle.ftc_protocol.specs.Setting.{Setting, servers, IsSetting}
use Rattle.ftc_protocol.specs.Trace.{IsTouching}
use Rattle.ftc_protocol.specs.State.{ChainState, Withheld}
use Rattle.ftc_protocol.specs.Known.{knows, IsDue}
use Rattle.ftc_protocol.specs.Legal.{MayHappen}
use Rattle.ftc_machine.specs.Slots.{slot_at, has_such}
use Rattle.ftc_machine.specs.Frontier.{numbers_of, AreFrontiers}
use Rattle.ftc_machine.specs.Represents.{Represents, IsWithheld}
use Rattle.ftc_machine.specs.LegalityTests.{footprints_of, has_named}
use Rattle.ftc_machine.specs.DueTests.{known_last, is_due_by, is_due_before, is_any_due, may_release, named}
use Rattle.ftc_protocol.specs.Changes.{is_touching}
use Rattle.ftc_protocol.proofs.ListStores.{stands_below}
use Rattle.ftc_machine.specs.Lawful.{IsLawful}
use Rattle.ftc_machine.proofs.LawfulStates.{serial_in}
use Rattle.ftc_machine.proofs.SlotTests.{such_item, item_such, any_item, item_any}
use Rattle.ftc_machine.proofs.RepresentedMessages.{named_has}
use Rattle.ftc_machine.proofs.ScriptTests.{kept_withheld, said_withheld, each_below, below_each}

module _ (c : Setting) (is : IsSetting c) (s : ChainState) (r : IsLawful c s) (k : MachineState) (h : Represents c s k)
    (reaches : AreFrontiers c.partitions s.trace (numbers_of (footprints_of k)) (knows c s (servers c - 1))
    (known_last k))
    (needed : (packet group : ℕ) (withheld : Withheld) → s.withheld packet ≡ Some withheld →
    withheld.needs group ≡ true → IsTouching s.trace group packet) where
  servers_same : k.ring.servers ≡ servers c
  servers_same = ap (λ ring. ring.servers) h.ring

  pub due_said : (packet : ℕ) (withheld : Withheld) (kept : WithheldOfMachine) → s.withheld packet ≡ Some withheld →
      IsWithheld packet withheld kept → is_due_by k (known_last k) kept ≡ true → IsDue c s packet withheld
  due_said packet withheld kept there same test = (
    there,
    λ group need.
        let touching = needed packet group withheld there need in
        let below : group < servers c =
        stands_below c (let some = is.ring.some in
        omega arith) (λ o. is_touching o ≡ true) s.trace (serial_in c s r) group packet touching in
        let turn = each_below k.ring.servers (λ g. not (has kept.needs g)
        || has_named (footprints_of k) (known_last k) (named g kept.packet)) test group (let n =
        servers_same in omega arith) in
        elim (or_cases (not (has kept.needs group))
        (has_named (footprints_of k) (known_last k) (named group kept.packet)) turn) [
          | inl isnt ↦ absurd (not_both (has kept.needs group) isnt (same.needs group ∙ need))
          | inr had ↦ (named_has c s k h _ (knows c s (servers c - 1)) (known_last k) reaches group packet touching).0
              (subst (λ p. has_named (footprints_of k) (known_last k) (named group p) ≡ true) same.packet_is had)
        ],
  )

  pub said_due : (packet : ℕ) (withheld : Withheld) (kept : WithheldOfMachine) → s.withheld packet ≡ Some withheld →
      IsWithheld packet withheld kept → IsDue c s packet withheld → is_due_by k (known_last k) kept ≡ true
  said_due packet withheld kept there same due =
      below_each k.ring.servers (λ g. not (has kept.needs g)
      || has_named (footprints_of k) (known_last k) (named g kept.packet)) (λ group below.
      elim (cases_Bool (has kept.needs group)) [
        | inr isnt ↦ or_left (not (has kept.needs group))
            (has_named (footprints_of k) (known_last k) (named group kept.packet)) (ap not isnt)
        | inl need ↦
            let wanted : withheld.needs group ≡ true = sym (same.needs group) ∙ need in
            or_right (not (has kept.needs group)) (has_named (footprints_of k) (known_last k) (named group kept.packet))
            (subst (λ p. has_named (footprints_of k) (known_last k) (named group p) ≡ true) (sym same.packet_is)
            ((named_has c s k h _ (knows c s (servers c - 1)) (known_last k) reaches group packet
            (needed packet group withheld there wanted)).1 (due.1 group wanted)))
      ])

  abbrev release_test : WithheldOfMachine → Bool
  release_test w = is_due_by k (known_last k) w
      && not (list_any (has_such (is_due_before k (known_last k) w.since)) k.buffer)

  pub right_release : (packet : ℕ) → (may_release k packet ≡ true) ↔ MayHappen c s (event.Release packet)
  right_release packet = (
    λ test.
        let found = such_item release_test (slot_at k.buffer packet) test in
        let kept = found.0 in
        let both = and_parts (is_due_by k (known_last k) kept)
        (not (list_any (has_such (is_due_before k (known_last k) kept.since)) k.buffer)) found.2 in
        let said = said_withheld packet (s.withheld packet) (slot_at k.buffer packet) kept (h.buffer packet)
        found.1 in (
          said.0,
          due_said packet said.0 kept said.1 said.2 both.0,
          λ other w due.
              let one = kept_withheld other (s.withheld other) (slot_at k.buffer other) w (h.buffer other) due.0 in
              elim (cases_lt w.since said.0.since) [
                | inr more ↦ more
                | inl less ↦ absurd (not_both
                    (list_any (has_such (is_due_before k (known_last k) kept.since)) k.buffer) both.1
                    (item_any (is_due_before k (known_last k) kept.since) k.buffer other one.0 one.1
                    (and_from (nat_lt one.0.since kept.since) (is_due_by k (known_last k) one.0)
                    (lt-ltb one.0.since kept.since (let a = one.2.since in let b = said.2.since in omega arith))
                    (said_due other w one.0 due.0 one.2 due))))
              ],
        ),
    λ may.
        let withheld = may.0 in
        let one = kept_withheld packet (s.withheld packet) (slot_at k.buffer packet) withheld
        (h.buffer packet) may.1.0 in
        item_such release_test (slot_at k.buffer packet) one.0 one.1
        (and_from (is_due_by k (known_last k) one.0)
        (not (list_any (has_such (is_due_before k (known_last k) one.0.since)) k.buffer))
        (said_due packet withheld one.0 may.1.0 one.2 may.1)
        (not_from_never (list_any (has_such (is_due_before k (known_last k) one.0.since)) k.buffer) (λ any.
        let found = any_item (is_due_before k (known_last k) one.0.since) k.buffer any in
        let both = and_parts (nat_lt found.1.since one.0.since) (is_due_by k (known_last k) found.1) found.3 in
        let said = said_withheld found.0 (s.withheld found.0) (slot_at k.buffer found.0) found.1
        (h.buffer found.0) found.2 in
        let least : withheld.since ≤ said.0.since =
        may.2 found.0 said.0 (due_said found.0 said.0 found.1 said.1 said.2 both.1) in
        let less : found.1.since < one.0.since = ltb-true found.1.since one.0.since both.0 in
        let a = one.2.since in let b = said.2.since in omega arith))),
  )

  pub any_due : is_any_due k ≡ true → (packet : ℕ) × (withheld : Withheld) × IsDue c s packet withheld
  any_due any =
      let found = any_item (is_due_by k (known_last k)) k.buffer any in
      let said = said_withheld found.0 (s.withheld found.0) (slot_at k.buffer found.0) found.1
      (h.buffer found.0) found.2 in
      (found.0, said.0, due_said found.0 said.0 found.1 said.1 said.2 found.3)

  pub due_any : (packet : ℕ) (withheld : Withheld) → IsDue c s packet withheld → is_any_due k ≡ true
  due_any packet withheld due =
      let one = kept_withheld packet (s.withheld packet) (slot_at k.buffer packet) withheld (h.buffer packet) due.0 in
      item_any (is_due_by k (known_last k)) k.buffer packet one.0 one.1 (said_due packet withheld one.0 due.0 one.2 due)
