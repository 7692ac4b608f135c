-- A run has ended where what is kept says so.
use Rattle.std.proofs.Common.{◌≡◌, ℕ, ◌<◌, ◌≤◌, ◌==◌, ◌&&◌, nat_le, not, Bool, true, false, List, [], ◌∷◌, length, drop}
use Rattle.std.proofs.Common.{Some, None, refl, sym, ap, ◌∙◌, arith, eqb-true, eq-eqb, leb-true, le-leb}
use Rattle.std.specs.List.{list_any}
use Rattle.std.proofs.lemmas.Bool.{true≢false, and_parts, and_from}
use Rattle.std.proofs.lemmas.Option.{none-some}
use Rattle.std.proofs.lemmas.List.{drop_all, length-drop}
use Rattle.ftc_base.specs.Sets.{has}
use Rattle.ftc_base.proofs.Bools.{not_from_never, not_both}
use Rattle.ftc_journal.specs.declared.event.VisitName.{VisitName}
use Rattle.ftc_script.specs.Script.{ScriptShape}
use Rattle.ftc_serial.specs.Trace.{names}
use Rattle.ftc_machine.specs.declared.state.MachineState.{MachineState}
use Rattle.ftc_machine.specs.declared.state.message.Message.{Message as MessageOfMachine}
use Rattle.ftc_machine.specs.declared.state.message.Withheld.{Withheld as WithheldOfMachine}
use Rattle.ftc_protocol.specs.Setting.{Setting, servers, IsSetting}
use Rattle.ftc_protocol.specs.State.{ChainState}
use Rattle.ftc_protocol.specs.Run.{IsFinished}
use Rattle.ftc_protocol.specs.Finish.{IsComplete}
use Rattle.ftc_machine.specs.Slots.{slot_at, has_such}
use Rattle.ftc_machine.specs.Represents.{Represents, AreInputs}
use Rattle.ftc_machine.specs.LegalityTests.{all_below}
use Rattle.ftc_machine.specs.EndTest.{is_done}
use Rattle.ftc_machine.specs.Lawful.{IsLawful}
use Rattle.ftc_protocol.proofs.NothingLegal.{nothing_left}
use Rattle.ftc_machine.proofs.SlotTests.{any_item, item_any, names_here}
use Rattle.ftc_machine.proofs.RepresentedMessages.{said_message}
use Rattle.ftc_machine.proofs.ScriptTests.{none_said, no_gap, below_each, kept_withheld, said_withheld}

no_names : (visits : List VisitName) → length visits == 0 ≡ true → (server packet : ℕ) →
    names visits server packet ≡ false
no_names [] is server packet = refl
no_names (name ∷ visits) is server packet =
    absurd (let wrong : length (name ∷ visits) ≡ 0 = eqb-true (length (name ∷ visits)) 0 is in omega arith)

names_none : (visits : List VisitName) → ((server packet : ℕ) → names visits server packet ≡ false) →
    length visits == 0 ≡ true
names_none [] each = refl
names_none (name ∷ visits) each = absurd (true≢false (sym (names_here name visits) ∙ each name.server name.packet))

module _ (c : Setting) (is : IsSetting c) (s : ChainState) (r : IsLawful c s) (k : MachineState) (h : Represents c s k)
    (script : ScriptShape) (packets : ℕ) (given : AreInputs c script packets) where
  abbrev some_message : Bool
  some_message = list_any (has_such (λ (m : MessageOfMachine). true)) k.messages

  abbrev some_withheld : Bool
  some_withheld = list_any (has_such (λ (w : WithheldOfMachine). true)) k.buffer

  abbrev whole : Bool
  whole = all_below k.ring.servers (λ link. not (has k.gaps link))

  servers_are : k.ring.servers ≡ servers c
  servers_are = ap (λ ring. ring.servers) h.ring

  none_withheld : not some_withheld ≡ true → (packet : ℕ) → s.withheld packet ≡ None
  none_withheld isnt packet = elim (s.withheld packet) as (λ o. s.withheld packet ≡ o → o ≡ None) [
    | None ↦ λ e. refl
    | Some w ↦ λ e.
        let one = kept_withheld packet (s.withheld packet) (slot_at k.buffer packet) w (h.buffer packet) e in
        absurd (not_both some_withheld isnt
        (item_any (λ (v : WithheldOfMachine). true) k.buffer packet one.0 one.1 refl))
  ] refl

  lines_done : nat_le (length script.steps) k.done ≡ true → s.lines ≡ []
  lines_done past =
      let most : length script.steps ≤ k.done = leb-true (length script.steps) k.done past in
      h.lines ∙ (ap (drop k.done) given.lines ∙ drop_all k.done script.steps most)

  pub done_finished : is_done k script packets ≡ true → IsFinished c s
  done_finished test =
      let p5 = and_parts (nat_le (length script.steps) k.done && k.entered == packets && not some_message
      && length k.forwarder == 0 && whole) (not some_withheld) test in
      let p4 = and_parts (nat_le (length script.steps) k.done && k.entered == packets && not some_message
      && length k.forwarder == 0) whole p5.0 in
      let p3 = and_parts (nat_le (length script.steps) k.done && k.entered == packets
      && not some_message) (length k.forwarder == 0) p4.0 in
      let p2 = and_parts (nat_le (length script.steps) k.done && k.entered == packets) (not some_message) p3.0 in
      let p1 = and_parts (nat_le (length script.steps) k.done) (k.entered == packets) p2.0 in
      let all_in : k.entered ≡ packets = eqb-true k.entered packets p1.1 in
      nothing_left c s (lines_done p1.0) (sym h.entered ∙ (all_in ∙ sym given.counted))
      (none_said c is s r k h script packets given p2.1)
      (λ group packet. sym (h.forwarder group packet) ∙ no_names k.forwarder p3.1 group packet)
      (no_gap c is s r k h script packets given p4.1) (none_withheld p5.1) (λ server up. r.order.inside server up)

  pub complete_done : IsComplete c s → is_done k script packets ≡ true
  complete_done complete =
      and_from (nat_le (length script.steps) k.done && k.entered == packets && not some_message
      && length k.forwarder == 0 && whole) (not some_withheld)
      (and_from (nat_le (length script.steps) k.done && k.entered == packets && not some_message
      && length k.forwarder == 0) whole
      (and_from (nat_le (length script.steps) k.done && k.entered == packets
      && not some_message) (length k.forwarder == 0)
      (and_from (nat_le (length script.steps) k.done && k.entered == packets) (not some_message)
      (and_from (nat_le (length script.steps) k.done) (k.entered == packets)
      (le-leb (length script.steps) k.done
      (let none_left : drop k.done script.steps
      ≡ [] = sym (ap (drop k.done) given.lines) ∙ (sym h.lines ∙ complete.lines) in
      let long = length-drop k.done script.steps in
      let none_long : length (drop k.done script.steps) ≡ 0 = ap length none_left in omega arith))
      (eq-eqb k.entered packets (h.entered ∙ (complete.entered ∙ given.counted))))
      (not_from_never some_message (λ any.
      let found = any_item (λ (m : MessageOfMachine). true) k.messages any in
      let said = said_message c s k h found.0 found.1 found.2 in
      none-some said.0 (sym (complete.message found.0) ∙ said.1))))
      (names_none k.forwarder (λ server packet. h.forwarder server packet ∙ complete.forwarder server packet)))
      (below_each k.ring.servers (λ link. not (has k.gaps link)) (λ link below.
      let less : link < servers c = (let n = servers_are in omega arith) in
      ap not (h.gaps link less ∙ complete.gap link less))))
      (not_from_never some_withheld (λ any.
      let found = any_item (λ (w : WithheldOfMachine). true) k.buffer any in
      let said = said_withheld found.0 (s.withheld found.0) (slot_at k.buffer found.0) found.1
      (h.buffer found.0) found.2 in
      none-some said.0 (sym (complete.withheld found.0) ∙ said.1)))
