-- Tests of events that have to do with the script and the links say when the event may happen.
use Rattle.std.proofs.Common.{◌≡◌, ◌≢◌, ℕ, zero, suc, ◌<◌, ◌≤◌, ◌+◌, ◌==◌, ◌&&◌, ◌||◌, nat_lt, not, Bool, true, false}
use Rattle.std.proofs.Common.{List, [], ◌∷◌, drop, Option, Some, None, inl, inr, refl, sym, ap, subst, ◌∙◌, ◌↔◌, arith}
use Rattle.std.proofs.Common.{eqb-true, eq-eqb, lt-ltb, if◌then◌else◌}
use Rattle.std.specs.List.{AllByRecursion, list_all, list_any, range_with_len}
use Rattle.std.proofs.lemmas.Bool.{true≢false, and_parts, and_from, or_cases, or_left, or_right, cases_eq, ltb-true}
use Rattle.std.proofs.lemmas.Bool.{ne_eqb}
use Rattle.std.proofs.lemmas.Option.{none-some}
use Rattle.ftc_base.specs.Sets.{has}
use Rattle.ftc_base.proofs.Bools.{not_from_never, not_both}
use Rattle.ftc_vector.proofs.OrderTests.{all_in, all_of}
use Rattle.ftc_ring.specs.Ring.{next_of}
use Rattle.ftc_ring.specs.Live.{is_live}
use Rattle.ftc_journal.specs.declared.event.VisitName.{VisitName}
use Rattle.ftc_journal.specs.declared.event.Event.TheVariants as event
use Rattle.ftc_script.specs.declared.line.ScriptLine.{ScriptLine}
use Rattle.ftc_script.specs.declared.line.ScriptLine.TheVariants.{Crash, Recover}
use Rattle.ftc_script.specs.Script.{ScriptShape}
use Rattle.ftc_script.specs.Steps.{at_of}
use Rattle.ftc_serial.specs.Trace.{names}
use Rattle.ftc_machine.specs.declared.state.MachineState.{MachineState}
use Rattle.ftc_machine.specs.declared.state.message.Message.{Message as MessageOfMachine}
use Rattle.ftc_machine.specs.declared.state.message.Place.{Place}
use Rattle.ftc_machine.specs.declared.state.message.Place.TheVariants as place
use Rattle.ftc_machine.specs.declared.state.message.Withheld.{Withheld as WithheldOfMachine}
use Rattle.ftc_protocol.specs.Changes.{is_some_list}
use Rattle.ftc_protocol.specs.Setting.{Setting, servers, count, IsSetting}
use Rattle.ftc_protocol.specs.Visits.{Visits}
use Rattle.ftc_protocol.specs.State.{ChainState, Withheld, Where, Held, Queued}
use Rattle.ftc_protocol.specs.Legal.{MayHappen, IsNextLine, IsStalled}
use Rattle.ftc_machine.specs.Slots.{slot_at, has_such}
use Rattle.ftc_machine.specs.Represents.{Represents, IsPlace, IsWithheld, IsWithheldSlot, AreInputs}
use Rattle.ftc_machine.specs.LegalityTests.{lines_left, first_of, may_enter, is_crash, is_recovery, may_crash}
use Rattle.ftc_machine.specs.LegalityTests.{may_recover, may_pull, all_below, is_begun, is_stalled, may_propagate}
use Rattle.ftc_machine.specs.Lawful.{IsLawful}
use Rattle.ftc_machine.proofs.SlotTests.{any_item, item_any, names_here}
use Rattle.ftc_machine.proofs.RepresentedMessages.{kept_message, said_message}

-- ---- lines

pub none_at : (lines : List ScriptLine) (packet : ℕ) →
    not (list_any (λ (line : ScriptLine). at_of line == packet) lines) ≡ true →
    AllByRecursion (λ (line : ScriptLine). at_of line ≢ packet) lines
none_at [] packet isnt = tt
none_at (line ∷ lines) packet isnt = (
  λ same. not_both (list_any (λ (l : ScriptLine). at_of l == packet) (line ∷ lines)) isnt
      (or_left (at_of line == packet) (list_any (λ (l : ScriptLine). at_of l == packet) lines)
      (eq-eqb (at_of line) packet same)),
  none_at lines packet (not_from_never (list_any (λ (l : ScriptLine). at_of l == packet) lines)
      (λ any. not_both (list_any (λ (l : ScriptLine). at_of l == packet) (line ∷ lines)) isnt
      (or_right (at_of line == packet) (list_any (λ (l : ScriptLine). at_of l == packet) lines) any))),
)

pub at_none : (lines : List ScriptLine) (packet : ℕ) →
    AllByRecursion (λ (line : ScriptLine). at_of line ≢ packet) lines →
    list_any (λ (line : ScriptLine). at_of line == packet) lines ≡ true → ⊥
at_none [] packet all any = true≢false (sym any)
at_none (line ∷ lines) packet all any =
    elim (or_cases (at_of line == packet) (list_any (λ (l : ScriptLine). at_of l == packet) lines) any) [
      | inl here ↦ all.0 (eqb-true (at_of line) packet here)
      | inr there ↦ at_none lines packet all.1 there
    ]

crash_line : (lines : List ScriptLine) (entered server : ℕ) →
    has_such (is_crash entered server) (first_of lines) ≡ true → IsNextLine lines (Crash entered server)
crash_line [] entered server test = absurd (true≢false (sym test))
crash_line (Crash at other ∷ lines) entered server test =
    let both = and_parts (at == entered) (other == server) test in
    ap (λ x. Crash x other) (eqb-true at entered both.0) ∙ ap (λ x. Crash entered x) (eqb-true other server both.1)
crash_line (Recover at other ∷ lines) entered server test = absurd (true≢false (sym test))

line_crash : (lines : List ScriptLine) (entered server : ℕ) → IsNextLine lines (Crash entered server) →
    has_such (is_crash entered server) (first_of lines) ≡ true
line_crash [] entered server is = absurd is
line_crash (Crash at other ∷ lines) entered server is =
    and_from (at == entered) (other == server) (eq-eqb at entered (let same : at ≡ entered = cc in
    same)) (eq-eqb other server (let same : other ≡ server = cc in same))
line_crash (Recover at other ∷ lines) entered server is = absurd (cc)

recovery_line : (lines : List ScriptLine) (entered server : ℕ) →
    has_such (is_recovery entered server) (first_of lines) ≡ true → IsNextLine lines (Recover entered server)
recovery_line [] entered server test = absurd (true≢false (sym test))
recovery_line (Recover at other ∷ lines) entered server test =
    let both = and_parts (at == entered) (other == server) test in
    ap (λ x. Recover x other) (eqb-true at entered both.0) ∙ ap (λ x. Recover entered x)
    (eqb-true other server both.1)
recovery_line (Crash at other ∷ lines) entered server test = absurd (true≢false (sym test))

line_recovery : (lines : List ScriptLine) (entered server : ℕ) → IsNextLine lines (Recover entered server) →
    has_such (is_recovery entered server) (first_of lines) ≡ true
line_recovery [] entered server is = absurd is
line_recovery (Recover at other ∷ lines) entered server is =
    and_from (at == entered) (other == server) (eq-eqb at entered (let same : at ≡ entered = cc in
    same)) (eq-eqb other server (let same : other ≡ server = cc in same))
line_recovery (Crash at other ∷ lines) entered server is = absurd (cc)

-- ---- numbers below a count

pub each_below : (most : ℕ) (test : ℕ → Bool) → all_below most test ≡ true → (number : ℕ) → number < most →
    test number ≡ true
each_below most test all number below = all_in test 0 most all number (omega arith) (omega arith)

pub below_each : (most : ℕ) (test : ℕ → Bool) → ((number : ℕ) → number < most → test number ≡ true) →
    all_below most test ≡ true
below_each most test each = all_of test 0 most (λ number le less. each number (omega arith))

-- ---- messages that began at server 0, packets of the buffer

begun_said : (partitions : ℕ) (trace : _) (numbers : _) (known : Visits) (said : Where) (kept : Place) →
    IsPlace partitions trace numbers known said kept → is_begun kept ≡ true →
    (visited : Bool) × (said ≡ Held 0 visited false)
begun_said partitions trace numbers known (Held a b d) (place.Held e f g) is test =
    let both = and_parts (e == 0) (not g) test in
    let at : a ≡ 0 = sym is.0 ∙ eqb-true e 0 both.0 in
    (b, ap (λ x. Held x b d) at ∙ ap (λ x. Held 0 b x) (sym is.2 ∙ off g both.1))
  where
    off : (b : Bool) → not b ≡ true → b ≡ false
    off true isnt = absurd (true≢false (sym isnt))
    off false isnt = refl
begun_said partitions trace numbers known (Held a b d) (place.Queued e reach) is test = absurd is
begun_said partitions trace numbers known (Queued a) (place.Held e f g) is test = absurd is
begun_said partitions trace numbers known (Queued a) (place.Queued e reach) is test = absurd (true≢false (sym test))

begun_kept : (partitions : ℕ) (trace : _) (numbers : _) (known : Visits) (said : Where) (kept : Place)
    (visited : Bool) → IsPlace partitions trace numbers known said kept → said ≡ Held 0 visited false →
    is_begun kept ≡ true
begun_kept partitions trace numbers known (Held a b d) (place.Held e f g) visited is same =
    and_from (e == 0) (not g) (eq-eqb e 0 (is.0 ∙ (let x : a ≡ 0 = cc in x)))
    (ap not (is.2 ∙ (let x : d ≡ false = cc in x)))
begun_kept partitions trace numbers known (Held a b d) (place.Queued e reach) visited is same = absurd is
begun_kept partitions trace numbers known (Queued a) kept visited is same = absurd (cc)

pub kept_withheld : (packet : ℕ) (o : Option Withheld) (slot : Option WithheldOfMachine) (withheld : Withheld) →
    IsWithheldSlot packet o slot → o ≡ Some withheld
    → (kept : WithheldOfMachine) × (slot ≡ Some kept) × IsWithheld packet withheld kept
kept_withheld packet None slot withheld is there = absurd (cc)
kept_withheld packet (Some other) None withheld is there = absurd is
kept_withheld packet (Some other) (Some kept) withheld is there =
    (kept, refl, subst (λ m. IsWithheld packet m kept) (let same : other ≡ withheld = cc in same) is)

pub said_withheld : (packet : ℕ) (o : Option Withheld) (slot : Option WithheldOfMachine) (kept : WithheldOfMachine) →
    IsWithheldSlot packet o slot → slot ≡ Some kept
    → (withheld : Withheld) × (o ≡ Some withheld) × IsWithheld packet withheld kept
said_withheld packet o None kept is there = absurd (cc)
said_withheld packet None (Some other) kept is there = absurd is
said_withheld packet (Some withheld) (Some other) kept is there =
    (withheld, refl, subst (λ m. IsWithheld packet withheld m) (let same : other ≡ kept = cc in same) is)

some_name : (visits : List VisitName) → is_some_list visits ≡ true →
    (server : ℕ) × (packet : ℕ) × (names visits server packet ≡ true)
some_name [] is = absurd (true≢false (sym is))
some_name (name ∷ visits) is = (name.server, name.packet, names_here name visits)

name_some : (visits : List VisitName) (server packet : ℕ) → names visits server packet ≡ true →
    is_some_list visits ≡ true
name_some [] server packet is = absurd (true≢false (sym is))
name_some (name ∷ visits) server packet is = refl

module _ (c : Setting) (is : IsSetting c) (s : ChainState) (r : IsLawful c s) (k : MachineState)
    (h : Represents c s k) where
  module _ (script : ScriptShape) (packets : ℕ) (given : AreInputs c script packets) where
    left : s.lines ≡ lines_left k script
    left = h.lines ∙ ap (drop k.done) given.lines

    pub right_enter : (packet : ℕ) → (may_enter k script packets packet ≡ true) ↔ MayHappen c s (event.Enter packet)
    right_enter packet = (
      λ test.
          let outer = and_parts (packet == k.entered
          && nat_lt packet packets)
          (not (list_any (λ (line : ScriptLine). at_of line == packet) (lines_left k script))) test in
          let inner = and_parts (packet == k.entered) (nat_lt packet packets) outer.0 in
          let less : packet < packets = ltb-true packet packets inner.1 in
          let same = given.counted in (
            eqb-true packet k.entered inner.0 ∙ h.entered,
            omega arith,
            subst (λ (lines : List ScriptLine). AllByRecursion (λ (line : ScriptLine). at_of line ≢ packet) lines)
                (sym left) (none_at (lines_left k script) packet outer.1),
          ),
      λ may.
          let less : packet < count c = may.1 in
          let same = given.counted in
          and_from (packet == k.entered
          && nat_lt packet packets)
          (not (list_any (λ (line : ScriptLine). at_of line == packet) (lines_left k script)))
          (and_from (packet == k.entered) (nat_lt packet packets) (eq-eqb packet k.entered (may.0 ∙ sym h.entered))
          (lt-ltb packet packets (omega arith)))
          (not_from_never (list_any (λ (line : ScriptLine). at_of line == packet) (lines_left k script))
          (at_none (lines_left k script) packet
          (subst (λ (lines : List ScriptLine). AllByRecursion
          (λ (line : ScriptLine). at_of line ≢ packet) lines) left may.2))),
    )

    pub right_crash : (server : ℕ) → (may_crash k script server ≡ true) ↔ MayHappen c s (event.Crash server)
    right_crash server = (
      λ test. subst (λ n. IsNextLine s.lines (Crash n server)) h.entered
          (subst (λ (lines : List ScriptLine). IsNextLine lines (Crash k.entered server)) (sym left)
          (crash_line (lines_left k script) k.entered server test)),
      λ may. line_crash (lines_left k script) k.entered server
          (subst (λ (lines : List ScriptLine). IsNextLine lines (Crash k.entered server)) left
          (subst (λ n. IsNextLine s.lines (Crash n server)) (sym h.entered) may)),
    )

    pub right_recover : (server : ℕ) →
        (may_recover k script server ≡ true) ↔ IsNextLine s.lines (Recover s.entered server)
    right_recover server = (
      λ test. subst (λ n. IsNextLine s.lines (Recover n server)) h.entered
          (subst (λ (lines : List ScriptLine). IsNextLine lines (Recover k.entered server)) (sym left)
          (recovery_line (lines_left k script) k.entered server test)),
      λ may. line_recovery (lines_left k script) k.entered server
          (subst (λ (lines : List ScriptLine). IsNextLine lines (Recover k.entered server)) left
          (subst (λ n. IsNextLine s.lines (Recover n server)) (sym h.entered) may)),
    )

    -- ---- propagate

    servers_is : k.ring.servers ≡ servers c
    servers_is = ap (λ ring. ring.servers) h.ring

    off : (b : Bool) → not b ≡ true → b ≡ false
    off true isnt = absurd (true≢false (sym isnt))
    off false isnt = refl

    no_message : list_any (has_such (λ (m : MessageOfMachine). true)) k.messages ≡ true →
        ((origin : ℕ) → s.message origin ≡ None) → ⊥
    no_message any none_there =
        let found = any_item (λ (m : MessageOfMachine). true) k.messages any in
        let said = said_message c s k h found.0 found.1 found.2 in
        none-some said.0 (sym (none_there found.0) ∙ said.1)

    pub none_said : not (list_any (has_such (λ (m : MessageOfMachine). true)) k.messages) ≡ true → (origin : ℕ) →
        s.message origin ≡ None
    none_said isnt origin = elim (s.message origin) as (λ o. s.message origin ≡ o → o ≡ None) [
      | None ↦ λ e. refl
      | Some m ↦ λ e.
          let one = kept_message c s k h origin m e in
          absurd (not_both (list_any (has_such (λ (n : MessageOfMachine). true)) k.messages) isnt
          (item_any (λ (n : MessageOfMachine). true) k.messages origin one.0 one.1 refl))
    ] refl

    pub no_gap : all_below k.ring.servers (λ link. not (has k.gaps link)) ≡ true → (link : ℕ) → link < servers c →
        s.gap link ≡ false
    no_gap all link below =
        let isnt = each_below k.ring.servers (λ l. not (has k.gaps l)) all link (let n = servers_is in omega arith) in
        sym (h.gaps link below) ∙ off (has k.gaps link) isnt

    all_up : all_below k.ring.servers (is_live k.down) ≡ true → (server : ℕ) → server < servers c → s.up server ≡ true
    all_up all server below = h.up server below ∙ each_below k.ring.servers (is_live k.down) all server
        (let n = servers_is in omega arith)

    stalled_said : is_stalled k ≡ true → IsStalled c s
    stalled_said test =
        let outer = and_parts (not (list_any (has_such (λ (m : MessageOfMachine). true)) k.messages)
        && all_below k.ring.servers (λ link. not (has k.gaps link)))
        (list_any (has_such (λ (w : WithheldOfMachine). true)) k.buffer) test in
        let inner = and_parts (not (list_any (has_such (λ (m : MessageOfMachine). true)) k.messages))
        (all_below k.ring.servers (λ link. not (has k.gaps link))) outer.0 in
        let found = any_item (λ (w : WithheldOfMachine). true) k.buffer outer.1 in
        let said = said_withheld found.0 (s.withheld found.0) (slot_at k.buffer found.0) found.1
        (h.buffer found.0) found.2 in
        record {
          messages = none_said inner.0;
          gaps = no_gap inner.1;
          packet = found.0;
          withheld = λ none_there. none-some said.0 (sym none_there ∙ said.1);
        }

    said_stalled : IsStalled c s → is_stalled k ≡ true
    said_stalled stalled =
        let there = some_withheld (s.withheld stalled.packet) stalled.withheld in
        let one = kept_withheld stalled.packet (s.withheld stalled.packet) (slot_at k.buffer stalled.packet) there.0
        (h.buffer stalled.packet) there.1 in
        and_from (not (list_any (has_such (λ (m : MessageOfMachine). true)) k.messages)
        && all_below k.ring.servers (λ link. not (has k.gaps link)))
        (list_any (has_such (λ (w : WithheldOfMachine). true)) k.buffer)
        (and_from (not (list_any (has_such (λ (m : MessageOfMachine). true)) k.messages))
        (all_below k.ring.servers (λ link. not (has k.gaps link)))
        (not_from_never (list_any (has_such (λ (m : MessageOfMachine). true)) k.messages)
        (λ any. no_message any stalled.messages))
        (below_each k.ring.servers (λ link. not (has k.gaps link))
        (λ link below. ap not (let less : link < servers c = (let n = servers_is in omega arith) in
        h.gaps link less ∙ stalled.gaps link less))))
        (item_any (λ (w : WithheldOfMachine). true) k.buffer stalled.packet one.0 one.1 refl)
      where
        some_withheld : (o : Option Withheld) → o ≢ None → (w : Withheld) × (o ≡ Some w)
        some_withheld None isnt = absurd (isnt refl)
        some_withheld (Some w) isnt = (w, refl)

    abbrev begun_test : MessageOfMachine → Bool
    begun_test m = is_begun m.place

    pub right_propagate : (origin : ℕ) →
        (may_propagate k packets origin ≡ true) ↔ MayHappen c s (event.Propagate origin)
    right_propagate origin = (
      λ test.
          let p4 = and_parts (k.entered == packets && all_below k.ring.servers (is_live k.down)
          && not (list_any (has_such begun_test) k.messages) && (is_some_list k.forwarder || is_stalled k))
          (origin == packets + k.propagates) test in
          let p3 = and_parts (k.entered == packets && all_below k.ring.servers (is_live k.down)
          && not (list_any (has_such begun_test) k.messages)) (is_some_list k.forwarder || is_stalled k) p4.0 in
          let p2 = and_parts (k.entered == packets
          && all_below k.ring.servers (is_live k.down)) (not (list_any (has_such begun_test) k.messages)) p3.0 in
          let p1 = and_parts (k.entered == packets) (all_below k.ring.servers (is_live k.down)) p2.0 in
          let all_in : k.entered ≡ packets = eqb-true k.entered packets p1.0 in
          let number : origin ≡ packets + k.propagates = eqb-true origin (packets + k.propagates) p4.1 in
          let n1 = given.counted in let n2 = h.entered in let n3 = h.propagates in (
            omega arith,
            all_up p1.1,
            (λ other message there visited at.
                let one = kept_message c s k h other message there in
                not_both (list_any (has_such begun_test) k.messages) p2.1
                (item_any begun_test k.messages other one.0 one.1
                (begun_kept c.partitions s.trace _ message.known message.place one.0.place visited one.2.place
                at))),
            elim (or_cases (is_some_list k.forwarder) (is_stalled k) p3.1) [
              | inl some ↦ let found = some_name k.forwarder some in
                  inl (found.0, found.1, sym (h.forwarder found.0 found.1) ∙ found.2)
              | inr stalled ↦ inr (stalled_said stalled)
            ],
            omega arith,
          ),
      λ may.
          let n1 = given.counted in let n2 = h.entered in let n3 = h.propagates in
          let m0 : s.entered ≡ count c = may.0 in let m4 : origin ≡ count c + s.propagates = may.4 in
          and_from (k.entered == packets && all_below k.ring.servers (is_live k.down)
          && not (list_any (has_such begun_test) k.messages) && (is_some_list k.forwarder || is_stalled k))
          (origin == packets + k.propagates)
          (and_from (k.entered == packets && all_below k.ring.servers (is_live k.down)
          && not (list_any (has_such begun_test) k.messages)) (is_some_list k.forwarder || is_stalled k)
          (and_from (k.entered == packets
          && all_below k.ring.servers (is_live k.down)) (not (list_any (has_such begun_test) k.messages))
          (and_from (k.entered == packets) (all_below k.ring.servers (is_live k.down))
          (eq-eqb k.entered packets (omega arith))
          (below_each k.ring.servers (is_live k.down)
          (λ server below. let less : server < servers c = (let n = servers_is in omega arith) in
          sym (h.up server less) ∙ may.1 server less)))
          (not_from_never (list_any (has_such begun_test) k.messages) (λ any.
          let found = any_item begun_test k.messages any in
          let said = said_message c s k h found.0 found.1 found.2 in
          let at = begun_said c.partitions s.trace _ said.0.known said.0.place found.1.place said.2.place found.3 in
          may.2 found.0 said.0 said.1 at.0 at.1)))
          (elim may.3 [
            | inl log ↦ or_left (is_some_list k.forwarder) (is_stalled k)
                (name_some k.forwarder log.0 log.1 (h.forwarder log.0 log.1 ∙ log.2))
            | inr stalled ↦ or_right (is_some_list k.forwarder) (is_stalled k) (said_stalled stalled)
          ]))
          (eq-eqb origin (packets + k.propagates) (omega arith)),
    )

  servers_same : k.ring.servers ≡ servers c
  servers_same = ap (λ ring. ring.servers) h.ring

  pub right_pull : (link : ℕ) → (may_pull k link ≡ true) ↔ MayHappen c s (event.Pull link)
  right_pull link = (
    λ test.
        let p3 = and_parts (nat_lt link k.ring.servers && is_live k.down link
        && is_live k.down (next_of k.ring.servers link)) (has k.gaps link) test in
        let p2 = and_parts (nat_lt link k.ring.servers
        && is_live k.down link) (is_live k.down (next_of k.ring.servers link)) p3.0 in
        let p1 = and_parts (nat_lt link k.ring.servers) (is_live k.down link) p2.0 in
        let below : link < servers c = let less = ltb-true link k.ring.servers p1.0 in let n =
        servers_same in omega arith in (
          h.up link below ∙ p1.1,
          h.up (next_of (servers c) link) (next_less below) ∙ subst (λ n. is_live k.down (next_of n link)
              ≡ true) servers_same p2.1,
          sym (h.gaps link below) ∙ p3.1,
        ),
    λ may.
        let below : link < servers c = r.order.inside link may.0 in
        and_from (nat_lt link k.ring.servers && is_live k.down link && is_live k.down (next_of k.ring.servers link))
        (has k.gaps link)
        (and_from (nat_lt link k.ring.servers && is_live k.down link) (is_live k.down (next_of k.ring.servers link))
        (and_from (nat_lt link k.ring.servers) (is_live k.down link)
        (lt-ltb link k.ring.servers (let n = servers_same in omega arith)) (sym (h.up link below) ∙ may.0))
        (subst (λ n. is_live k.down (next_of n link) ≡ true) (sym servers_same)
        (sym (h.up (next_of (servers c) link) (next_less below)) ∙ may.1)))
        (h.gaps link below ∙ may.2),
  )
    where
      next_less : link < servers c → next_of (servers c) link < servers c
      next_less below = elim (cases_eq (link + 1) (servers c)) [
        | inl last ↦ let z : next_of (servers c) link ≡ 0 =
            ap (λ b. if b then 0 else link + 1) (eq-eqb (link + 1) (servers c) last) in omega arith
        | inr other ↦ let z : next_of (servers c) link ≡ link + 1 =
            ap (λ b. if b then 0 else link + 1) (ne_eqb (link + 1) (servers c) other) in omega arith
      ]
