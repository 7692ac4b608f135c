-- In a run of packets of bytes, each packet that waits and each value that is kept is of bytes.
use Rattle.std.proofs.Common.{◌≡◌, ◌==◌, refl, sym, subst, ℕ, zero, suc, ◌+◌, Bool, true, false, cond, List, [], ◌∷◌}
use Rattle.std.proofs.Common.{◌++◌, length, Option, Some, None, arith}
use Rattle.std.specs.Prelude.{slice_get, option_map, if◌then◌else◌}
use Rattle.std.specs.List.{AllByRecursion}
use Rattle.std.specs.Ordering.{nat_cmp, eq_by_cmp}
use Rattle.std.specs.Cmp.Lexicographic.{slice_cmp}
use Rattle.std.specs.FinMap.{get, get-insert, get-remove, get-empty}
use Rattle.std.proofs.lemmas.Cmp.{nat_list_cmp_total}
use Rattle.ftc_base.specs.declared.ask.Answer.{Answer}
use Rattle.ftc_base.specs.declared.ask.Ask.{Ask}
use Rattle.ftc_base.specs.declared.ask.Ask.TheVariants.{Read, Finish}
use Rattle.ftc_base.specs.declared.ask.Change.{Change}
use Rattle.ftc_base.specs.declared.ask.Change.TheVariants.{Keep, Source, Destination}
use Rattle.ftc_base.specs.declared.ask.Verdict.{Verdict}
use Rattle.ftc_base.specs.declared.ask.Verdict.TheVariants.{Forward, Filter}
use Rattle.ftc_base.specs.declared.ask.Write.{Write}
use Rattle.ftc_base.proofs.EachOf.{all_push}
use Rattle.ftc_packet.specs.Layout.{AreBytes}
use Rattle.ftc_store.specs.Store.{Content, changed, written}
use Rattle.ftc_mbox.specs.declared.rule.Rule.{Rule}
use Rattle.ftc_mbox.specs.Bounds.{IsRule}
use Rattle.ftc_mbox.specs.Ask.{ask}
use Rattle.ftc_mbox.specs.Change.{changed_packet, packet_after}
use Rattle.ftc_serial.specs.declared.position.Position.{Position}
use Rattle.ftc_serial.specs.declared.position.Position.TheVariants as position
use Rattle.ftc_serial.specs.declared.step.Step.{Step}
use Rattle.ftc_serial.specs.declared.visit.Asked.{Asked}
use Rattle.ftc_serial.specs.Take.{Outcome, asked_from, asked, answer_at, ended, stopped, taken}
use Rattle.ftc_serial.specs.Serial.{State, Entry, Visited, Given, serial_opening, entry_of, position_after, after}
use Rattle.ftc_serial.specs.Entries.{IsRightEntry}
use Rattle.ftc_serial.proofs.Functions.{with_at_cases}
use Rattle.ftc_serial.proofs.Legal.{IsVisitLegal, visit_legal, told_legal}
use Rattle.ftc_audit.specs.Visits.{Seen, AreOfBytes, waiting_bytes, seen_at, visits}
use Rattle.ftc_audit.proofs.Bytes.{FitsChange, FitsVerdict, FitsAsk, IsValue, AreValues, AreAnswers, ask_fits, end_set}

-- ---- one visit

abbrev IsKept : Content → Type 0
IsKept content = (key : List ℕ) → IsValue (get content key)

abbrev Fits : Asked → Type 0
Fits told = FitsVerdict told.end.verdict × AreValues told.end.writes.items

asked_fits : (rule : Rule) → IsRule rule → (packet : List ℕ) → AreBytes packet → (content : Content) → IsKept content
    → (left : ℕ) (answers : List Answer) → AreAnswers answers → Fits (asked_from rule packet content left answers)
unfolding asked_from
asked_fits rule is packet bytes content kept zero answers are =
    elim (ask rule packet answers) as (λ (a : Ask). FitsAsk a → Fits (stopped answers a)) [
      | Read key change ↦ λ _. (tt, tt)
      | Finish end ↦ λ fits. fits
    ] (ask_fits rule is packet bytes answers are)
asked_fits rule is packet bytes content kept (suc left) answers are =
    elim (ask rule packet answers) as (λ (a : Ask). FitsAsk a → Fits (elim a as (λ (o : Ask). Asked) [
      | Read key change ↦ asked_from rule packet content left (answers ++ answer_at content key ∷ [])
      | Finish end ↦ ended answers end
    ])) [
      | Read key change ↦ λ _. asked_fits rule is packet bytes content kept left (answers ++ answer_at content key ∷ [])
          (all_push (λ (answer : Answer). IsValue answer.value) answers (answer_at content key) are (kept key))
      | Finish end ↦ λ fits. fits
    ] (ask_fits rule is packet bytes answers are)

told_fits : (rule : Rule) → IsRule rule → (packet : List ℕ) → AreBytes packet → (content : Content) → IsKept content
    → Fits (asked rule packet content)
unfolding asked
told_fits rule is packet bytes content kept = asked_fits rule is packet bytes content kept 8 [] tt

changed_fits : (packet : List ℕ) (change : Change) → AreBytes packet → FitsChange change
    → AreBytes (changed_packet packet change)
changed_fits packet Keep bytes fits = bytes
changed_fits packet (Source address port) bytes fits = end_set packet _ address port fits.0 fits.1 bytes
changed_fits packet (Destination address port) bytes fits = end_set packet _ address port fits.0 fits.1 bytes

after_fits : (packet : List ℕ) (verdict : Verdict) → AreBytes packet → FitsVerdict verdict
    → IsValue (packet_after packet verdict)
after_fits packet (Forward change) bytes fits = changed_fits packet change bytes fits
after_fits packet Filter bytes fits = tt

packet_fits : (rule : Rule) → IsRule rule → (packet : List ℕ) → AreBytes packet → (content : Content) → IsKept content
    → IsValue (taken rule packet content).packet
packet_fits rule is packet bytes content kept =
    after_fits packet (asked rule packet content).end.verdict bytes (told_fits rule is packet bytes content kept).0

cond_value : (same : Bool) (one other : Option (List ℕ)) → IsValue one → IsValue other → IsValue (cond same one other)
cond_value true one other is also = is
cond_value false one other is also = also

changed_kept : (content : Content) (key : List ℕ) (value : Option (List ℕ)) → IsValue value → IsKept content
    → IsKept (changed content key value)
changed_kept content key None is kept = λ q. subst IsValue (sym (get-remove nat_list_cmp_total content key q))
    (cond_value (eq_by_cmp (slice_cmp nat_cmp) q key) None (get content q) tt (kept q))
changed_kept content key (Some value) is kept = λ q. subst IsValue (sym
    (get-insert nat_list_cmp_total content key value q))
    (cond_value (eq_by_cmp (slice_cmp nat_cmp) q key) (Some value) (get content q) is (kept q))

written_kept : (writes : List Write) (content : Content) → AreValues writes → IsKept content
    → IsKept (written writes content)
written_kept [] content are kept = kept
written_kept (write ∷ writes) content are kept = written_kept writes _ are.1
    (changed_kept content write.key write.value are.0 kept)

content_fits : (rule : Rule) → IsRule rule → (packet : List ℕ) → AreBytes packet → (content : Content) → IsKept content
    → IsKept (written (taken rule packet content).writes content)
content_fits rule is packet bytes content kept = written_kept _ content
    (told_fits rule is packet bytes content kept).1 kept

-- ---- a run

abbrev IsPlace : Option Position → Type 0
IsPlace place = AreBytes (waiting_bytes place)

record IsState (state : State) : Type 0 where
  pub kept : (server : ℕ) → IsKept (state.maps server)
  pub places : (packet : ℕ) → IsPlace (state.place packet)

no_bytes : AreBytes []
no_bytes = λ k. omega arith

pub rule_at : (rules : List Rule) (server : ℕ) (rule : Rule) → AllByRecursion IsRule rules
    → slice_get rules server ≡ Some rule → IsRule rule
rule_at [] server rule all there = cc
rule_at (r ∷ rules) zero rule all there = let same : r ≡ rule = cc in subst IsRule same all.0
rule_at (r ∷ rules) (suc server) rule all there = rule_at rules server rule all.1 there

position_fits : (servers server : ℕ) (packet : Option (List ℕ)) → IsValue packet
    → IsPlace (Some (position_after servers server packet))
position_fits servers server None is = no_bytes
position_fits servers server (Some bytes) is =
    elim (server + 1 == servers) as (λ t. IsPlace (Some (if t then position.Passed bytes else position.Waiting
    (server + 1) bytes))) [
      | true ↦ no_bytes
      | false ↦ is
    ]

module _ (rules : List Rule) (all : AllByRecursion IsRule rules) where
  waiting_fits : (state : State) (server packet : ℕ) (outcome : Outcome)
      (legal : IsVisitLegal rules state server packet outcome) → IsState state → AreBytes legal.bytes
  waiting_fits state server packet outcome legal is = subst IsPlace legal.waits (is.places packet)

  state_on : (state : State) (entry : Entry) → IsRightEntry rules state entry → IsState state
      → IsState (after (length rules) state entry)
  state_on state (Visited server packet outcome) fair is =
      let legal = visit_legal rules state server packet outcome fair in
      let rule = rule_at rules server legal.rule all legal.known in
      let bytes = waiting_fits state server packet outcome legal is in
      let content = state.maps server in
      record {
        kept = λ other. with_at_cases IsKept state.maps server (written outcome.writes content) other
            (λ _. subst (λ (o : Outcome). IsKept (written o.writes content)) (sym legal.is)
            (content_fits legal.rule rule legal.bytes bytes content (is.kept server)))
            (λ _. is.kept other);
        places = λ other. with_at_cases IsPlace state.place packet (Some (position_after
            (length rules) server outcome.packet)) other
            (λ _. position_fits (length rules) server outcome.packet
            (subst (λ (o : Outcome). IsValue o.packet) (sym legal.is)
            (packet_fits legal.rule rule legal.bytes bytes content (is.kept server))))
            (λ _. is.places other);
      }
  state_on state (Given packet bytes) fair is = record {
    kept = is.kept;
    places = λ other. with_at_cases IsPlace state.place packet (Some position.Released) other (λ _. no_bytes)
        (λ _. is.places other);
  }

  seen_fits : (state : State) (entry : Entry) → IsState state → AreOfBytes (seen_at state entry)
  seen_fits state (Visited server packet outcome) is = (is.places packet, tt)
  seen_fits state (Given packet bytes) is = tt

  both_fit : (one other : List Seen) → AreOfBytes one → AreOfBytes other → AreOfBytes (one ++ other)
  both_fit [] other are also = also
  both_fit (seen ∷ one) other are also = (are.0, both_fit one other are.1 also)

  run_fits : (state : State) (steps : List Step) → IsState state → AreOfBytes (visits rules state steps)
  run_fits state [] is = tt
  run_fits state (step ∷ steps) is =
      elim (entry_of rules state step) as (λ (told : Option Entry). entry_of rules state step ≡ told
      → AreOfBytes (elim told as (λ (o : Option Entry). List Seen) [
        | None ↦ []
        | Some entry ↦ seen_at state entry
            ++ visits rules (after (length rules) state entry) steps
      ])) [
        | None ↦ λ _. tt
        | Some entry ↦ λ told. both_fit (seen_at state entry) _ (seen_fits state entry is)
            (run_fits (after (length rules) state entry) steps (state_on state entry
            (told_legal rules state step entry told).0 is))
      ] refl

opening_place : (packets : List (List ℕ)) (packet : ℕ) → AllByRecursion AreBytes packets
    → IsPlace (option_map (position.Waiting 0) (slice_get packets packet))
opening_place [] packet all = no_bytes
opening_place (bytes ∷ packets) zero all = all.0
opening_place (bytes ∷ packets) (suc packet) all = opening_place packets packet all.1

opening_fits : (packets : List (List ℕ)) → AllByRecursion AreBytes packets → IsState (serial_opening packets)
opening_fits packets all = record {
  kept = λ server key. subst IsValue (sym (get-empty (slice_cmp nat_cmp) key)) tt;
  places = λ packet. opening_place packets packet all;
}

pub stay_bytes : (rules : List Rule) (packets : List (List ℕ)) (steps : List Step) → AllByRecursion IsRule rules
    → AllByRecursion AreBytes packets
    → AreOfBytes (visits rules (serial_opening packets) steps)
stay_bytes rules packets steps are bytes =
    run_fits rules are (serial_opening packets) steps (opening_fits packets bytes)
