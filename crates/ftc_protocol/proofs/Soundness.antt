-- What holds at every moment, from what each event keeps.
use Rattle.std.proofs.Common.{◌≡◌, ℕ, ◌+◌, ◌<◌, ◌==◌, true, false, List, [], ◌∷◌, ◌++◌, inl, inr, refl, sym, ap, subst}
use Rattle.std.proofs.Common.{◌∙◌, arith, Option, Some, None, length, leb-true, eqb-true}
use Rattle.std.specs.Prelude.{option_map, option_and_then}
use Rattle.std.proofs.lemmas.Bool.{true≢false, cases_lt, cases_eq}
use Rattle.ftc_base.specs.declared.released.Released.{Released}
use Rattle.ftc_ring.specs.Ring.{apart, IsRing}
use Rattle.ftc_journal.specs.declared.event.Event.{Event}
use Rattle.ftc_mbox.specs.declared.rule.Rule.{Rule}
use Rattle.ftc_serial.specs.declared.step.Step.{Step}
use Rattle.ftc_serial.specs.Words.{AnyOf}
use Rattle.ftc_serial.specs.Serial.{State, Entry, Visited, Given, after, serial_step, serial_run, serial_opening}
use Rattle.ftc_serial.specs.Entries.{step_of}
use Rattle.ftc_serial.proofs.Functions.{with_at_cases}
use Rattle.ftc_protocol.specs.Setting.{Setting, servers, shape}
use Rattle.ftc_protocol.specs.Trace.{IsSomeVisit, Has, lacked_by}
use Rattle.ftc_protocol.specs.State.{ChainState, opening}
use Rattle.ftc_protocol.specs.Run.{AreLegal, state_after}
use Rattle.ftc_protocol.specs.Moment.{first_live, has_fallen, trace_now, steps_in, released_in, IsEverywhere, IsSound}
use Rattle.ftc_protocol.proofs.Places.{placed, Waits, Passed, Released as Gone, place_after, IsSerial, serial_of}
use Rattle.ftc_protocol.proofs.Places.{legal_entry, opening_waits, opening_passed}
use Rattle.ftc_protocol.proofs.RingDistances.{apart_cases}
use Rattle.ftc_protocol.proofs.Premises.{AreFit, IsGood}
use Rattle.ftc_protocol.proofs.FirstLive.{IsFirst, first_by, first_there}
use Rattle.ftc_protocol.proofs.StandingVisits.{IsFallen}
use Rattle.ftc_protocol.proofs.EarlierVisits.{waits_past}
use Rattle.ftc_protocol.proofs.UndoneList.{up_to_says, up_to_has, lacked_says, lacked_has}
use Rattle.ftc_protocol.proofs.HavingVisits.{has_stable}
use Rattle.ftc_protocol.proofs.Invariant.{Inv, IsSafe, knows_safe}
use Rattle.ftc_protocol.proofs.TraceNow as moments
use Rattle.ftc_protocol.proofs.Induction.{always}

-- a run with one step more
run_more : (rules : List Rule) (steps : List Step) (start reached : State) (step : Step) →
    serial_run rules start steps ≡ Some reached →
    serial_run rules start (steps ++ step ∷ []) ≡ serial_step rules reached step
run_more rules [] start reached step run =
    let here : start ≡ reached = cc in
    last (serial_step rules start step) ∙ ap (λ (s : State). serial_step rules s step) here
  where
    last : (o : Option State) → option_and_then (λ next. serial_run rules next []) o ≡ o
    last None = refl
    last (Some next) = refl
run_more rules (first ∷ steps) start reached step run =
    elim (serial_step rules start first) as (λ o. option_and_then (λ next. serial_run rules next steps) o
    ≡ Some reached → option_and_then (λ next. serial_run rules next (steps ++ step ∷ [])) o
    ≡ serial_step rules reached step) [
      | None ↦ λ e. absurd (cc)
      | Some next ↦ λ e. run_more rules steps next reached step e
    ] run

-- a trace that is serial is a serial run by its steps
pub serial_runs : (c : Setting) (trace : List Entry) → IsSerial c trace →
    serial_run c.rules (serial_opening c.packets) (steps_in trace) ≡ Some (serial_of c trace)
serial_runs c [] is = refl
serial_runs c (entry ∷ older) is =
    run_more c.rules (steps_in older) (serial_opening c.packets) (serial_of c older) (step_of entry)
    (serial_runs c older is.1)
    ∙ ap (option_map (after (length c.rules) (serial_of c older))) (legal_entry c (serial_of c older) entry is.0)

pub records_are : (c : Setting) (trace : List Entry) → (serial_of c trace).released ≡ released_in trace
records_are c [] = refl
records_are c (Visited server packet outcome ∷ older) = records_are c older
records_are c (Given packet bytes ∷ older) =
    ap (λ (records : List Released). records ++ record { packet = packet; bytes = bytes } ∷ []) (records_are c older)

-- a packet has visited every middlebox before the one it waits for, and all where it has passed all
module _ (c : Setting) where
  pub visited_before : (trace : List Entry) → IsSerial c trace → (p k : ℕ) (bytes : List ℕ) →
      (serial_of c trace).place p ≡ Waits k bytes → (j : ℕ) → j < k → IsSomeVisit trace j p
  visited_before [] is p k bytes waits j less = let first : 0 ≡ k = opening_waits _ k bytes waits in
      absurd (omega arith)
  visited_before (Given q b ∷ older) is p k bytes waits j less =
      with_at_cases (λ v. v ≡ Waits k bytes →
      IsSomeVisit (Given q b ∷ older) j p) (serial_of c older).place q Gone p (λ e w. absurd (cc))
      (λ ne w. inr (visited_before older is.1 p k bytes w j less)) waits
  visited_before (Visited i q o ∷ older) is p k bytes waits j less =
      with_at_cases (λ v. v ≡ Waits k bytes → IsSomeVisit (Visited i q o ∷ older) j p) (serial_of c older).place q _ p
      (λ e w. let next : k ≡ i + 1 = waits_past (servers c) k i bytes o.packet w in
      elim (cases_eq j i) [
        | inl same ↦ inl (sym same, sym e, tt)
        | inr other ↦ inr (visited_before older is.1 p i is.0.0
            (subst (λ x. (serial_of c older).place x ≡ Waits i is.0.0) (sym e) is.0.1) j (omega arith))
      ])
      (λ ne w. inr (visited_before older is.1 p k bytes w j less))
      waits

  last_of : (i : ℕ) (packet : Option (List ℕ)) (bytes : List ℕ) → place_after (servers c) i packet ≡ Passed bytes →
      i + 1 ≡ servers c
  last_of i None bytes is = absurd (cc)
  last_of i (Some b) bytes is =
      elim (i + 1 == servers c) as (λ t. i + 1 == servers c ≡ t → placed t i b ≡ Passed bytes → i + 1 ≡ servers c) [
        | true ↦ λ e w. eqb-true (i + 1) (servers c) e
        | false ↦ λ e w. absurd (cc)
      ] refl is

  pub visited_all : (trace : List Entry) → IsSerial c trace → (p : ℕ) (bytes : List ℕ) →
      (serial_of c trace).place p ≡ Passed bytes → (j : ℕ) → j < servers c → IsSomeVisit trace j p
  visited_all [] is p bytes passed j less = absurd (opening_passed _ bytes passed)
  visited_all (Given q b ∷ older) is p bytes passed j less =
      with_at_cases (λ v. v ≡ Passed bytes →
      IsSomeVisit (Given q b ∷ older) j p) (serial_of c older).place q Gone p (λ e w. absurd (cc))
      (λ ne w. inr (visited_all older is.1 p bytes w j less)) passed
  visited_all (Visited i q o ∷ older) is p bytes passed j less =
      with_at_cases (λ v. v ≡ Passed bytes → IsSomeVisit (Visited i q o ∷ older) j p) (serial_of c older).place q _ p
      (λ e w. let last : i + 1 ≡ servers c = last_of i o.packet bytes w in
      elim (cases_eq j i) [
        | inl same ↦ inl (sym same, sym e, tt)
        | inr other ↦ inr (visited_before older is.1 p i is.0.0
            (subst (λ x. (serial_of c older).place x ≡ Waits i is.0.0) (sym e) is.0.1) j (omega arith))
      ])
      (λ ne w. inr (visited_all older is.1 p bytes w j less))
      passed

  pub given_all : (trace : List Entry) → IsSerial c trace → (p : ℕ) (bytes : List ℕ) →
      AnyOf (λ e. e ≡ Given p bytes) trace → (j : ℕ) → j < servers c → IsSomeVisit trace j p
  given_all [] is p bytes a j less = absurd a
  given_all (Visited i q o ∷ older) is p bytes a j less =
      elim a [ inl here ↦ absurd (cc) | inr there ↦ inr (given_all older is.1 p bytes there j less) ]
  given_all (Given q b ∷ older) is p bytes a j less = elim a [
    | inl here ↦ let same : q ≡ p =
        cc in inr (visited_all older is.1 p b (subst (λ x. (serial_of c older).place x ≡ Passed b) same is.0) j less)
    | inr there ↦ inr (given_all older is.1 p bytes there j less)
  ]

module _ (c : Setting) (good : IsGood c) (ring : IsRing (shape c)) (s : ChainState) (h : Inv c s) where
  -- the test says which visits have fallen
  pub fallen_exact : IsFallen c s (has_fallen c s)
  fallen_exact j p there = (
    λ fell standing.
        let found = up_to_says (λ i. lacked_by c.partitions s.trace (s.lists (first_live c s i)) i p) j fell in
        let i = found.0 in
        let lacks = lacked_says c s.trace (s.lists (first_live c s i)) i p h.world.serial found.2 in
        let il : i < servers c = moments.below c good ring s h _ i p lacks.0 in
        lacks.1 (standing i (first_live c s i) found.1 lacks.0
        (first_there c s ring (moments.admissible c good ring s h) i il)),
    λ fell. elim (has_fallen c s j p) as (λ b. has_fallen c s j p ≡ b → has_fallen c s j p ≡ true) [
      | true ↦ λ is. is
      | false ↦ λ isnt. absurd (fell (λ i k le touching first. has_stable c.partitions s.trace (s.lists k) i p (λ lacks.
          let il : i < servers c = moments.below c good ring s h _ i p touching in
          let own = first_there c s ring (moments.admissible c good ring s h) i il in
          let same : first_live c s i ≡ k = only i il (first_live c s i) k own first in
          true≢false (sym (up_to_has (λ i. lacked_by c.partitions s.trace (s.lists (first_live c s i)) i p) j i le
          (lacked_has c s.trace (s.lists (first_live c s i)) i p h.world.serial touching
          (subst (λ x. Has c.partitions s.trace (s.lists x) i p → ⊥) (sym same) lacks))) ∙ isnt))))
    ] refl,
  )
    where
      only : (i : ℕ) → i < servers c → (a b : ℕ) → IsFirst c s i a → IsFirst c s i b → a ≡ b
      only i il a b fa fb =
          let ia = apart_cases (servers c) i a il fa.inside in
          let ib = apart_cases (servers c) i b il fb.inside in
          elim (cases_lt (apart (servers c) i a) (apart (servers c) i b)) [
            | inl less ↦ absurd (true≢false (sym fa.up ∙ fb.first a fa.inside less))
            | inr more ↦ elim (cases_lt (apart (servers c) i b) (apart (servers c) i a)) [
              | inl less ↦ absurd (true≢false (sym fb.up ∙ fa.first b fb.inside less))
              | inr same ↦ omega arith
            ]
          ]

  everywhere : (j p : ℕ) → IsSafe c s.trace s.up s.lists j p → IsEverywhere c s j p
  everywhere j p safe =
      let jl = moments.below c good ring s h _ j p safe.changing in
      record {
        changing = safe.changing;
        had = λ k kl live member. let jk = apart_cases (servers c) j k jl kl in
            (safe.within k kl live (leb-true _ _ member) (omega arith)).changing safe.changing;
      }

  pub sound_now : IsSound c s
  sound_now =
      let out = moments.out c good ring s h (has_fallen c s) fallen_exact in
      record {
        end = serial_of c (trace_now c s);
        serial = serial_runs c (trace_now c s) out.0;
        released = sym out.1.released ∙ records_are c s.trace;
        first = λ j k jl is. moments.first_store c good ring s h (has_fallen c s) fallen_exact j k jl
            (first_by c s j k is);
        nested = λ j i k p il live le is. h.world.nest.nested j i k p il live le is;
        closed = λ k j p q is before. h.world.lists.closed k j p q is before;
        earlier = λ i j k m p less touching is first. moments.first_earlier c good ring s h i j k m p
            (omega arith) touching is (first_by c s i m first);
        known = λ k j p is. everywhere j p (knows_safe c s h k j p is);
        carried = λ o j p m at is. everywhere j p ((h.messages o m at).told j p is);
        known_had = λ k x j p has xl live member. record {
          changing = λ changing. (everywhere j p (knows_safe c s h k j p (has.changing changing))).had x xl live member;
          other = λ not_changing q before.
              (everywhere j q (knows_safe c s h k j q (has.other not_changing q before))).had x xl live member;
        };
        whole = λ p j bytes given jl.
            let there = given_all c s.trace h.world.serial p bytes given j jl in
            record {
              there = there;
              standing = moments.upright c good ring s h (has_fallen c s) fallen_exact j p there
                  (λ i k le touching first.
                  let il = moments.below c good ring s h _ i p touching in let ik =
                  apart_cases (servers c) i k il first.inside in
                  h.world.released p bytes given i touching k first.inside first.up (leb-true _ _ first.member)
                  (omega arith));
            };
        logs = λ o j p m at is. ((h.messages o m at).carried.member j p is).2;
      }

pub sound : (c : Setting) → IsGood c → IsRing (shape c) → AreFit c (opening c).up c.lines → (journal : List Event) →
    AreLegal c (opening c) journal → IsSound c (state_after c (opening c) journal)
sound c good ring fit journal legal =
    sound_now c good ring (state_after c (opening c) journal) (always c good fit journal legal)
