-- The seven numbers as one.
use Rattle.std.proofs.Common.{append_assoc, append-nil, is_some, eqb-true}
use Rattle.std.proofs.Common.{◌≡◌, ◌≢◌, ℕ, zero, suc, ◌+◌, ◌-◌, ◌*◌, ◌<◌, ◌≤◌, ◌==◌, Bool, true, false, not, List}
use Rattle.std.proofs.Common.{[], ◌∷◌, ◌++◌, length, refl, sym, ap, subst, ◌∙◌, arith, inl, inr, Option, Some, None}
use Rattle.std.proofs.lemmas.Bool.{cases_eq}
use Rattle.ftc_journal.specs.declared.event.Event.{Event}
use Rattle.ftc_serial.specs.declared.position.Position.{Position}
use Rattle.ftc_serial.specs.declared.position.Position.TheVariants as position
use Rattle.ftc_serial.specs.Serial.{Entry, Visited, Given}
use Rattle.ftc_serial.proofs.Functions.{with_at_cases}
use Rattle.ftc_protocol.specs.Setting.{Setting, servers, count, IsSetting}
use Rattle.ftc_protocol.specs.State.{ChainState, Where, Held, Queued, Message, opening}
use Rattle.ftc_protocol.specs.Trace.{IsSomeVisit}
use Rattle.ftc_protocol.specs.Run.{IsRun, state_after}
use Rattle.ftc_protocol.specs.Measure.{sum_below, one_for, way_from, way_of, lacks, lacking, most_messages, measure}
use Rattle.ftc_protocol.specs.Measure.{IsBelow, most_of, AreAtMost, number_of, work_left}
use Rattle.ftc_protocol.proofs.Places.{IsSerial, serial_of, place_after, placed}
use Rattle.ftc_protocol.proofs.FewPropagates.{counted_on, opens_counted}
use Rattle.ftc_protocol.proofs.OrderlyStates.{licensed}
use Rattle.ftc_protocol.specs.Orderly.{lines_done}
use Rattle.ftc_script.specs.declared.line.ScriptLine.{ScriptLine}
use Rattle.ftc_protocol.proofs.MeasureFalls.{falls_on}
use Rattle.ftc_protocol.proofs.RunLists.{first_legal}

-- ---- digits

mul_more : (k a b : ℕ) → a ≤ b → a * k ≤ b * k
mul_more zero a b le = omega arith
mul_more (suc k) a b le = let rest = mul_more k a b le in omega arith

higher : (most high other x y : ℕ) → high < other → x ≤ most → high * (most + 1) + x < other * (most + 1) + y
higher most high other x y less le =
    let more : (high + 1) * (most + 1) ≤ other * (most + 1) = mul_more (most + 1) (high + 1) other (omega arith) in
    let split : (high + 1) * (most + 1) ≡ high * (most + 1) + (most + 1) = omega arith in
    omega arith

lower_rest : (mosts xs ys : List ℕ) (high other : ℕ) → AreAtMost mosts xs → AreAtMost mosts ys → high < other →
    number_of high mosts xs < number_of other mosts ys
lower_rest [] [] [] high other a b less = less
lower_rest [] [] (y ∷ ys) high other a b less = absurd b
lower_rest [] (x ∷ xs) ys high other a b less = absurd a
lower_rest (most ∷ mosts) [] ys high other a b less = absurd a
lower_rest (most ∷ mosts) (x ∷ xs) [] high other a b less = absurd b
lower_rest (most ∷ mosts) (x ∷ xs) (y ∷ ys) high other a b less =
    lower_rest mosts xs ys (high * (most + 1) + x) (other * (most + 1)
    + y) a.1 b.1 (higher most high other x y less a.0)

lower : (mosts xs ys : List ℕ) (high : ℕ) → AreAtMost mosts xs → AreAtMost mosts ys → IsBelow xs ys →
    number_of high mosts xs < number_of high mosts ys
lower [] [] ys high a b below = absurd below
lower [] (x ∷ xs) ys high a b below = absurd a
lower (most ∷ mosts) [] ys high a b below = absurd a
lower (most ∷ mosts) (x ∷ xs) [] high a b below = absurd b
lower (most ∷ mosts) (x ∷ xs) (y ∷ ys) high a b below = elim below [
  | inl less ↦ lower_rest mosts xs ys (high * (most + 1) + x) (high * (most + 1) + y) a.1 b.1 (omega arith)
  | inr same ↦ subst (λ v. number_of (high * (most + 1) + x) mosts xs < number_of (high * (most + 1)
      + v) mosts ys) same.0
      (lower mosts xs ys (high * (most + 1) + x) a.1 b.1 same.1)
]

-- ---- bounds of the numbers

sum_most : (n most : ℕ) (f : ℕ → ℕ) → ((k : ℕ) → f k ≤ most) → sum_below n f ≤ n * most
sum_most zero most f each = omega arith
sum_most (suc n) most f each =
    let rest = sum_most n most f each in let here = each n in
    let split : suc n * most ≡ n * most + most = omega arith in omega arith

one_most : (b : Bool) → one_for b ≤ 1
one_most true = omega arith
one_most false = omega arith

way_most : (n : ℕ) (o : Option Message) → way_of n o ≤ 3 * n + 2
way_most n None = omega arith
way_most n (Some m) = place m.place
  where
    unvisited : (b : Bool) → one_for (not b) ≤ 1
    unvisited true = omega arith
    unvisited false = omega arith

    place : (w : Where) → way_from n w ≤ 3 * n + 2
    place (Held k visited true) = omega arith
    place (Held k visited false) = let one_ = unvisited visited in omega arith
    place (Queued l) = omega arith

-- ---- how many visits there are

abbrev visits_of : List Entry → ℕ
visits_of [] = 0
visits_of (Visited k p o ∷ older) = visits_of older + 1
visits_of (Given p bytes ∷ older) = visits_of older

lacking_most : (c : Setting) (s : ChainState) (trace : List Entry) → lacking c s trace ≤ visits_of trace * servers c
lacking_most c s [] = omega arith
lacking_most c s (Given p bytes ∷ older) = let rest = lacking_most c s older in let none_ =
    no_sum (servers c) in omega arith
  where
    no_sum : (n : ℕ) → sum_below n (λ server. one_for (lacks c s (Given p bytes) server)) ≡ 0
    no_sum zero = refl
    no_sum (suc n) = let rest = no_sum n in omega arith
lacking_most c s (Visited k p o ∷ older) =
    let rest = lacking_most c s older in
    let here = sum_most (servers c) 1 (λ server. one_for (lacks c s (Visited k p o) server))
    (λ server. one_most (lacks c s (Visited k p o) server)) in
    let split : (visits_of older + 1) * servers c ≡ visits_of older * servers c + servers c = omega arith in
    let unit : servers c * 1 ≡ servers c = omega arith in
    omega arith

-- how far a packet has come
abbrev progress : ℕ → Option Position → ℕ
progress n None = 0
progress n (Some (position.Waiting k bytes)) = k
progress n (Some (position.Passed bytes)) = n
progress n (Some (position.Filtered k)) = k + 1
progress n (Some position.Released) = n

behind : (n k : ℕ) (packet : Option (List ℕ)) → progress n (place_after n k packet) ≡ k + 1
behind n k None = refl
behind n k (Some bytes) = elim (k + 1 == n) as (λ t. k + 1 == n ≡ t → progress n (placed t k bytes) ≡ k + 1) [
  | true ↦ λ e. sym (eqb-true (k + 1) n e)
  | false ↦ λ e. refl
] refl

started : (n : ℕ) (o : Option (List ℕ)) → progress n (Rattle.std.proofs.Common.option_map (position.Waiting 0) o) ≡ 0
started n None = refl
started n (Some bytes) = refl

far_most : (c : Setting) (trace : List Entry) → IsSerial c trace → (p : ℕ) →
    progress (servers c) ((serial_of c trace).place p) ≤ servers c
far_most c [] is p = let none_ = started (servers c) (Rattle.std.proofs.Common.slice_get c.packets p) in omega arith
far_most c (Given q bytes ∷ older) is p =
    with_at_cases (λ v. progress (servers c) v ≤ servers c) (serial_of c older).place q (Some position.Released) p
    (λ e. omega arith) (λ ne. far_most c older is.1 p)
far_most c (Visited k q o ∷ older) is p =
    with_at_cases (λ v. progress (servers c) v ≤ servers c) (serial_of c older).place q
    (place_after (servers c) k o.packet) p
    (λ e. let at = behind (servers c) k o.packet in let less : k < servers c = is.0.3 in
    omega arith) (λ ne. far_most c older is.1 p)

sum_same : (n : ℕ) (f g : ℕ → ℕ) → ((k : ℕ) → f k ≡ g k) → sum_below n f ≡ sum_below n g
sum_same zero f g same = refl
sum_same (suc n) f g same = let rest = sum_same n f g same in let here = same n in omega arith

sum_one_more : (n : ℕ) (f g : ℕ → ℕ) (p : ℕ) → p < n → g p ≡ f p + 1 → ((k : ℕ) → k ≢ p → g k ≡ f k) →
    sum_below n g ≡ sum_below n f + 1
sum_one_more zero f g p below here others = absurd (omega arith)
sum_one_more (suc n) f g p below here others = elim (cases_eq p n) [
  | inl last ↦
      let rest : sum_below n g ≡ sum_below n f = sum_upto n n (omega arith) in
      let at : g n ≡ f n + 1 = subst (λ x. g x ≡ f x + 1) last here in omega arith
  | inr other ↦
      let rest = sum_one_more n f g p (omega arith) here others in
      let at = others n (λ e. other (sym e)) in omega arith
]
  where
    sum_upto : (n top : ℕ) → n ≤ p → sum_below n g ≡ sum_below n f
    sum_upto zero top le = refl
    sum_upto (suc n) top le = let rest = sum_upto n top (omega arith) in let at =
        others n (λ e. absurd (omega arith)) in omega arith

visits_are : (c : Setting) (trace : List Entry) → IsSerial c trace → ((k p : ℕ) → IsSomeVisit trace k p → p < count c)
    → visits_of trace ≡ sum_below (count c) (λ p. progress (servers c) ((serial_of c trace).place p))
visits_are c [] is few = zeros (count c)
  where
    zeros : (n : ℕ) → 0 ≡ sum_below n
        (λ p. progress (servers c)
        (Rattle.std.proofs.Common.option_map (position.Waiting 0) (Rattle.std.proofs.Common.slice_get c.packets p)))
    zeros zero = refl
    zeros (suc n) = let rest = zeros n in let here =
        started (servers c) (Rattle.std.proofs.Common.slice_get c.packets n) in omega arith
visits_are c (Given q bytes ∷ older) is few =
    visits_are c older is.1 (λ k p there. few k p (inr there))
    ∙ sum_same (count c) (λ p. progress (servers c) ((serial_of c older).place p))
    (λ p. progress (servers c) ((serial_of c (Given q bytes ∷ older)).place p))
    (λ p. with_at_cases (λ v. progress (servers c) ((serial_of c older).place p) ≡ progress (servers c) v)
    (serial_of c older).place q (Some position.Released) p
    (λ e. ap (progress (servers c)) (ap (serial_of c older).place e ∙ is.0)) (λ ne. refl))
visits_are c (Visited k q o ∷ older) is few =
    let rest = visits_are c older is.1 (λ j p there. few j p (inr there)) in
    let below : q < count c = few k q (inl (refl, refl, tt)) in
    let more = sum_one_more (count c) (λ p. progress (servers c) ((serial_of c older).place p))
    (λ p. progress (servers c) ((serial_of c (Visited k q o ∷ older)).place p)) q below
    (with_at_cases (λ v. progress (servers c) v ≡ progress (servers c) ((serial_of c older).place q)
    + 1) (serial_of c older).place q (place_after (servers c) k o.packet) q
    (λ e. behind (servers c) k o.packet ∙ ap (λ v. v + 1) (sym (ap (progress (servers c)) is.0.1)))
    (λ ne. absurd (ne refl)))
    (λ p ne. with_at_cases (λ v. progress (servers c) v ≡ progress (servers c) ((serial_of c older).place p))
    (serial_of c older).place q (place_after (servers c) k o.packet) p (λ e. absurd (ne e)) (λ _. refl)) in
    omega arith

visits_most : (c : Setting) (trace : List Entry) → IsSerial c trace →
    ((k p : ℕ) → IsSomeVisit trace k p → p < count c) → visits_of trace ≤ servers c * count c
visits_most c trace is few =
    let same = visits_are c trace is few in
    let most = sum_most (count c) (servers c) (λ p. progress (servers c) ((serial_of c trace).place p))
    (far_most c trace is) in
    let turned : count c * servers c ≡ servers c * count c = omega arith in
    omega arith

pub at_most : (c : Setting) → IsSetting c → (journal : List Event) → IsRun c journal →
    AreAtMost (most_of c) (measure c (state_after c (opening c) journal))
at_most c is journal run =
    let s : ChainState = state_after c (opening c) journal in
    let counted = counted_on c is journal (opening c) (opens_counted c is) run in
    let inv = counted.reached.live.inv in
    let lined = licensed c journal (opening c) run in
    let bounded = counted.reached.live.timed.bounded in
    let visits = visits_most c s.trace inv.world.serial (λ k p there. let low = counted.shaped.visited k p there in
    omega arith) in
    let lacks_most = lacking_most c s s.trace in
    let more : visits_of s.trace * servers c ≤ (servers c * count c) * servers c =
    mul_more (servers c) (visits_of s.trace) (servers c * count c) visits in
    let gaps = sum_most (servers c) 1 (λ link. one_for (s.gap link)) (λ link. one_most (s.gap link)) in
    let held = sum_most (count c) 1 (λ packet. one_for (is_some (s.withheld packet)))
    (λ packet. one_most (is_some (s.withheld packet))) in
    let gap_unit : servers c * 1 ≡ servers c = omega arith in
    let held_unit : count c * 1 ≡ count c = omega arith in
    let few_lines = shorter c.lines (lines_done 0 journal) s.lines lined in
    let ways = sum_most (most_messages c) (3 * servers c + 2) (λ origin. way_of (servers c) (s.message origin))
    (λ origin. way_most (servers c) (s.message origin)) in
    (few_lines, (omega arith, (omega arith, (ways, (omega arith, (omega arith, (omega arith, tt)))))))
  where
    shorter : (all done left : List ScriptLine) → all ≡ done ++ left → length left ≤ length all
    shorter all [] left e = let same : length all ≡ length left = ap length e in omega arith
    shorter [] (x ∷ done) left e = absurd (cc)
    shorter (y ∷ all) (x ∷ done) left e = let rest = shorter all done left (cc) in omega arith

pub work_falls : (c : Setting) → IsSetting c → (before : List Event) (e : Event) → IsRun c (before ++ e ∷ [])
    → work_left c (state_after c (opening c) (before ++ e ∷ [])) < work_left c (state_after c (opening c) before)
work_falls c is before e run =
    lower (most_of c) (measure c (state_after c (opening c) (before ++ e ∷ [])))
    (measure c (state_after c (opening c) before)) 0
    (at_most c is (before ++ e ∷ []) run) (at_most c is before (first_legal c before (e ∷ []) (opening c) run))
    (falls_on c is before e run)

work_on : (c : Setting) → IsSetting c → (after before : List Event) → IsRun c (before ++ after)
    → length after + work_left c (state_after c (opening c) (before ++ after)) ≤ work_left c
    (state_after c (opening c) before)
work_on c is [] before run =
    let same : work_left c (state_after c (opening c) (before ++ [])) ≡ work_left c (state_after c (opening c) before) =
    ap (λ (l : List Event). work_left c (state_after c (opening c) l)) (append-nil before) in
    omega arith
work_on c is (e ∷ after) before run =
    let moved = append_assoc before (e ∷ []) after in
    let run_on = subst (λ (l : List Event). IsRun c l) (sym moved) run in
    let rest = work_on c is after (before ++ e ∷ []) run_on in
    let same : work_left c (state_after c (opening c) ((before ++ e ∷ []) ++ after))
    ≡ work_left c (state_after c (opening c) (before ++ e ∷ after)) =
    ap (λ (l : List Event). work_left c (state_after c (opening c) l)) moved in
    let here = work_falls c is before e (first_legal c (before ++ e ∷ []) after (opening c) run_on) in
    omega arith

pub bounded : (c : Setting) → IsSetting c → (journal : List Event) → IsRun c journal
    → length journal + work_left c (state_after c (opening c) journal) ≤ work_left c (opening c)
bounded c is journal run = work_on c is journal [] run
