-- What is kept tells which visits a recovery undoes.
use Rattle.std.proofs.Common.{◌≡◌, ℕ, zero, suc, ◌+◌, ◌-◌, ◌<◌, ◌≤◌, ◌&&◌, if◌then◌else◌, not, Bool, true, false, List}
use Rattle.std.proofs.Common.{[], ◌∷◌, ◌++◌, filter, Option, Some, unwrap_or, inl, inr, refl, sym, ◌∙◌, ap, subst}
use Rattle.std.proofs.Common.{append-nil, arith}
use Rattle.std.specs.List.{list_any, range_with_len, find}
use Rattle.std.proofs.lemmas.Bool.{true≢false, cases_eq, and_parts, and_from, or_cases, or_left, or_right, not-true}
use Rattle.std.proofs.lemmas.Bool.{not_from_false, false_from_ne_true}
use Rattle.std.specs.Cmp.{both_ways}
use Rattle.ftc_journal.specs.declared.event.VisitName.{VisitName}
use Rattle.ftc_ring.specs.Ring.{RingShape, next_of, previous_of, along, against}
use Rattle.ftc_ring.specs.Live.{is_live, live_before_of, live_after_of}
use Rattle.ftc_ring.proofs.Geometry.{next_within, previous_within}
use Rattle.ftc_serial.specs.Serial.{Entry, Visited, Given}
use Rattle.ftc_vector.specs.Commits.{vector_of}
use Rattle.ftc_machine.specs.declared.state.MachineState.{MachineState}
use Rattle.ftc_protocol.specs.Changes.{is_some_list}
use Rattle.ftc_machine.specs.Represents.{Represents, footprints_in, visits_in}
use Rattle.ftc_machine.specs.Frontier.{is_had_by}
use Rattle.ftc_protocol.specs.Recovery.{is_between, is_undone_itself, is_up_to, is_undone, in_order, previous_live}
use Rattle.ftc_protocol.specs.Recovery.{following_live, undone_visits}
use Rattle.ftc_machine.specs.RecoveryEffect.{IsLawfulRun, kept_previous, kept_following, is_lacked, is_undone_alone}
use Rattle.ftc_machine.specs.RecoveryEffect.{is_undone_kept}
use Rattle.ftc_protocol.specs.Setting.{Setting, servers}
use Rattle.ftc_machine.specs.Slots.{has_such}
use Rattle.ftc_protocol.specs.State.{ChainState}
use Rattle.ftc_machine.specs.LegalityTests.{footprints_of, list_of}
use Rattle.ftc_protocol.specs.Trace.{IsSomeVisit, lacked_by}
use Rattle.ftc_protocol.specs.Visits.{Visits}
use Rattle.ftc_machine.proofs.VisitChain.{visited_before}
use Rattle.ftc_machine.specs.Lawful.{IsLawful}
use Rattle.ftc_machine.proofs.LawfulStates.{serial_in}
use Rattle.ftc_machine.proofs.FootprintTests.{touched_touching, had_has}
use Rattle.ftc_machine.proofs.RepresentedMessages.{footprint_there}
use Rattle.ftc_protocol.proofs.UndoneList.{lacked_says, lacked_has, up_to_says, up_to_has}

-- ---- tests

any_range_says : (test : ℕ → Bool) (start count : ℕ) → list_any test (range_with_len start count) ≡ true →
    (i : ℕ) × (start ≤ i) × (i < start + count) × (test i ≡ true)
any_range_says test start zero any = absurd (true≢false (sym any))
any_range_says test start (suc count) any =
    elim (or_cases (test start) (list_any test (range_with_len (start + 1) count)) any) [
      | inl here ↦ (start, omega arith, omega arith, here)
      | inr there ↦ let r = any_range_says test (start + 1) count there in let low : start + 1 ≤ r.0 =
          r.1 in let high : r.0 < start + 1 + count = r.2 in (r.0, omega arith, omega arith, r.3)
    ]

any_range_has : (test : ℕ → Bool) (start count i : ℕ) → start ≤ i → i < start + count → test i ≡ true →
    list_any test (range_with_len start count) ≡ true
any_range_has test start zero i low high is = absurd (omega arith)
any_range_has test start (suc count) i low high is = elim (cases_eq i start) [
  | inl same ↦ or_left (test start) (list_any test (range_with_len (start + 1) count))
      (subst (λ n. test n ≡ true) same is)
  | inr other ↦ or_right (test start) (list_any test (range_with_len (start + 1) count))
      (any_range_has test (start + 1) count i (omega arith) (omega arith) is)
]

-- some number up to one, where the tests agree up to it
up_to_same : (test other : ℕ → Bool) (most : ℕ) → ((i : ℕ) → i ≤ most → other i ≡ test i) →
    list_any other (range_with_len 0 (most + 1)) ≡ is_up_to test most
up_to_same test other most same = both_ways (list_any other (range_with_len 0 (most + 1))) (is_up_to test most)
    (λ any. let r = any_range_says other 0 (most + 1) any in let high : r.0 < 0 + (most + 1) = r.2 in
    up_to_has test most r.0 (omega arith) (sym (same r.0 (omega arith)) ∙ r.3))
    (λ is. let r = up_to_says test most is in let le : r.0 ≤ most = r.1 in
    any_range_has other 0 (most + 1) r.0 (omega arith) (omega arith) (same r.0 le ∙ r.2))

-- ---- the nearest live servers

find_same : (live other : ℕ → Bool) (x : ℕ) (rest : List ℕ) → live x ≡ other x → find live rest ≡ find other rest →
    find live (x ∷ rest) ≡ find other (x ∷ rest)
find_same live other x rest here there =
    ap (λ b. if b then Some x else find live rest) here ∙ ap (λ (found : Option ℕ). if other x then Some x
    else found) there

module _ (n : ℕ) (live other : ℕ → Bool) (same : (server : ℕ) → server < n → live server ≡ other server) where
  against_same : (count server : ℕ) → server < n →
      find live (against n count server) ≡ find other (against n count server)
  against_same zero server within = refl
  against_same (suc count) server within =
      find_same live other server (against n count (previous_of n server)) (same server within)
      (against_same count (previous_of n server) (previous_within n server within))

  along_same : (count server : ℕ) → server < n → find live (along n count server) ≡ find other (along n count server)
  along_same zero server within = refl
  along_same (suc count) server within =
      find_same live other server (along n count (next_of n server)) (same server within)
      (along_same count (next_of n server) (next_within n server within))

module _ (c : Setting) (s : ChainState) (k : MachineState) (is : Represents c s k) (server : ℕ)
    (within : server < servers c) where
  servers_same : k.ring.servers ≡ servers c
  servers_same = ap (λ (ring : RingShape). ring.servers) is.ring

  pub previous_is : kept_previous k server ≡ previous_live c s server
  previous_is =
      ap (λ n. unwrap_or (live_before_of n (is_live k.down) server) server) servers_same
      ∙ ap (λ (found : Option ℕ). unwrap_or found server)
      (sym (against_same (servers c) s.up (is_live k.down) is.up (servers c - 1) (previous_of (servers c) server)
      (previous_within (servers c) server within)))

  pub following_is : kept_following k server ≡ following_live c s server
  following_is =
      ap (λ n. unwrap_or (live_after_of n (is_live k.down) server) server) servers_same
      ∙ ap (λ (found : Option ℕ). unwrap_or found server)
      (sym (along_same (servers c) s.up (is_live k.down) is.up (servers c - 1) (next_of (servers c) server)
      (next_within (servers c) server within)))

-- ---- the list

pub filter_append : (test : VisitName → Bool) (xs ys : List VisitName) →
    filter test (xs ++ ys) ≡ filter test xs ++ filter test ys
filter_append test [] ys = refl
filter_append test (x ∷ xs) ys =
    elim (test x) as (λ b. (if b then x ∷ filter test (xs ++ ys) else filter test (xs ++ ys))
    ≡ (if b then x ∷ filter test xs else filter test xs) ++ filter test ys) [
      | true ↦ ap (λ rest. x ∷ rest) (filter_append test xs ys)
      | false ↦ filter_append test xs ys
    ]

pub filter_in_order : (test : VisitName → Bool) (visits : Visits) (trace : List Entry) →
    ((server packet : ℕ) → IsSomeVisit trace server packet →
    test (record { server = server; packet = packet }) ≡ visits server packet)
    → filter test (visits_in trace) ≡ in_order visits trace
filter_in_order test visits [] same = refl
filter_in_order test visits (Given packet bytes ∷ older) same =
    filter_in_order test visits older (λ s p there. same s p (inr there))
filter_in_order test visits (Visited server packet outcome ∷ older) same =
    let name : VisitName = record { server = server; packet = packet } in
    filter_append test (visits_in older) (name ∷ [])
    ∙ (ap (λ (front : List VisitName). front
    ++ filter test (name ∷ [])) (filter_in_order test visits older (λ s p there. same s p (inr there)))
    ∙ (ap (λ b. in_order visits older ++ (if b then name ∷ []
    else [])) (same server packet (inl (refl, refl, tt))) ∙ last (visits server packet)
    (in_order visits older) name))
  where
    last : (b : Bool) (front : List VisitName) (name : VisitName) →
        front ++ (if b then name ∷ [] else []) ≡ (if b then front ++ name ∷ [] else front)
    last true front name = refl
    last false front name = append-nil front

-- ---- which visits are undone

module _ (c : Setting) (s : ChainState) (of : IsLawfulRun c s) (k : MachineState) (is : Represents c s k)
    (previous following : ℕ) (within : following < servers c) where
  pub of_run : IsLawful c s
  of_run = of.laws s (record { right = of.supposed; journal = of.journal; run = of.run; reaches = of.leads })

  lacked_same : (i p : ℕ) → IsSomeVisit s.trace i p
      → has_such (is_lacked (vector_of (list_of k following) i)) (footprints_of k i p)
      ≡ lacked_by c.partitions s.trace (s.lists following) i p
  lacked_same i p there =
      let footprints = footprints_in k.visits.items in
      let vector = vector_of (list_of k following) i in
      let found = footprint_there (λ o. Unit {0}) c.partitions footprints s.trace is.sets.footprints i p there in
      let serial = (serial_in c s of_run) in
      let touched = touched_touching c.partitions (s.events
      + 1) s.trace footprints is.sets.rising is.sets.footprints i p found.0 there found.1 in
      let had = had_has c.partitions (s.events
      + 1) s.trace footprints is.sets.rising is.sets.footprints i p found.0 there found.1 (s.lists following) vector
      (is.sets.lists following within i) in
      ap (has_such (is_lacked vector)) found.1 ∙ both_ways (is_lacked vector found.0)
      (lacked_by c.partitions s.trace (s.lists following) i p)
      (λ lacked. let parts = and_parts (is_some_list found.0.touched.items) (not (is_had_by found.0 vector)) lacked in
      lacked_has c s.trace (s.lists following) i p serial (touched.0 parts.0)
      (λ has. true≢false (sym (had.1 has) ∙ not-true (is_had_by found.0 vector) parts.1)))
      (λ lacks. let says = lacked_says c s.trace (s.lists following) i p serial lacks in
      and_from (is_some_list found.0.touched.items) (not (is_had_by found.0 vector)) (touched.1 says.0)
      (not_from_false (is_had_by found.0 vector)
      (false_from_ne_true (is_had_by found.0 vector) (λ having. says.1 (had.0 having)))))

  alone_same : (p i : ℕ) → IsSomeVisit s.trace i p →
      is_undone_alone k previous following p i ≡ is_undone_itself c s previous following i p
  alone_same p i there =
      ap (λ (ring : RingShape). is_between ring.servers previous following i
      && has_such (is_lacked (vector_of (list_of k following) i)) (footprints_of k i p)) is.ring
      ∙ ap (λ b. is_between (servers c) previous following i && b) (lacked_same i p there)

  undone_same : (j p : ℕ) → IsSomeVisit s.trace j p →
      is_undone_kept k previous following (record { server = j; packet = p }) ≡ is_undone c s previous following j p
  undone_same j p there =
      up_to_same (λ earlier. is_undone_itself c s previous following earlier p)
      (is_undone_alone k previous following p) j
      (λ i le. alone_same p i (visited_before c s.trace (serial_in c s of_run) j p there i le))

  pub undone_is : (server : ℕ) (names : List VisitName) → server < servers c → previous ≡ kept_previous k server →
      following ≡ kept_following k server
      → names ≡ filter (is_undone_kept k previous following) k.order → names ≡ undone_visits c s server
  undone_is server names below before after are =
      are ∙ (ap (filter (is_undone_kept k previous following)) is.sets.order
      ∙ (filter_in_order (is_undone_kept k previous following) (is_undone c s previous following) s.trace undone_same
      ∙ (ap (λ r. in_order (is_undone c s r following) s.trace) (before ∙ previous_is c s k is server below)
      ∙ ap (λ t. in_order (is_undone c s (previous_live c s server) t) s.trace)
      (after ∙ following_is c s k is server below))))
