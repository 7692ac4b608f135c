-- What the tests of a footprint say of a set that reaches so far.
use Rattle.std.proofs.Common.{◌≡◌, ℕ, ◌↔◌, ◌||◌, Bool, true, false, not, if◌then◌else◌, List, [], ◌∷◌, map, Some, inl}
use Rattle.std.proofs.Common.{inr, refl, sym, ap, subst, ◌∙◌, arith}
use Rattle.std.specs.Prelude.{nat_le}
use Rattle.std.specs.List.{AllByRecursion, list_all}
use Rattle.std.proofs.lemmas.Bool.{true≢false, leb-true, le-leb, cases_lt, cases_Bool, and_parts, and_from, or_cases}
use Rattle.std.proofs.lemmas.Bool.{or_left, or_right, not-true, not_from_false}
use Rattle.ftc_base.specs.Partition.{partition_of}
use Rattle.ftc_base.specs.declared.ask.Answer.{Answer}
use Rattle.ftc_base.specs.declared.ask.Write.{Write}
use Rattle.ftc_base.proofs.EachOf.{all_tests, tests_all}
use Rattle.ftc_vector.specs.Vector.{number_at}
use Rattle.ftc_serial.specs.Words.{AnyOf}
use Rattle.ftc_serial.specs.Take.{Outcome}
use Rattle.ftc_serial.specs.Entries.{Touches}
use Rattle.ftc_serial.specs.Serial.{Entry, Visited, Given}
use Rattle.ftc_serial.proofs.Functions.{any_of_all}
use Rattle.ftc_machine.specs.declared.state.footprint.Touched.{Touched}
use Rattle.ftc_machine.specs.declared.state.footprint.Footprint.{Footprint}
use Rattle.ftc_protocol.specs.Visits.{Visits, In}
use Rattle.ftc_protocol.specs.Changes.{Changes, Meets, changes, is_touching, is_changing, is_some_list}
use Rattle.ftc_protocol.specs.Trace.{IsInTrace, IsSomeVisit, IsTouching, IsChanging, IsBefore, Has}
use Rattle.ftc_machine.specs.Frontier.{Numbers, Footprints, AreRising, AreFootprints, IsChangingIn, IsFrontier, IsLast}
use Rattle.ftc_machine.specs.Frontier.{IsFootprint, numbers_of, has_changed, follows, contains, is_had_by}
use Rattle.ftc_protocol.proofs.ChangeLaws.{any_mapped}
use Rattle.ftc_protocol.proofs.TraceLemmas.{any_map, stands_map}
use Rattle.ftc_protocol.proofs.ListStores.{some_changes}
use Rattle.ftc_machine.proofs.PlacedVisits.{IsPlaced, place_of, stands, stood}

-- ---- lists

any_unmapped : {A B : Type 0} (P : B → Type 0) (f : A → B) (xs : List A) → AnyOf P (map f xs) →
    AnyOf (λ (x : A). P (f x)) xs
any_unmapped P f [] any = any
any_unmapped P f (x ∷ xs) any = elim any [ inl here ↦ inl here | inr there ↦ inr (any_unmapped P f xs there) ]

-- each item that has P has Q, if it does where it stands in the list
pub all_within : {A : Type 0} (P Q : A → Type 0) (xs : List A) → ((x : A) → AnyOf (λ y. y ≡ x) xs → P x → Q x) →
    AllByRecursion P xs → AllByRecursion Q xs
all_within P Q [] f all = tt
all_within P Q (x ∷ xs) f all = (f x (inl refl) all.0, all_within P Q xs (λ y there. f y (inr there)) all.1)

-- an item with Q, of those that all have P
pub one_of : {A : Type 0} (P Q : A → Type 0) (xs : List A) → AllByRecursion P xs → AnyOf Q xs → (x : A) × P x × Q x
one_of P Q xs all any = any_of_all Q P xs (λ x q p. (x, p, q)) any all

both_all : {A : Type 0} (P Q : A → Type 0) (xs : List A) → AllByRecursion P xs → AllByRecursion Q xs →
    AllByRecursion (λ x. P x × Q x) xs
both_all P Q [] all others = tt
both_all P Q (x ∷ xs) all others = ((all.0, others.0), both_all P Q xs all.1 others.1)

some_map : {A B : Type 0} (f : A → B) (xs : List A) → is_some_list (map f xs) ≡ is_some_list xs
some_map f [] = refl
some_map f (x ∷ xs) = refl

-- ---- what a footprint has of its outcome

module _ (partitions : ℕ) (older : List Entry) (numbers : Numbers) (server : ℕ) (outcome : Outcome)
    (footprint : Footprint)
    (made : IsFootprint partitions older numbers server outcome footprint) where
  pub touched_of : (partition : ℕ) → Touches partitions outcome partition →
      AnyOf (λ (touched : Touched). touched.partition ≡ partition) footprint.touched.items
  touched_of partition touches =
      any_unmapped (λ (p : ℕ). p ≡ partition) (λ (touched : Touched). touched.partition) footprint.touched.items
      (subst (AnyOf (λ (p : ℕ). p ≡ partition)) (sym made.touched)
      (any_mapped (λ (p : ℕ). p
      ≡ partition) (λ (answer : Answer). partition_of partitions answer.key) outcome.answers touches))

  pub touches_of : (touched : Touched) → AnyOf (λ (other : Touched). other ≡ touched) footprint.touched.items →
      Touches partitions outcome touched.partition
  touches_of touched there =
      any_unmapped (λ (p : ℕ). p
      ≡ touched.partition) (λ (answer : Answer). partition_of partitions answer.key) outcome.answers
      (subst (AnyOf (λ (p : ℕ). p ≡ touched.partition)) made.touched
      (any_mapped (λ (p : ℕ). p ≡ touched.partition) (λ (other : Touched). other.partition) footprint.touched.items
      (any_map (λ (other : Touched). other ≡ touched) (λ (other : Touched). other.partition
      ≡ touched.partition) (λ other same. ap (λ (t : Touched). t.partition) same) footprint.touched.items there)))

  pub some_touched : is_some_list footprint.touched.items ≡ is_touching outcome
  some_touched =
      sym (some_map (λ (touched : Touched). touched.partition) footprint.touched.items)
      ∙ (ap is_some_list made.touched ∙ some_map
      (λ (answer : Answer). partition_of partitions answer.key) outcome.answers)

  pub some_changed : has_changed footprint ≡ is_changing partitions outcome
  unfolding changes
  some_changed = ap is_some_list made.writes ∙ sym
      (some_map (λ (write : Write). partition_of partitions write.key) outcome.writes)

-- a visit that meets an outcome changes a partition that this touches
some_met : (partitions : ℕ) (outcome : Outcome) (older : List Entry) (server packet : ℕ) →
    IsInTrace (λ o. Meets partitions o outcome) older server packet
    → (partition : ℕ) × IsChangingIn partitions older server packet partition × Touches partitions outcome partition
some_met partitions outcome [] server packet meets = absurd meets
some_met partitions outcome (Given other bytes ∷ older) server packet meets = elim meets [
  | inl here ↦ absurd here
  | inr below ↦ let met = some_met partitions outcome older server packet below in (met.0, inr met.1, met.2)
]
some_met partitions outcome (Visited visited passed earlier ∷ older) server packet meets = elim meets [
  | inl here ↦ (here.2.0, inl (here.0, here.1, here.2.1), here.2.2)
  | inr below ↦ let met = some_met partitions outcome older server packet below in (met.0, inr met.1, met.2)
]

-- ---- what the tests say

module _ (partitions bound : ℕ) (trace : List Entry) (footprints : Footprints)
    (rising : AreRising (numbers_of footprints) bound trace) (are : AreFootprints partitions footprints trace)
    (server packet : ℕ) (footprint : Footprint) (there : IsSomeVisit trace server packet) (is : footprints server packet
    ≡ Some footprint) where
  placed : IsPlaced partitions trace (numbers_of footprints) server packet footprint
  placed = place_of partitions footprints (λ o. Unit {0}) bound trace rising are server packet footprint there is

  in_trace : (P : Outcome → Type 0) → P placed.outcome → IsInTrace P trace server packet
  in_trace = stands partitions bound trace (numbers_of footprints) rising server packet footprint placed

  in_outcome : (P : Outcome → Type 0) → IsInTrace P trace server packet → P placed.outcome
  in_outcome = stood partitions bound trace (numbers_of footprints) rising server packet footprint placed

  -- something is changed; something is touched
  pub changed_changing : (has_changed footprint ≡ true) ↔ IsChanging partitions trace server packet
  changed_changing =
      let same = some_changed partitions placed.older
      (numbers_of footprints) server placed.outcome footprint placed.made in (
        λ changed. in_trace (λ o. is_changing partitions o ≡ true) (sym same ∙ changed),
        λ changing. same ∙ in_outcome (λ o. is_changing partitions o ≡ true) changing,
      )

  pub touched_touching : (is_some_list footprint.touched.items ≡ true) ↔ IsTouching trace server packet
  touched_touching =
      let same = some_touched partitions placed.older
      (numbers_of footprints) server placed.outcome footprint placed.made in (
        λ touched. in_trace (λ o. is_touching o ≡ true) (sym same ∙ touched),
        λ touching. same ∙ in_outcome (λ o. is_touching o ≡ true) touching,
      )

  module _ (visits : Visits) (vector : List ℕ)
      (reaches : IsFrontier partitions trace (numbers_of footprints) server (visits server) (number_at vector)) where
    -- what the visit meets is in a set that it follows
    followed : (earlier : ℕ) → follows footprint vector ≡ true →
        IsInTrace (λ o. Meets partitions o placed.outcome) placed.older server earlier → In visits server earlier
    followed earlier all meets =
        let met = some_met partitions placed.outcome placed.older server earlier meets in
        let IsLastHere = λ (touched : Touched). IsLast partitions placed.older
        (numbers_of footprints) server touched.partition touched.before in
        let IsWithin = λ (touched : Touched). nat_le touched.before (number_at vector touched.partition) ≡ true in
        let found = one_of (λ (touched : Touched). IsLastHere touched
        × IsWithin touched) (λ (touched : Touched). touched.partition ≡ met.0) footprint.touched.items
        (both_all IsLastHere IsWithin footprint.touched.items placed.made.before
        (tests_all (λ (touched : Touched). nat_le touched.before
        (number_at vector touched.partition)) footprint.touched.items all))
        (touched_of partitions placed.older
        (numbers_of footprints) server placed.outcome footprint placed.made met.0 met.2) in
        let changes : IsChangingIn partitions placed.older server earlier found.0.partition =
        subst (IsChangingIn partitions placed.older server earlier) (sym found.2) met.1 in
        (reaches.each earlier found.0.partition (placed.in_trace earlier found.0.partition changes)).1
        (omega (
          arith,
          found.1.0.above earlier changes,
          leb-true found.0.before (number_at vector found.0.partition) found.1.1,
        ))

    -- of a set that has what is before the visit, the reach is up to each last change
    reached : ((earlier : ℕ) → IsBefore partitions trace server earlier packet → In visits server earlier) →
        (touched : Touched) → AnyOf (λ (other : Touched). other ≡ touched) footprint.touched.items
        → IsLast partitions placed.older (numbers_of footprints) server touched.partition touched.before →
        nat_le touched.before (number_at vector touched.partition) ≡ true
    reached each touched member last =
        le-leb touched.before (number_at vector touched.partition) (elim (cases_lt 0 touched.before) [
          | inr none_before ↦ omega arith
          | inl some ↦
              let found = last.last some in
              let touches = touches_of partitions placed.older
              (numbers_of footprints) server placed.outcome footprint placed.made touched member in
              let meets = stands_map (λ o. Changes partitions o touched.partition)
              (λ o. Meets partitions o placed.outcome)
              (λ o changes. (touched.partition, changes, touches)) placed.older server found.0 found.1 in
              omega (
                arith,
                found.2,
                (reaches.each found.0 touched.partition (placed.in_trace found.0 touched.partition found.1)).0
                    (each found.0 (placed.before found.0 meets)),
              )
        ])

    -- the set has each visit that is before this one
    pub follows_all : (follows footprint vector ≡ true)
        ↔ ((earlier : ℕ) → IsBefore partitions trace server earlier packet → In visits server earlier)
    follows_all = (
      λ all earlier before. followed earlier all (placed.met earlier before),
      λ each. all_tests (λ (touched : Touched). nat_le touched.before
          (number_at vector touched.partition)) footprint.touched.items
          (all_within (λ (touched : Touched). IsLast partitions placed.older
          (numbers_of footprints) server touched.partition touched.before)
          (λ (touched : Touched). nat_le touched.before (number_at vector touched.partition)
          ≡ true) footprint.touched.items (reached each) placed.made.before),
    )

    -- the set has this one, which changes something
    pub contains_in : IsChanging partitions trace server packet →
        (contains footprint vector ≡ true) ↔ In visits server packet
    contains_in changing = (
      λ all.
          let some = some_changes (changes partitions placed.outcome)
          (in_outcome (λ o. is_changing partitions o ≡ true) changing) in
          let IsMarked = λ (touched : Touched). (touched.changed ≡ true)
          ↔ Changes partitions placed.outcome touched.partition in
          let found = one_of (λ (touched : Touched). IsMarked touched
          × (is_reached touched ≡ true)) (λ (touched : Touched). touched.partition ≡ some.0) footprint.touched.items
          (both_all IsMarked (λ (touched : Touched). is_reached touched
          ≡ true) footprint.touched.items placed.made.changed (tests_all is_reached footprint.touched.items all))
          (touched_of partitions placed.older (numbers_of footprints) server placed.outcome footprint placed.made some.0
          (placed.made.reads some.0 some.1)) in
          let changes_here : Changes partitions placed.outcome found.0.partition =
          subst (Changes partitions placed.outcome) (sym found.2) some.1 in
          elim (or_cases (not found.0.changed)
          (nat_le footprint.number (number_at vector found.0.partition)) found.1.1) [
            | inl unchanged ↦ absurd (true≢false (sym (found.1.0.1 changes_here) ∙ not-true found.0.changed unchanged))
            | inr within ↦
                (reaches.each packet found.0.partition
                (in_trace (λ o. Changes partitions o found.0.partition) changes_here)).1
                (omega (arith, placed.number, leb-true footprint.number (number_at vector found.0.partition) within))
          ],
      λ is_in. all_tests is_reached footprint.touched.items
          (all_within (λ (touched : Touched). (touched.changed ≡ true)
          ↔ Changes partitions placed.outcome touched.partition) (λ (touched : Touched). is_reached touched
          ≡ true) footprint.touched.items
          (λ touched member marked. elim (cases_Bool touched.changed) [
            | inl changed ↦ or_right (not touched.changed)
                (nat_le footprint.number (number_at vector touched.partition))
                (le-leb footprint.number (number_at vector touched.partition)
                (omega (
                  arith,
                  placed.number,
                  (reaches.each packet touched.partition
                      (in_trace (λ o. Changes partitions o touched.partition) (marked.0 changed))).0 is_in,
                )))
            | inr unchanged ↦ or_left (not touched.changed)
                (nat_le footprint.number (number_at vector touched.partition))
                (not_from_false touched.changed unchanged)
          ]) placed.made.changed),
    )
      where
        is_reached : Touched → Bool
        is_reached touched = not touched.changed || nat_le footprint.number (number_at vector touched.partition)

    -- the set has this one
    pub had_has : (is_had_by footprint vector ≡ true) ↔ Has partitions trace visits server packet
    had_has =
        elim (has_changed footprint) as (λ b. has_changed footprint ≡ b →
        ((if b then contains footprint vector else follows footprint vector) ≡ true)
        ↔ Has partitions trace visits server packet) [
          | true ↦ λ changed.
              let changing = changed_changing.0 changed in
              let here = contains_in changing in (
                λ held. record { changing = λ _. here.0 held; other = λ not_changing. absurd (not_changing changing) },
                λ has. here.1 (has.changing changing),
              )
          | false ↦ λ unchanged.
              let not_changing : IsChanging partitions trace server packet → ⊥ =
              λ changing. true≢false (sym (changed_changing.1 changing) ∙ unchanged) in (
                λ all. record {
                  changing = λ changing. absurd (not_changing changing);
                  other = λ _ earlier before. follows_all.0 all earlier before;
                },
                λ has. follows_all.1 (has.other not_changing),
              )
        ] refl
