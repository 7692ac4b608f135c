-- One pass over the visits finds those that are undone, and one drops them.
use Rattle.std.proofs.Common.{◌≡◌, ℕ, ◌<◌, ◌≤◌, ◌==◌, ◌&&◌, ◌||◌, ◌↔◌, ◌⊎◌, ◌+◌, ◌++◌, zero, suc, add-one, append_assoc}
use Rattle.std.proofs.Common.{append-nil, drop-cons, drop_of_length-le, get_or, length, nat_cmp, Bool, true, false, not}
use Rattle.std.proofs.Common.{cond, List, [], ◌∷◌, map, filter, drop, Some, inl, inr, refl, sym, ap, subst, ◌∙◌, arith}
use Rattle.std.proofs.Common.{eqb-true, eq-eqb, ltb-true}
use Rattle.std.specs.Prelude.{slice_get}
use Rattle.std.specs.Ordering.{is_eq}
use Rattle.std.specs.declared.cmp.Ordering.TheVariants.{Less, Equal, Greater}
use Rattle.std.specs.Prelude.{nat_lt}
use Rattle.std.specs.BTreeSet.{BTreeSet, contains}
use Rattle.std.specs.BTreeMap.{is_at}
use Rattle.std.proofs.lemmas.Option.{slice_get_within, get_or_from_slice_get}
use Rattle.std.specs.List.{AllByRecursion}
use Rattle.std.proofs.lemmas.Bool.{true≢false, or_cases, or_left, or_right, and_parts, false_from_ne_true, ne_eqb}
use Rattle.std.proofs.lemmas.Bool.{eqb-false}
use Rattle.std.specs.Cmp.{both_ways}
use Rattle.ftc_base.proofs.EachOf.{all-weaker, all_zip}
use Rattle.ftc_serial.specs.Words.{AnyOf, EachLater}
use Rattle.ftc_serial.proofs.Functions.{any_of_all}
use Rattle.ftc_journal.specs.declared.event.VisitName.{VisitName}
use Rattle.ftc_visits.specs.declared.visit.MadeVisit.{MadeVisit}
use Rattle.ftc_visits.specs.Made.{name_of}
use Rattle.ftc_visits.specs.Undoing.{undone_from, is_of, is_first, without}
use Rattle.ftc_visits.proofs.Lists.{any_to, all_filter, all_some}

-- of one packet the visits come in the order of their servers
abbrev pub Rises : MadeVisit → MadeVisit → Type 0
Rises earlier later = earlier.packet ≡ later.packet → earlier.server < later.server

module _ (is_alone : MadeVisit → Bool) (is_named : VisitName → Bool) where
  -- one that is undone by itself, and with which the later one is
  abbrev pub Undoes : MadeVisit → MadeVisit → Type 0
  Undoes later earlier = (earlier.packet ≡ later.packet) × (earlier.server ≤ later.server) × (is_alone earlier ≡ true)

  abbrev IsOf : ℕ → MadeVisit → Type 0
  IsOf packet visit = (visit.packet ≡ packet) × (is_alone visit ≡ true)

  -- a visit is named exactly where such a one is among those in front of it or the rest
  abbrev Means : List MadeVisit → List MadeVisit → MadeVisit → Type 0
  Means front rest visit = (is_named (name_of visit) ≡ true) ↔ (AnyOf (Undoes visit) front ⊎ AnyOf (Undoes visit) rest)

  abbrev Follows : List MadeVisit → MadeVisit → Type 0
  Follows front visit = AllByRecursion (λ earlier. Rises earlier visit) front

  moved : (front : List MadeVisit) (visit : MadeVisit) (rest : List MadeVisit) (later : MadeVisit) →
      Means front (visit ∷ rest) later → Means (visit ∷ front) rest later
  moved front visit rest later means = (
    λ named. elim (means.0 named) [
      | inl before ↦ inl (inr before)
      | inr after ↦ elim after [ inl here ↦ inl (inl here) | inr there ↦ inr there ]
    ],
    λ some. elim some [
      | inr there ↦ means.1 (inr (inr there))
      | inl front_some ↦ elim front_some [ inl here ↦ means.1 (inr (inl here)) | inr before ↦ means.1 (inl before) ]
    ],
  )

  -- the first of the rest
  module _ (front : List MadeVisit) (packets : ℕ → Bool)
      (says : (packet : ℕ) → (packets packet ≡ true) ↔ AnyOf (IsOf packet) front)
      (visit : MadeVisit) (rest : List MadeVisit) (means : Means front (visit ∷ rest) visit)
      (follows : Follows front visit)
      (rises : AllByRecursion (Rises visit) rest) where
    named_test : is_named (name_of visit) ≡ true → (packets visit.packet || is_alone visit) ≡ true
    named_test named = elim (means.0 named) [
      | inl before ↦ or_left (packets visit.packet) (is_alone visit) ((says visit.packet).1
          (any_to (Undoes visit) (IsOf visit.packet) (λ _. Unit {0}) (λ x undoes _. (undoes.0, undoes.2)) front before
          (all_some front)))
      | inr after ↦ elim after [
        | inl here ↦ or_right (packets visit.packet) (is_alone visit) here.2
        | inr there ↦ absurd (any_of_all (Undoes visit) (Rises visit) rest (λ x undoes later.
            let low : x.server ≤ visit.server = undoes.1 in let high : visit.server < x.server = later
            (sym undoes.0) in omega arith) there rises)
      ]
    ]

    test_named : (packets visit.packet || is_alone visit) ≡ true → is_named (name_of visit) ≡ true
    test_named test = elim (or_cases (packets visit.packet) (is_alone visit) test) [
      | inl known ↦ means.1 (inl (any_to (IsOf visit.packet) (Undoes visit) (λ earlier. Rises earlier visit)
          (λ x is later. let less : x.server < visit.server = later is.0 in (is.0, omega arith, is.1)) front
          ((says visit.packet).0 known) follows))
      | inr alone ↦ means.1 (inr (inl (refl, omega arith, alone)))
    ]

    says_more : (packets visit.packet || is_alone visit) ≡ true → (packet : ℕ) →
        (((packet == visit.packet) || packets packet) ≡ true) ↔ AnyOf (IsOf packet) (visit ∷ front)
    says_more test packet = (
      λ known. elim (or_cases (packet == visit.packet) (packets packet) known) [
        | inr old ↦ inr ((says packet).0 old)
        | inl same ↦
            let e : packet ≡ visit.packet = eqb-true packet visit.packet same in
            elim (or_cases (packets visit.packet) (is_alone visit) test) [
              | inl old ↦ inr ((says packet).0 (subst (λ p. packets p ≡ true) (sym e) old))
              | inr alone ↦ inl (sym e, alone)
            ]
      ],
      λ some. elim some [
        | inl here ↦ or_left (packet == visit.packet) (packets packet) (eq-eqb packet visit.packet (sym here.0))
        | inr there ↦ or_right (packet == visit.packet) (packets packet) ((says packet).1 there)
      ],
    )

    says_still : (packets visit.packet || is_alone visit) ≡ false → (packet : ℕ) →
        (packets packet ≡ true) ↔ AnyOf (IsOf packet) (visit ∷ front)
    says_still test packet = (
      λ known. inr ((says packet).0 known),
      λ some. elim some [
        | inl here ↦ absurd (true≢false (sym (or_right (packets visit.packet) (is_alone visit) here.1) ∙ test))
        | inr there ↦ (says packet).1 there
      ],
    )

  undone_rest : (rest front : List MadeVisit) (packets : ℕ → Bool) →
      ((packet : ℕ) → (packets packet ≡ true) ↔ AnyOf (IsOf packet) front)
      → AllByRecursion (Means front rest) rest → AllByRecursion (Follows front) rest → EachLater Rises rest
      → undone_from is_alone packets rest ≡ filter is_named (map name_of rest)
  undone_rest [] front packets says means follows rises = refl
  undone_rest (visit ∷ rest) front packets says means follows rises =
      let more = all-weaker (Means front (visit ∷ rest)) (Means (visit ∷ front) rest)
      (moved front visit rest) rest means.1 in
      let behind = all_zip (Rises visit) (Follows front) (Follows (visit ∷ front))
      (λ x one others. (one, others)) rest rises.0 follows.1 in
      let same = both_ways (is_named (name_of visit)) (packets visit.packet || is_alone visit)
      (named_test front packets says visit rest means.0 follows.0 rises.0)
      (test_named front packets says visit rest means.0 follows.0 rises.0) in
      elim (packets visit.packet || is_alone visit) as (λ b. (packets visit.packet || is_alone visit) ≡ b
      → cond b (name_of visit ∷ undone_from is_alone (λ packet. (packet == visit.packet) || packets packet) rest)
      (undone_from is_alone packets rest)
      ≡ cond b (name_of visit ∷ filter is_named (map name_of rest)) (filter is_named (map name_of rest))) [
        | true ↦ λ test. ap (λ (l : List VisitName). name_of visit ∷ l)
            (undone_rest rest (visit ∷ front) (λ packet. (packet == visit.packet) || packets packet)
            (says_more front packets says visit rest means.0 follows.0 rises.0 test) more behind rises.1)
        | false ↦ λ test. undone_rest rest (visit ∷ front) packets
            (says_still front packets says visit rest means.0 follows.0 rises.0 test) more behind rises.1
      ] refl
      ∙ ap (λ b. cond b (name_of visit ∷ filter is_named (map name_of rest)) (filter is_named (map name_of rest)))
      (sym same)

  pub undone_filter : (visits : List MadeVisit) →
      AllByRecursion (λ visit. (is_named (name_of visit) ≡ true) ↔ AnyOf (Undoes visit) visits) visits →
      EachLater Rises visits
      → undone_from is_alone (λ packet. false) visits ≡ filter is_named (map name_of visits)
  undone_filter visits means rises = undone_rest visits [] (λ packet. false)
      (λ packet. (λ is. absurd (true≢false (sym is)), λ none. absurd none))
      (all-weaker (λ visit. (is_named (name_of visit) ≡ true) ↔ AnyOf (Undoes visit) visits) (Means [] visits)
      (λ visit is. (λ named. inr (is.0 named), λ some. elim some [ inl none ↦ absurd none | inr there ↦ is.1 there ]))
      visits means)
      (all-weaker (λ visit. (is_named (name_of visit) ≡ true) ↔ AnyOf (Undoes visit) visits) (Follows [])
      (λ visit is. tt) visits means) rises

-- ---- what is left

-- one turn of the pass that drops them
pub first_goes : (names : List VisitName) (visit : MadeVisit) (visits : List MadeVisit) → is_first names visit ≡ true →
    without names (visit ∷ visits) ≡ without (drop 1 names) visits
first_goes [] visit visits is = cc
first_goes (name ∷ names) visit visits is = ap
    (λ b. cond b (without names visits) (visit ∷ without (name ∷ names) visits)) is

pub first_stays : (names : List VisitName) (visit : MadeVisit) (visits : List MadeVisit) →
    is_first names visit ≡ false →
    without names (visit ∷ visits) ≡ visit ∷ without names visits
first_stays [] visit visits is = refl
first_stays (name ∷ names) visit visits is = ap
    (λ b. cond b (without names visits) (visit ∷ without (name ∷ names) visits)) is

pub none_left : (names : List VisitName) → without names [] ≡ []
none_left [] = refl
none_left (name ∷ names) = refl

other_first : (names : List VisitName) (visit : MadeVisit) (visits : List MadeVisit) →
    AllByRecursion (λ (name : VisitName). is_of name visit ≡ false) names
    → without names (visit ∷ visits) ≡ visit ∷ without names visits
other_first [] visit visits all = refl
other_first (name ∷ names) visit visits all =
    ap (λ b. cond b (without names visits) (visit ∷ without (name ∷ names) visits)) all.0

is_its_own : (visit : MadeVisit) → is_of (name_of visit) visit ≡ true
is_its_own visit =
    ap (λ b. b && (visit.packet == visit.packet)) (eq-eqb visit.server visit.server refl)
    ∙ eq-eqb visit.packet visit.packet refl

-- without those that a test names, where it names by server and packet
pub without_filter : (test : ℕ → ℕ → Bool) (visits : List MadeVisit) →
    without (filter (λ (name : VisitName). test name.server name.packet) (map name_of visits)) visits
    ≡ filter (λ (visit : MadeVisit). not (test visit.server visit.packet)) visits
without_filter test [] = refl
without_filter test (visit ∷ visits) =
    elim (test visit.server visit.packet) as (λ b. test visit.server visit.packet ≡ b
    → without (cond b (name_of visit ∷ names visits) (names visits)) (visit ∷ visits) ≡ cond (not b)
    (visit ∷ left visits) (left visits)) [
      | true ↦ λ is. ap (λ b. cond b (without (names visits) visits)
          (visit ∷ without (name_of visit ∷ names visits) visits)) (is_its_own visit) ∙ without_filter test visits
      | false ↦ λ is. other_first (names visits) visit visits
          (all_filter is_named (λ _. Unit {0}) (λ name. is_of name visit ≡ false)
          (λ name named _. false_from_ne_true (is_of name visit) (λ same.
          let both = and_parts (name.server == visit.server) (name.packet == visit.packet) same in
          true≢false (sym named ∙ (ap (λ s. test s name.packet) (eqb-true name.server visit.server both.0)
          ∙ (ap (λ p. test visit.server p) (eqb-true name.packet visit.packet both.1) ∙ is))))) (map name_of visits)
          (all_some (map name_of visits)))
          ∙ ap (λ (l : List MadeVisit). visit ∷ l) (without_filter test visits)
    ] refl
  where
    is_named : VisitName → Bool
    is_named name = test name.server name.packet

    names : List MadeVisit → List VisitName
    names xs = filter (λ (name : VisitName). test name.server name.packet) (map name_of xs)

    left : List MadeVisit → List MadeVisit
    left xs = filter (λ (visit : MadeVisit). not (test visit.server visit.packet)) xs

-- ---- the turns of the two passes

pub drop_at : {A : Type 0} (items : List A) (place : ℕ) (item : A) → slice_get items place ≡ Some item →
    drop place items ≡ item ∷ drop (place + 1) items
drop_at items place item is =
    drop-cons items place item (slice_get_within items place item is)
    ∙ (ap (λ x. x ∷ drop (suc place) items) (get_or_from_slice_get items place item item is)
    ∙ ap (λ n. item ∷ drop n items) (sym (add-one place)))

pub first_at : (names : List VisitName) (place : ℕ) (name : VisitName) (visit : MadeVisit) →
    slice_get names place ≡ Some name →
    is_first (drop place names) visit ≡ is_of name visit
first_at names place name visit is = ap (λ (list : List VisitName). is_first list visit) (drop_at names place name is)

drop_one : {A : Type 0} (place : ℕ) (items : List A) → drop 1 (drop place items) ≡ drop (place + 1) items
drop_one place items = drops place items ∙ ap (λ n. drop n items) (sym (add-one place))
  where
    drops : {A : Type 0} (n : ℕ) (xs : List A) → drop 1 (drop n xs) ≡ drop (suc n) xs
    drops zero xs = refl
    drops (suc n) [] = refl
    drops (suc n) (x ∷ xs) = drops n xs

-- the visits that stay so far
pub record HasPassed (old : List MadeVisit) (names : List VisitName) (place next : ℕ)
    (items : List MadeVisit) : Type 0 where
  pub stay : List MadeVisit
  pub now : items ≡ drop place old ++ stay
  pub whole : stay ++ without (drop next names) (drop place old) ≡ without names old

same_parts : {A : Type 0} (x y : A) (xs ys : List A) → x ∷ xs ≡ y ∷ ys → (x ≡ y) × (xs ≡ ys)
same_parts x y xs ys same = (cc, cc)

module _ (old : List MadeVisit) (names : List VisitName) (place next : ℕ) (items : List MadeVisit)
    (passed : HasPassed old names place next items) (within : place < length old) (visit : MadeVisit)
    (left : List MadeVisit)
    (taken : items ≡ visit ∷ left) where
  parts : (get_or old place visit ≡ visit) × (drop (suc place) old ++ passed.stay ≡ left)
  parts = same_parts (get_or old place visit) visit (drop (suc place) old ++ passed.stay) left
      (sym (passed.now ∙ ap (λ (list : List MadeVisit). list ++ passed.stay) (drop-cons old place visit within))
      ∙ taken)

  here : drop place old ≡ visit ∷ drop (place + 1) old
  here = drop-cons old place visit within
      ∙ (ap (λ x. x ∷ drop (suc place) old) parts.0 ∙ ap (λ n. visit ∷ drop n old) (sym (add-one place)))

  left_is : left ≡ drop (place + 1) old ++ passed.stay
  left_is = sym parts.1 ∙ ap (λ n. drop n old ++ passed.stay) (sym (add-one place))

  pub one_goes : is_first (drop next names) visit ≡ true → HasPassed old names (place + 1) (next + 1) left
  one_goes first = record {
    stay = passed.stay;
    now = left_is;
    whole = ap (λ (list : List MadeVisit). passed.stay ++ list)
        (sym (ap (without (drop next names)) here ∙ (first_goes (drop next names) visit (drop (place + 1) old) first
        ∙ ap (λ (rest : List VisitName). without rest (drop (place + 1) old)) (drop_one next names)))) ∙ passed.whole;
  }

  pub one_stays : is_first (drop next names) visit ≡ false → HasPassed old names (place + 1) next (left ++ visit ∷ [])
  one_stays other = record {
    stay = passed.stay ++ visit ∷ [];
    now = ap (λ (list : List MadeVisit). list ++ visit ∷ []) left_is ∙ append_assoc (drop (place + 1) old) passed.stay
        (visit ∷ []);
    whole = append_assoc passed.stay (visit ∷ []) (without (drop next names) (drop (place + 1) old))
        ∙ (ap (λ (list : List MadeVisit). passed.stay ++ list)
        (sym (ap (without (drop next names)) here ∙ first_stays (drop next names) visit (drop (place + 1) old) other))
        ∙ passed.whole);
  }

pub passed_all : (old : List MadeVisit) (names : List VisitName) (place next : ℕ) (items : List MadeVisit) →
    HasPassed old names place next items → length old ≤ place → items ≡ without names old
passed_all old names place next items passed past =
    let none : drop place old ≡ [] = drop_of_length-le old past in
    passed.now ∙ (ap (λ (list : List MadeVisit). list ++ passed.stay) none
    ∙ (sym (append-nil passed.stay) ∙ (ap (λ (list : List MadeVisit). passed.stay ++ list)
    (sym (ap (without (drop next names)) none ∙ none_left (drop next names))) ∙ passed.whole)))

pub passed_none : (old : List MadeVisit) (names : List VisitName) → HasPassed old names 0 0 old
passed_none old names = record { stay = []; now = sym (append-nil old); whole = refl }

module _ (is_alone : MadeVisit → Bool) (whole names : List VisitName) (packets : ℕ → Bool) (items : List MadeVisit)
    (place : ℕ)
    (visit : MadeVisit) (dropped : drop place items ≡ visit ∷ drop (place + 1) items)
    (so_far : names ++ undone_from is_alone packets (drop place items) ≡ whole) where
  pub one_undone : (more : ℕ → Bool) → ((packet : ℕ) → more packet ≡ ((packet == visit.packet) || packets packet)) →
      (packets visit.packet || is_alone visit) ≡ true →
      (names ++ name_of visit ∷ []) ++ undone_from is_alone more (drop (place + 1) items) ≡ whole
  one_undone more same undone =
      append_assoc names (name_of visit ∷ []) (undone_from is_alone more (drop (place + 1) items))
      ∙ (ap (λ (list : List VisitName). names ++ list)
      ((λ i. name_of visit ∷ undone_from is_alone (λ packet. same packet i) (drop (place + 1) items))
      ∙ sym (ap (undone_from is_alone packets) dropped
      ∙ ap (λ b. cond b (name_of visit ∷ undone_from is_alone (λ packet. (packet == visit.packet) || packets packet)
      (drop (place + 1) items)) (undone_from is_alone packets (drop (place + 1) items))) undone)) ∙ so_far)

  pub one_left : (packets visit.packet || is_alone visit) ≡ false →
      names ++ undone_from is_alone packets (drop (place + 1) items) ≡ whole
  one_left stays =
      ap (λ (list : List VisitName). names ++ list) (sym (ap (undone_from is_alone packets) dropped
      ∙ ap (λ b. cond b (name_of visit ∷ undone_from is_alone (λ packet. (packet == visit.packet) || packets packet)
      (drop (place + 1) items)) (undone_from is_alone packets (drop (place + 1) items))) stays)) ∙ so_far

-- a set with one more packet
tied_is : (key other : ℕ) → is_at (nat_cmp key) other ≡ (other == key)
tied_is key other = elim (nat_lt key other) as (λ b. nat_lt key other ≡ b →
    is_eq (cond b Less (cond (key == other) Equal Greater)) ≡ (other == key)) [
      | true ↦ λ less. let low : key < other = ltb-true key other less in sym
          (ne_eqb other key (λ same. absurd (omega arith)))
      | false ↦ λ more. elim (key == other) as (λ b. key == other ≡ b → is_eq (cond b Equal Greater) ≡ (other == key)) [
        | true ↦ λ same. sym (eq-eqb other key (sym (eqb-true key other same)))
        | false ↦ λ differs. sym (ne_eqb other key (λ same. eqb-false key other differs (sym same)))
      ] refl
    ] refl

pub more_packets : (old new : BTreeSet ℕ) (key : ℕ) → ((other : ℕ) → contains nat_cmp new other
    ≡ cond (is_at (nat_cmp key) other) true (contains nat_cmp old other)) →
    (packet : ℕ) → contains nat_cmp new packet ≡ ((packet == key) || contains nat_cmp old packet)
more_packets old new key updates packet =
    updates packet ∙ (ap (λ b. cond b true (contains nat_cmp old packet)) (tied_is key packet) ∙ or_is (packet == key)
    (contains nat_cmp old packet))
  where
    or_is : (a b : Bool) → cond a true b ≡ (a || b)
    or_is true b = refl
    or_is false b = refl

pub drop_read : {A : Type 0} (items : List A) (place : ℕ) (item : A) → place < length items →
    item ≡ get_or items place item →
    drop place items ≡ item ∷ drop (place + 1) items
drop_read items place item within is =
    drop-cons items place item within
    ∙ (ap (λ x. x ∷ drop (suc place) items) (sym is) ∙ ap (λ n. item ∷ drop n items) (sym (add-one place)))
