-- The list of a recovery's undone visits says which visits are undone.
use Rattle.std.proofs.Common.{◌≡◌, ℕ, zero, suc, ◌<◌, ◌≤◌, ◌==◌, ◌&&◌, ◌||◌, ◌↔◌, if◌then◌else◌, Bool, true, false}
use Rattle.std.proofs.Common.{cond, not, List, [], ◌∷◌, ◌++◌, ◌⊎◌, inl, inr, refl, sym, subst, ◌∙◌, arith, eqb-true}
use Rattle.std.proofs.Common.{eq-eqb, nat_lt, ltb-true, lt-ltb}
use Rattle.std.specs.List.{list_all}
use Rattle.std.proofs.lemmas.Bool.{true≢false, cases_eq, eqb-false, and_parts, and_from, or_cases, or_left, or_right}
use Rattle.std.proofs.lemmas.Bool.{not-true, not_from_false, false_from_ne_true}
use Rattle.ftc_journal.specs.declared.event.VisitName.{VisitName}
use Rattle.ftc_serial.specs.Words.{AnyOf}
use Rattle.ftc_serial.specs.Take.{Outcome}
use Rattle.ftc_serial.specs.Serial.{Entry, Visited, Given}
use Rattle.ftc_serial.specs.Trace.{names}
use Rattle.ftc_ring.specs.Ring.{apart}
use Rattle.ftc_ring.specs.Live.{span}
use Rattle.ftc_protocol.specs.Setting.{Setting, servers}
use Rattle.ftc_protocol.specs.Visits.{Visits, In, just}
use Rattle.ftc_protocol.specs.Changes.{is_touching, is_changing, Meets, meets}
use Rattle.ftc_protocol.specs.Trace.{IsVisit, IsSomeVisit, IsTouching, IsChanging, Has, is_had_if_met, is_had}
use Rattle.ftc_protocol.specs.Trace.{lacked_by}
use Rattle.ftc_protocol.specs.State.{ChainState}
use Rattle.ftc_protocol.specs.Recovery.{is_between, is_undone_itself, is_up_to, is_undone, in_order, undone_visits}
use Rattle.ftc_protocol.specs.Recovery.{previous_live, following_live}
use Rattle.ftc_protocol.proofs.Places.{IsSerial}
use Rattle.ftc_protocol.proofs.UndoneVisits.{IsUndone}
use Rattle.ftc_protocol.proofs.RingDistances.{apart_cases}
use Rattle.ftc_protocol.proofs.TraceLemmas.{any_map, stands_map}
use Rattle.ftc_protocol.proofs.EarlierVisits.{visited_earlier}
use Rattle.ftc_protocol.proofs.Sets.{in_one}
use Rattle.ftc_protocol.proofs.ReadyTest.{had_by, meets_says}
use Rattle.ftc_protocol.proofs.ListStores.{stands_below}

-- a visit stands once in a serial run
once : (c : Setting) (older : List Entry) (j p : ℕ) (o : Outcome) → IsSerial c (Visited j p o ∷ older) →
    IsSomeVisit older j p → ⊥
once c older j p o is there =
    let less : j < j = visited_earlier c older j p is.0.0 is.1 is.0.1 j there in omega arith

pub any_name : (j p : ℕ) (xs ys : List VisitName) → names (xs ++ ys) j p ≡ (names xs j p || names ys j p)
any_name j p [] ys = refl
any_name j p (x ∷ xs) ys =
    rw (any_name j p xs ys) (assoc ((x.server == j) && (x.packet == p)) (names xs j p) (names ys j p))
  where
    assoc : (a b d : Bool) → (a || (b || d)) ≡ ((a || b) || d)
    assoc true b d = refl
    assoc false b d = refl

-- the names of a set in the trace's order are its visits of the trace
pub in_order_says : (visits : Visits) (trace : List Entry) (j p : ℕ) → In (names (in_order visits trace)) j p →
    In visits j p × IsSomeVisit trace j p
in_order_says visits [] j p = λ is. absurd (true≢false (sym is))
in_order_says visits (Given q bytes ∷ older) j p = λ is. let r = in_order_says visits older j p is in (r.0, inr r.1)
in_order_says visits (Visited k q o ∷ older) j p =
    elim (visits k q) as (λ b. visits k q ≡ b →
    In (names (cond b (in_order visits older ++ record { server = k; packet = q }
    ∷ []) (in_order visits older))) j p → In visits j p × IsSomeVisit (Visited k q o ∷ older) j p) [
      | false ↦ λ isnt is. let r = in_order_says visits older j p is in (r.0, inr r.1)
      | true ↦ λ own is. elim (or_cases _ _
          (sym (any_name j p (in_order visits older) (record { server = k; packet = q } ∷ [])) ∙ is)) [
            | inl there ↦ let r = in_order_says visits older j p there in (r.0, inr r.1)
            | inr here ↦ elim (or_cases _ _ here) [
              | inl same ↦
                  let e = and_parts (k == j) (q == p) same in (
                    subst (λ x. visits x p ≡ true) (eqb-true k j e.0)
                        (subst (λ x. visits k x ≡ true) (eqb-true q p e.1) own),
                    inl (eqb-true k j e.0, eqb-true q p e.1, tt),
                  )
              | inr none_there ↦ absurd (true≢false (sym none_there))
            ]
          ]
    ] refl

pub in_order_has : (visits : Visits) (trace : List Entry) (j p : ℕ) → In visits j p → IsSomeVisit trace j p →
    In (names (in_order visits trace)) j p
in_order_has visits [] j p is there = absurd there
in_order_has visits (Given q bytes ∷ older) j p is there =
    elim there [ inl here ↦ absurd here | inr below ↦ in_order_has visits older j p is below ]
in_order_has visits (Visited k q o ∷ older) j p is there =
    elim (visits k q) as (λ b. visits k q ≡ b →
    In (names (cond b (in_order visits older ++ record { server = k; packet = q }
    ∷ []) (in_order visits older))) j p) [
      | false ↦ λ isnt. elim there [
        | inl here ↦ absurd (true≢false
            (sym is ∙ subst (λ x. visits x p ≡ false) here.0 (subst (λ x. visits k x ≡ false) here.1 isnt)))
        | inr below ↦ in_order_has visits older j p is below
      ]
      | true ↦ λ own. any_name j p (in_order visits older) (record { server = k; packet = q } ∷ []) ∙ elim there [
        | inl here ↦ or_right (names (in_order visits older) j p) _
            (or_left ((k == j) && (q == p)) false (and_from (k == j) (q == p) (eq-eqb k j here.0) (eq-eqb q p here.1)))
        | inr below ↦ or_left (names (in_order visits older) j p) _ (in_order_has visits older j p is below)
      ]
    ] refl

-- some number up to that one
pub up_to_says : (test : ℕ → Bool) (most : ℕ) → is_up_to test most ≡ true → (i : ℕ) × (i ≤ most) × (test i ≡ true)
up_to_says test zero is = (0, omega arith, is)
up_to_says test (suc most) is = elim (or_cases (test (suc most)) (is_up_to test most) is) [
  | inl here ↦ (suc most, omega arith, here)
  | inr below ↦ let r = up_to_says test most below in let le : r.0 ≤ most = r.1 in (r.0, omega arith, r.2)
]

pub up_to_has : (test : ℕ → Bool) (most i : ℕ) → i ≤ most → test i ≡ true → is_up_to test most ≡ true
up_to_has test zero i le is = let same : i ≡ 0 = omega arith in subst (λ x. test x ≡ true) same is
up_to_has test (suc most) i le is = elim (cases_eq i (suc most)) [
  | inl same ↦ or_left (test (suc most)) (is_up_to test most) (subst (λ x. test x ≡ true) same is)
  | inr other ↦ or_right (test (suc most)) (is_up_to test most) (up_to_has test most i (omega arith) is)
]

-- a set that has the visit behind newer entries of others has it
fewer : (partitions : ℕ) (e : Entry) (older : List Entry) (set : Visits) (j p : ℕ) →
    (IsVisit (λ o. Unit {0}) j p e → ⊥) → Has partitions (e ∷ older) set j p → Has partitions older set j p
fewer partitions (Given q bytes) older set j p other has = record {
  changing = λ is. has.changing (inr is);
  other = λ not_changing q before. has.other (λ is. elim is [
    | inl here ↦ absurd here
    | inr there ↦
        not_changing there
  ]) q (inr before);
}
fewer partitions (Visited k q o) older set j p other has = record {
  changing = λ is. has.changing (inr is);
  other = λ not_changing x before. has.other (λ is. elim is [
    | inl here ↦ other (here.0, here.1, tt)
    | inr there ↦
        not_changing there
  ]) x (inr before);
}

more : (partitions : ℕ) (e : Entry) (older : List Entry) (set : Visits) (j p : ℕ) →
    (IsVisit (λ o. Unit {0}) j p e → ⊥) → Has partitions older set j p → Has partitions (e ∷ older) set j p
more partitions (Given q bytes) older set j p other has = record {
  changing = λ is. elim is [ inl here ↦ absurd here | inr there ↦ has.changing there ];
  other = λ not_changing x before. elim before [
    | inl here ↦ absurd here.0
    | inr there ↦
        has.other (λ is. not_changing (inr is)) x there
  ];
}
more partitions (Visited k q o) older set j p other has = record {
  changing = λ is. elim is [ inl here ↦ absurd (other (here.0, here.1, tt)) | inr there ↦ has.changing there ];
  other = λ not_changing x before. elim before [
    | inl here ↦ absurd (other (here.1.0, here.0, tt))
    | inr there ↦
        has.other (λ is. not_changing (inr is)) x there
  ];
}

-- what the test of the newest entry says
pub here_had : (partitions : ℕ) (set : Visits) (older : List Entry) (j p : ℕ) (o : Outcome) →
    (IsSomeVisit older j p → ⊥) → is_had partitions set older j p o ≡ true →
    Has partitions (Visited j p o ∷ older) set j p
here_had partitions set older j p o alone =
    elim (is_changing partitions o) as (λ b. is_changing partitions o ≡ b →
    cond b (set j p) (list_all (is_had_if_met partitions set j o) older) ≡ true →
    Has partitions (Visited j p o ∷ older) set j p) [
      | true ↦ λ changes is. record {
        changing = λ _. is;
        other = λ not_changing. absurd (not_changing (inl (refl, refl, changes)));
      }
      | false ↦ λ changes is. record {
        changing = λ there. elim there [
          | inl here ↦ absurd (true≢false (sym here.2 ∙ changes))
          | inr below ↦
              absurd (alone (stands_map _ (λ u. Unit {0}) (λ u t. tt) older j p below))
        ];
        other = λ _ x before. elim before [
          | inl here ↦ had_by partitions set j x o older is here.1.1
          | inr below ↦
              absurd (alone (Rattle.ftc_protocol.proofs.TraceLemmas.before_last partitions older j x p below))
        ];
      }
    ] refl

all_true : (test : Entry → Bool) (xs : List Entry) → ((x : Entry) → AnyOf (λ y. y ≡ x) xs → test x ≡ true) →
    list_all test xs ≡ true
all_true test [] each = refl
all_true test (x ∷ xs) each =
    and_from (test x) (list_all test xs) (each x (inl refl)) (all_true test xs (λ y a. each y (inr a)))

pub had_here : (partitions : ℕ) (set : Visits) (older : List Entry) (j p : ℕ) (o : Outcome) →
    Has partitions (Visited j p o ∷ older) set j p → (IsSomeVisit older j p → ⊥) →
    is_had partitions set older j p o ≡ true
had_here partitions set older j p o has alone =
    elim (is_changing partitions o) as (λ b. is_changing partitions o ≡ b →
    cond b (set j p) (list_all (is_had_if_met partitions set j o) older) ≡ true) [
      | true ↦ λ changes. has.changing (inl (refl, refl, changes))
      | false ↦ λ changes. all_true (is_had_if_met partitions set j o) older (λ x a. met x a
          (λ there. elim there [
            | inl here ↦ true≢false (sym here.2 ∙ changes)
            | inr below ↦
                alone (stands_map _ (λ u. Unit {0}) (λ u t. tt) older j p below)
          ]))
    ] refl
  where
    met : (x : Entry) → AnyOf (λ y. y ≡ x) older → (IsChanging partitions (Visited j p o ∷ older) j p → ⊥) →
        is_had_if_met partitions set j o x ≡ true
    met (Given q bytes) a not_changing = refl
    met (Visited k q v) a not_changing =
        elim ((k == j) && meets partitions v o) as (λ b. (k == j) && meets partitions v o ≡ b →
        (not b || set j q) ≡ true) [
          | false ↦ λ e. refl
          | true ↦ λ e.
              let both = and_parts (k == j) (meets partitions v o) e in
              let kj : k ≡ j = eqb-true k j both.0 in
              has.other not_changing q (inl (
                refl,
                (
                  refl,
                  any_map _ (IsVisit (λ u. Meets partitions u o) j q)
                      (λ y is. subst (IsVisit (λ u. Meets partitions u o) j q) (sym is) (
                        kj,
                        refl,
                        meets_says partitions v o both.1,
                      )) older a,
                ),
              ))
        ] refl

-- what the set lacks is a touching visit of the trace that it doesn't have
pub lacked_says : (c : Setting) (trace : List Entry) (set : Visits) (j p : ℕ) → IsSerial c trace →
    In (lacked_by c.partitions trace set) j p → IsTouching trace j p × (Has c.partitions trace set j p → ⊥)
lacked_says c [] set j p serial is = absurd (true≢false (sym is))
lacked_says c (Given q bytes ∷ older) set j p serial is =
    let r = lacked_says c older set j p serial.1 is in
    (inr r.0, λ has. r.1 (fewer c.partitions (Given q bytes) older set j p (λ v. v) has))
lacked_says c (Visited k q o ∷ older) set j p serial is = elim (or_cases _ _ is) [
  | inl here ↦
      let e = in_one k q _ j p here in
      let parts = and_parts (is_touching o) (not (is_had c.partitions set older k q o)) e.2 in
      let alone = once c older k q o serial in (
        inl (e.0, sym e.1, parts.0),
        λ has. true≢false (sym (had_here c.partitions set older k q o
            (subst (λ x. Has c.partitions (Visited k q o ∷ older) set x q) (sym e.0)
            (subst (λ x. Has c.partitions (Visited k q o ∷ older) set j x) e.1 has)) alone) ∙ not-true _ parts.1),
      )
  | inr there ↦
      let r = lacked_says c older set j p serial.1 there in (
        inr r.0,
        λ has. r.1 (fewer c.partitions (Visited k q o) older set j p
            (λ v. once c older k q o serial
            (subst (λ x. IsSomeVisit older x q) (sym v.0)
            (subst (λ x. IsSomeVisit older j x) (sym v.1)
            (stands_map _ (λ u. Unit {0}) (λ u t. tt) older j p r.0)))) has),
      )
]

pub lacked_has : (c : Setting) (trace : List Entry) (set : Visits) (j p : ℕ) → IsSerial c trace → IsTouching trace j p →
    (Has c.partitions trace set j p → ⊥) → In (lacked_by c.partitions trace set) j p
lacked_has c [] set j p serial touching lacks = absurd touching
lacked_has c (Given q bytes ∷ older) set j p serial touching lacks = elim touching [
  | inl here ↦ absurd here
  | inr there ↦ lacked_has c older set j p serial.1 there
      (λ has. lacks (more c.partitions (Given q bytes) older set j p (λ v. v) has))
]
lacked_has c (Visited k q o ∷ older) set j p serial touching lacks = elim touching [
  | inl here ↦
      let alone = once c older k q o serial in
      or_left _ _ (and_from ((j == k)
      && (p == q)) _ (and_from (j == k) (p == q) (eq-eqb j k (sym here.0)) (eq-eqb p q (sym here.1)))
      (and_from (is_touching o) _ here.2
      (not_from_false _ (false_from_ne_true (is_had c.partitions set older k q o) (λ is.
      lacks (subst (λ x. Has c.partitions (Visited k q o ∷ older) set x p) here.0
      (subst (λ x. Has c.partitions (Visited k q o ∷ older) set k x) here.1
      (here_had c.partitions set older k q o alone is))))))))
  | inr there ↦ or_right (just_of k q o set older j p) _
      (lacked_has c older set j p serial.1 there (λ has. lacks (more c.partitions (Visited k q o) older set j p
      (λ v. once c older k q o serial
      (subst (λ x. IsSomeVisit older x q) (sym v.0)
      (subst (λ x. IsSomeVisit older j x) (sym v.1)
      (stands_map _ (λ u. Unit {0}) (λ u t. tt) older j p there)))) has)))
]
  where
    just_of : ℕ → ℕ → Outcome → Visits → List Entry → ℕ → ℕ → Bool
    just_of k q o set older x y = just k q (is_touching o && not (is_had c.partitions set older k q o)) x y

-- the list of the undone visits
pub undone_exact : (c : Setting) (s : ChainState) (r t : ℕ) → 0 < servers c → r < servers c → t < servers c →
    IsSerial c s.trace → (j p : ℕ) → In (names (in_order (is_undone c s r t) s.trace)) j p ↔ IsUndone c s r t j p
undone_exact c s r t some rl tl serial j p = (
  λ is.
      let got = in_order_says (is_undone c s r t) s.trace j p is in
      let found = up_to_says (λ i. is_undone_itself c s r t i p) j got.0 in
      let i = found.0 in
      let parts = and_parts (is_between (servers c) r t i) _ found.2 in
      let gap = and_parts (nat_lt 0 (apart (servers c) r i)) _ parts.0 in
      let lacked = lacked_says c s.trace (s.lists t) i p serial parts.1 in
      (i, found.1, (lacked.0, ltb-true _ _ gap.0, spanned i (ltb-true _ _ gap.1), lacked.1), got.1),
  λ u.
      let i = u.0 in
      let root = u.2 in
      let il : i < servers c = stands_below c some _ s.trace serial i p root.0 in
      in_order_has (is_undone c s r t) s.trace j p
      (up_to_has (λ i. is_undone_itself c s r t i p) j i u.1
      (and_from (is_between (servers c) r t i) _
      (and_from (nat_lt 0 (apart (servers c) r i)) _ (lt-ltb _ _ root.1) (lt-ltb _ _ (spanning i il root.2)))
      (lacked_has c s.trace (s.lists t) i p serial root.0 root.3)))
      u.3,
)
  where
    spanned : (i : ℕ) → apart (servers c) r i < span (servers c) r t →
        (r ≡ t) ⊎ (apart (servers c) r i < apart (servers c) r t)
    spanned i = elim (r == t) as (λ b. r == t ≡ b →
        apart (servers c) r i < (if b then servers c else apart (servers c) r t) →
        (r ≡ t) ⊎ (apart (servers c) r i < apart (servers c) r t)) [
          | true ↦ λ e less. inl (eqb-true r t e)
          | false ↦ λ e less. inr less
        ] refl

    spanning : (i : ℕ) → i < servers c → (r ≡ t) ⊎ (apart (servers c) r i < apart (servers c) r t) →
        apart (servers c) r i < span (servers c) r t
    spanning i il = elim (r == t) as (λ b. r == t ≡ b → (r ≡ t) ⊎ (apart (servers c) r i < apart (servers c) r t) →
        apart (servers c) r i < (if b then servers c else apart (servers c) r t)) [
          | true ↦ λ e h. let ri = apart_cases (servers c) r i rl il in omega arith
          | false ↦ λ e h. elim h [ inl same ↦ absurd (eqb-false r t e same) | inr less ↦ less ]
        ] refl

-- the same of the list with which a recovery is legal
pub undone_listed : (c : Setting) (s : ChainState) (k : ℕ) (undone : List VisitName) → undone ≡ undone_visits c s k →
    0 < servers c → previous_live c s k < servers c → following_live c s k < servers c → IsSerial c s.trace
    → (j p : ℕ) → In (names undone) j p ↔ IsUndone c s (previous_live c s k) (following_live c s k) j p
undone_listed c s k undone same some rl tl serial j p =
    subst (λ (list : List VisitName). In (names list) j p
    ↔ IsUndone c s (previous_live c s k) (following_live c s k) j p) (sym same)
    (undone_exact c s (previous_live c s k) (following_live c s k) some rl tl serial j p)
