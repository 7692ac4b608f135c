-- The trace now: the visits that don't stand can be taken out.
use Rattle.std.proofs.Common.{◌≡◌, ℕ, ◌+◌, ◌-◌, ◌<◌, ◌≤◌, true, false, List, [], ◌∷◌, inl, inr, refl, sym, subst, ◌∙◌}
use Rattle.std.proofs.Common.{arith}
use Rattle.std.proofs.lemmas.Bool.{true≢false, cases_eq, cases_lt, leb-true, false_from_ne_true}
use Rattle.ftc_ring.specs.Ring.{IsRing, apart}
use Rattle.ftc_protocol.specs.Moment.{first_live}
use Rattle.ftc_protocol.proofs.FirstLive.{IsFirst, first_there}
use Rattle.ftc_protocol.proofs.StandingVisits.{IsStanding, IsFallen}
use Rattle.ftc_serial.specs.Words.{AnyOf}
use Rattle.ftc_protocol.specs.State.{ChainState}
use Rattle.ftc_serial.specs.Serial.{Entry, Given, Visited}
use Rattle.ftc_protocol.specs.Trace.{Has, IsBefore, IsInTrace, IsSomeVisit, IsTouching, IsVisit, content_of}
use Rattle.ftc_protocol.specs.Visits.{In, Visits}
use Rattle.ftc_protocol.proofs.Invariant.{Inv}
use Rattle.ftc_protocol.proofs.Premises.{IsAdmissible, IsGood}
use Rattle.ftc_serial.specs.History.{IsAlike, IsClosedHistory}
use Rattle.ftc_protocol.proofs.Places.{IsSerial, serial_of}
use Rattle.ftc_protocol.specs.Changes.{Meets}
use Rattle.ftc_serial.specs.Take.{Outcome}
use Rattle.ftc_protocol.specs.Setting.{Setting, servers, shape}
use Rattle.ftc_protocol.proofs.VisitsPassed.{Somehow, some_stands}
use Rattle.ftc_serial.specs.Removal.{Takes, left_of}
use Rattle.ftc_protocol.proofs.UndoneRemoval.{all_of, among, before_touching}
use Rattle.ftc_protocol.proofs.TraceLemmas.{store_left, any_map, before_first, visit_stood}
use Rattle.ftc_protocol.proofs.EarlierVisits.{visited_earlier}
use Rattle.ftc_protocol.proofs.RingDistances.{apart_cases}
use Rattle.ftc_protocol.proofs.SmallEvents.{fit_now}
use Rattle.ftc_protocol.proofs.HavingVisits.{has_before, has_stable, in_has}
use Rattle.ftc_protocol.proofs.ListStores.{stands_below, store_all, touching_changing}
use Rattle.ftc_protocol.proofs.TraceRemoval.{taken_out}
use Rattle.ftc_protocol.proofs.ChangeLaws.{written_changed}

-- a set of visits with which go those that they are before, and the later ones of their packets, none of which is
-- released
closed_by : (c : Setting) → 0 < (servers c) → (trace : List Entry) (gone : Visits)
    → ((j p q : ℕ) → In gone j p → IsBefore c.partitions trace j p q → In gone j q)
    → ((j k p : ℕ) → In gone j p → j < k → IsInTrace Somehow trace j p → IsInTrace Somehow trace k p → In gone k p)
    → ((j p : ℕ) (bytes : (List ℕ)) → In gone j p → IsInTrace Somehow trace j p → AnyOf (λ e. e ≡ Given p bytes) trace →
    ⊥)
    → (es : List Entry) → IsSerial c es →
    ((j p q : ℕ) → IsBefore c.partitions es j p q → IsBefore c.partitions trace j p q) →
    ((P : Entry → Type 0) → AnyOf P es → AnyOf P trace)
    → IsClosedHistory c.partitions gone es
closed_by c some trace gone before later released [] is lift up' = tt
closed_by c some trace gone before later released (e ∷ older) is lift up' = (
  all_of (λ v. Takes c.partitions gone v e) older
      (takes e is lift (λ P a. up' P (inr a)) (up' (λ x. x ≡ e) (inl refl))),
  closed_by c some trace gone before later released older is.1 (λ j p q b. lift j p q (inr b))
      (λ P a. up' P (inr a)),
)
  where
    takes : (e : Entry) → IsSerial c (e ∷ older) →
        ((j p q : ℕ) → IsBefore c.partitions (e ∷ older) j p q → IsBefore c.partitions trace j p q) →
        ((P : Entry → Type 0) → AnyOf P older → AnyOf P trace) → AnyOf (λ x. x ≡ e) trace
        → (v : Entry) → AnyOf (λ x. x ≡ v) older → Takes c.partitions gone v e
    takes e is lift lifts stands (Given p bytes) a goes why = absurd (true≢false (sym goes))
    takes (Given q bytes) is lift lifts stands (Visited j p u) a goes why = elim why [
      | inl b ↦ absurd b.2
      | inr same ↦ absurd (released j p bytes goes (lifts _ (among Somehow older j p u a tt))
          (subst (λ v. AnyOf (λ x. x ≡ Given v bytes) trace) (sym same) stands))
    ]
    takes (Visited k q o) is lift lifts stands (Visited j p u) a goes why = elim why [
      | inl b ↦
          let changes = written_changed c.partitions u b.0 b.1 in
          let named : IsBefore c.partitions trace j p q =
          lift j p q (inl (
            refl,
            (
              b.2.0,
              among (λ v. Meets c.partitions v o) older j p u a (b.0, changes, b.2.1),
            ),
          )) in
          subst (λ v. gone v q ≡ true) (sym b.2.0) (before j p q goes named)
      | inr same ↦
          let below : j < k = visited_earlier c older k q is.0.0 is.1 is.0.1 j
          (subst (λ v. IsInTrace Somehow older j v) same (among Somehow older j p u a tt)) in
          subst (λ v. gone k v ≡ true) same
          (later j k p goes below (lifts _ (among Somehow older j p u a tt))
          (subst (λ v. IsInTrace Somehow trace k v) (sym same)
          (any_map _ (IsVisit Somehow k q) (λ x i. subst (IsVisit Somehow k q) (sym i) (
            refl,
            refl,
            tt,
          )) trace stands)))
    ]

module _ (c : Setting) (good : IsGood c) (ring : IsRing (shape c)) (s : ChainState) (h : Inv c s) where
  pub admissible : IsAdmissible c s.up
  admissible = fit_now c s.up s.lines h.fit

  first_live_by : (j : ℕ) → j < (servers c) → (k : ℕ) × IsFirst c s j k
  first_live_by j jl = (first_live c s j, first_there c s ring admissible j jl)

  pub below : (P : Outcome → Type 0) (i q : ℕ) → IsInTrace P s.trace i q → i < (servers c)
  below P i q t' = stands_below c good.some P s.trace h.world.serial i q t'

  -- who has a visit: the first live member of an earlier group has the packet's earlier visit
  pub first_earlier : (i j k m p : ℕ) → i ≤ j → IsTouching s.trace i p → In (s.lists k) j p → IsFirst c s i m →
      Has c.partitions s.trace (s.lists m) i p
  first_earlier i j k m p le touching is first =
      let n = (servers c) in
      let w = h.world.nest.member k j p is in
      let jl : j < n = w.2 in let il : i < n = omega arith in
      let member : apart n i m ≤ c.failures = leb-true _ _ first.member in
      elim (cases_lt (apart n i m) ((j - i) + 1)) [
        | inl near ↦ h.world.passed i j p le touching
            (some_stands _ s.trace j p (h.world.lists.listed k j p is).1) m first.inside first.up member near
        | inr far ↦
            let im = apart_cases n i m il first.inside in let jm = apart_cases n j m jl first.inside in let jk =
            apart_cases n j k jl w.1 in let ik = apart_cases n i k il w.1 in
            let nearer : apart n j m ≤ apart n j k = elim (cases_lt (apart n j k) (apart n j m)) [
              | inl less ↦ absurd (true≢false (sym w.0 ∙ first.first k w.1 (omega arith)))
              | inr more ↦ more
            ] in
            let had : In (s.lists m) j p = h.world.nest.nested j m k p first.inside first.up nearer is in
            elim (cases_eq i j) [
              | inl same ↦ subst (λ v. Has c.partitions s.trace (s.lists m) v p) (sym same)
                  (in_has c.partitions s.trace (s.lists m) j p (h.world.lists.listed k j p is).1 had)
              | inr other ↦ h.world.earlier m i j p had (omega arith) touching member
            ]
      ]

  -- a visit that some live server has stands
  pub stands_had : (k j p : ℕ) → In (s.lists k) j p → IsStanding c s j p
  stands_had k j p is i m le touching first = first_earlier i j k m p le touching is first

  touched : (P : Outcome → Type 0) (j p : ℕ) → IsInTrace P s.trace j p → IsSomeVisit s.trace j p
  touched P j p st = some_stands P s.trace j p st

  module _ (fallen : Visits) (exact : IsFallen c s fallen) where
    pub upright : (j p : ℕ) → IsSomeVisit s.trace j p → IsStanding c s j p → fallen j p ≡ false
    upright j p st standing = false_from_ne_true (fallen j p) (λ e. (exact j p st).0 e standing)

    closed : IsClosedHistory c.partitions fallen s.trace
    closed = closed_by c good.some s.trace fallen
        (λ j p q goes b.
        let first = touched _ j p (before_first c.partitions s.trace j p q b) in
        let touching = before_touching c.partitions s.trace j p q b in
        let jl = below _ j q touching in
        let live = first_live_by j jl in
        (exact j q (touched _ j q touching)).1 (λ standing. (exact j p first).0 goes
        (stands_had live.0 j p (has_before c s.trace s.up s.lists h.world.lists h.world.nest live.0 j p q
        (standing j live.0 (omega arith) touching live.1) b))))
        (λ j k p goes less st_j st_k. (exact k p st_k).1
        (λ standing. (exact j p st_j).0 goes (λ i m le touching first. standing i m (omega arith) touching first)))
        (λ j p bytes goes st given. (exact j p st).0 goes (λ i m le touching first.
        let il = below _ i p touching in let im = apart_cases (servers c) i m il first.inside in
        h.world.released p bytes given i touching m first.inside first.up (leb-true _ _ first.member) (omega arith)))
        s.trace h.world.serial (λ j p q b. b) (λ P a. a)

    pub out : IsSerial c (left_of fallen s.trace)
        × IsAlike c.partitions fallen (serial_of c s.trace) (serial_of c (left_of fallen s.trace)) s.trace
    out = taken_out c fallen s.trace h.world.serial closed

    pub first_store : (j k : ℕ) → j < (servers c) → IsFirst c s j k →
        content_of s.trace (s.lists k j) j ≡ (serial_of c (left_of fallen s.trace)).maps j
    first_store j k jl first =
        store_left fallen s.trace j (s.lists k j)
        (λ p st g. false_from_ne_true (s.lists k j p)
        (λ is. true≢false (sym g ∙ upright j p st (stands_had k j p is))))
        ∙ store_all c good.sound (left_of fallen s.trace) out.0 j (s.lists k j) (λ p changing.
        let was = visit_stood fallen _ s.trace j p changing in
        let touching = touching_changing c good.sound s.trace h.world.serial j p was.0 in
        let had : Has c.partitions s.trace (s.lists k) j p =
        has_stable c.partitions s.trace (s.lists k) j p
        (λ lacks. true≢false (sym
        ((exact j p (touched _ j p was.0)).1
        (λ standing. lacks (standing j k (omega arith) touching first))) ∙ was.1)) in
        had.changing was.0)
