-- The visits that a recovery undoes can be taken out of the serial run.
use Rattle.std.proofs.Common.{◌≡◌, ℕ, ◌+◌, ◌-◌, ◌<◌, ◌≤◌, true, false, List, [], ◌∷◌, inl, inr, refl, sym, subst, arith}
use Rattle.std.proofs.Common.{◌↔◌}
use Rattle.std.specs.List.{AllByRecursion}
use Rattle.std.proofs.lemmas.Bool.{true≢false, cases_eq, cases_lt}
use Rattle.ftc_serial.specs.Words.{AnyOf}
use Rattle.ftc_protocol.proofs.ServerLists.{AreLists}
use Rattle.ftc_protocol.specs.State.{ChainState}
use Rattle.ftc_serial.specs.Serial.{Entry, Given, Visited}
use Rattle.ftc_protocol.specs.Trace.{Has, IsBefore, IsChanging, IsInTrace, IsTouching, IsVisit}
use Rattle.ftc_protocol.specs.Visits.{In, Visits}
use Rattle.ftc_protocol.proofs.Premises.{IsAdmissible}
use Rattle.ftc_protocol.proofs.RecoveryBetween.{IsBetween, member_after}
use Rattle.ftc_serial.specs.History.{IsClosedHistory}
use Rattle.ftc_protocol.proofs.VisitsPassed.{IsEarlier, IsPassed, Somehow, some_stands}
use Rattle.ftc_protocol.proofs.RingDistances.{IsLastLive, IsNextLive, apart_cases}
use Rattle.ftc_protocol.proofs.MemberNesting.{IsNested}
use Rattle.ftc_protocol.proofs.Places.{IsSerial, IsSoundTaking}
use Rattle.ftc_protocol.proofs.UndoneVisits.{IsUndone}
use Rattle.ftc_protocol.proofs.GroupDistance.{IsWithin}
use Rattle.ftc_protocol.specs.Changes.{Meets, is_touching}
use Rattle.ftc_serial.specs.Take.{Outcome}
use Rattle.ftc_protocol.specs.Setting.{Setting, servers}
use Rattle.ftc_serial.specs.Removal.{Takes}
use Rattle.ftc_protocol.proofs.TraceLemmas.{any_map, before_first}
use Rattle.ftc_protocol.proofs.EarlierVisits.{visited_earlier}
use Rattle.ftc_ring.specs.Ring.{apart}
use Rattle.ftc_protocol.proofs.HavingVisits.{has_before, in_has}
use Rattle.ftc_protocol.proofs.ListStores.{some_any, stands_below}
use Rattle.ftc_protocol.proofs.ChangeLaws.{written_changed}

pub before_touching : (part : ℕ) (trace : List Entry) (j p q : ℕ) → IsBefore part trace j p q → IsTouching trace j q
before_touching part [] j p q h = absurd h
before_touching part (Given x bytes ∷ older) j p q h =
    elim h [ inl here ↦ absurd here.0 | inr there ↦ inr (before_touching part older j p q there) ]
before_touching part (Visited k x o ∷ older) j p q h = elim h [
  | inl here ↦ inl (here.1.0, here.0, some older here.1.1)
  | inr there ↦ inr (before_touching part older j p q there)
]
  where
    some : (es : List Entry) → IsInTrace (λ v. Meets part v o) es j p → is_touching o ≡ true
    some [] a = absurd a
    some (Visited i y u ∷ es) a = elim a [ inl m ↦ some_any _ o.answers m.2.2 | inr b ↦ some es b ]
    some (Given y bytes ∷ es) a = elim a [ inl m ↦ absurd m | inr b ↦ some es b ]

pub all_of : {A : Type 0} (Q : A → Type 0) (xs : List A) → ((x : A) → AnyOf (λ y. y ≡ x) xs → Q x) → AllByRecursion Q xs
all_of Q [] f = tt
all_of Q (x ∷ xs) f = (f x (inl refl), all_of Q xs (λ y a. f y (inr a)))

pub among : (P : Outcome → Type 0) (es : List Entry) (j p : ℕ) (o : Outcome) → AnyOf (λ e. e ≡ Visited j p o) es → P o →
    IsInTrace P es j p
among P es j p o a h = any_map _ (IsVisit P j p) (λ e is. subst (IsVisit P j p) (sym is) (refl, refl, h)) es a

module _ (c : Setting) (s : ChainState) (some : 0 < (servers c)) (sound : IsSoundTaking c)
    (lists : AreLists c s.trace s.up s.lists) (nest : IsNested c s.up s.lists)
    (true' : IsSerial c s.trace) (passed : IsPassed c s.trace s.up s.lists) (earlier : IsEarlier c s.trace s.lists)
    (released : (q : ℕ) (bytes : (List ℕ)) → AnyOf (λ e. e ≡ Given q bytes) s.trace → (i : ℕ) → IsTouching s.trace i q →
    IsWithin c s.trace s.up s.lists i q (servers c))
    (admissible : IsAdmissible c s.up) (m r t : ℕ) (inside : m < (servers c)) (down : s.up m
    ≡ false) (before : IsLastLive (servers c) s.up m r) (after : IsNextLive (servers c) s.up m t) where
  -- an undone visit has its head between the live servers, and the next live server lacks it
  pub head_between : (j p : ℕ) → IsUndone c s r t j p → IsInTrace Somehow s.trace j p → IsBetween (servers c) r t j
  head_between j p u stands =
      let n = (servers c) in let i = u.0 in let root = u.2 in let le : i ≤ j = u.1 in
      let jl : j < n = stands_below c some Somehow s.trace true' j p stands in
      let il : i < n = omega arith in
      let member : apart n i t ≤ c.failures =
      member_after c s m r t inside down before after admissible i il (root.1, root.2) in
      elim (cases_lt (apart n i t) ((j - i) + 1)) [
        | inl near ↦ absurd (root.3 (passed i j p le root.0 stands t after.below after.live member near))
        | inr far ↦
            let ri = apart_cases n r i before.below il in let it = apart_cases n i t il after.below in let rt =
            apart_cases n r t before.below after.below in let rj = apart_cases n r j before.below jl in
            let pos : 0 < apart n r i = root.1 in
            elim root.2 [ inl same ↦ (omega arith, inl same) | inr less ↦ (omega arith, inr (omega arith)) ]
      ]

  pub lacks : (j p : ℕ) → IsUndone c s r t j p → IsChanging c.partitions s.trace j p → In (s.lists t) j p → ⊥
  lacks j p u changing is =
      let n = (servers c) in let i = u.0 in let root = u.2 in let le : i ≤ j = u.1 in
      let jl : j < n = (nest.member t j p is).2 in let il : i < n = omega arith in
      elim (cases_eq i j) [
        | inl same ↦ root.3 (subst (λ v. Has c.partitions s.trace (s.lists t) v p) (sym same)
            (in_has c.partitions s.trace (s.lists t) j p changing is))
        | inr other ↦ root.3 (earlier t i j p is (omega arith) root.0
            (member_after c s m r t inside down before after admissible i il (root.1, root.2)))
      ]

  pub undone_before : (j p q : ℕ) → IsUndone c s r t j p → IsBefore c.partitions s.trace j p q → IsUndone c s r t j q
  undone_before j p q u is =
      let first = before_first c.partitions s.trace j p q is in
      let between = head_between j p u (some_stands _ s.trace j p first) in (
        j,
        omega arith,
        (
          before_touching c.partitions s.trace j p q is,
          between.0,
          between.1,
          λ h. lacks j p u first (has_before c s.trace s.up s.lists lists nest t j p q h is),
        ),
        some_stands _ s.trace j q (before_touching c.partitions s.trace j p q is),
      )

  pub closed_now : (gone : Visits) → ((j p : ℕ) → In gone j p ↔ IsUndone c s r t j p) → (es : List Entry) →
      IsSerial c es
      → ((j p q : ℕ) → IsBefore c.partitions es j p q → IsBefore c.partitions s.trace j p q) →
      ((e : Entry) → AnyOf (λ x. x ≡ e) es → AnyOf (λ x. x ≡ e) s.trace)
      → IsClosedHistory c.partitions gone es
  closed_now gone exact [] is lift up' = tt
  closed_now gone exact (e ∷ older) is lift up' = (
    all_of (λ v. Takes c.partitions gone v e) older (takes e is lift (up' e (inl refl))),
    closed_now gone exact older is.1 (λ j p q b. lift j p q (inr b)) (λ x a. up' x (inr a)),
  )
    where
      takes : (e : Entry) → IsSerial c (e ∷ older) →
          ((j p q : ℕ) → IsBefore c.partitions (e ∷ older) j p q → IsBefore c.partitions s.trace j p q) →
          AnyOf (λ x. x ≡ e) s.trace
          → (v : Entry) → AnyOf (λ x. x ≡ v) older → Takes c.partitions gone v e
      takes e is lift stands (Given p bytes) a goes why = absurd (true≢false (sym goes))
      takes (Given q bytes) is lift stands (Visited j p u) a goes why = elim why [
        | inl b ↦ absurd b.2
        | inr same ↦
            let root = (exact j p).0 goes in
            let lacking = root.2.3 in
            let jl : j < (servers c) = stands_below c some Somehow older is.1 j p (among Somehow older j p u a tt) in
            let il : root.0 < (servers c) = omega (arith, root.1) in
            let it = apart_cases (servers c) root.0 t il after.below in
            absurd (lacking (subst (λ v. Has c.partitions s.trace (s.lists t) root.0 v) (sym same)
            (released q bytes stands root.0
            (subst (λ v. IsTouching s.trace root.0 v) same root.2.0) t after.below after.live
            (member_after c s m r t inside down before after admissible root.0 il (root.2.1, root.2.2)) (omega arith))))
      ]
      takes (Visited k q o) is lift stands (Visited j p u) a goes why = elim why [
        | inl b ↦
            let changes = written_changed c.partitions u b.0 b.1 in
            let named : IsBefore c.partitions s.trace j p q =
            lift j p q (inl (
              refl,
              (
                b.2.0,
                among (λ v. Meets c.partitions v o) older j p u a (b.0, changes, b.2.1),
              ),
            )) in
            subst (λ v. gone v q ≡ true) (sym b.2.0) ((exact j q).1 (undone_before j p q ((exact j p).0 goes) named))
        | inr same ↦
            let below : j < k = visited_earlier c older k q is.0.0 is.1 is.0.1 j
            (subst (λ v. IsInTrace Somehow older j v) same (among Somehow older j p u a tt)) in
            let root = (exact j p).0 goes in
            (exact k q).1 (subst (λ v. IsUndone c s r t k v) same (
              root.0,
              omega (arith, root.1),
              root.2,
              among Somehow s.trace k p o (subst (λ v. AnyOf (λ x. x ≡ Visited k v o) s.trace) (sym same) stands) tt,
            ))
      ]
