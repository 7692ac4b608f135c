-- When a set has a visit.
use Rattle.std.proofs.Common.{◌≡◌, ℕ, ◌<◌, ◌≤◌, ◌==◌, ◌&&◌, if◌then◌else◌, Bool, true, false, not, List, ◌∷◌, inl, inr}
use Rattle.std.proofs.Common.{refl, sym, subst, ◌∙◌, arith}
use Rattle.std.proofs.lemmas.Bool.{true≢false, cases_eq, cases_lt, true_from_ne_false}
use Rattle.ftc_protocol.proofs.ServerLists.{AreLists}
use Rattle.ftc_protocol.specs.State.{ChainState}
use Rattle.ftc_serial.specs.Serial.{Entry, Given}
use Rattle.ftc_protocol.specs.Trace.{Has, IsBefore, IsChanging, IsTouching}
use Rattle.ftc_protocol.specs.Visits.{In, Visits}
use Rattle.ftc_protocol.proofs.RecoveryBetween.{IsBetween, fetched_r, fetched_t}
use Rattle.ftc_protocol.proofs.RingDistances.{IsLastLive, IsNextLive, apart_cases}
use Rattle.ftc_protocol.proofs.MemberNesting.{IsNested}
use Rattle.ftc_protocol.proofs.UndoneVisits.{IsUndone}
use Rattle.ftc_protocol.specs.Setting.{Setting, is_member, servers}
use Rattle.ftc_ring.specs.Ring.{apart}
use Rattle.ftc_protocol.proofs.TraceLemmas.{before_first, stands_map, visit_stood}
use Rattle.ftc_protocol.proofs.CarriedLogs.{has_more}
use Rattle.ftc_protocol.specs.Changes.{is_touching}
use Rattle.ftc_serial.specs.Removal.{left_of}
use Rattle.ftc_protocol.specs.Recovery.{list_got}
use Rattle.ftc_protocol.specs.Next.{pulled_list}

pub in_stable : (set : Visits) (j p : ℕ) → ((In set j p → ⊥) → ⊥) → In set j p
in_stable set j p h = true_from_ne_false (set j p) (λ e. h (λ is. true≢false (sym is ∙ e)))

pub has_stable : (part : ℕ) (trace : List Entry) (set : Visits) (j p : ℕ) → ((Has part trace set j p → ⊥) → ⊥) →
    Has part trace set j p
has_stable part trace set j p h = record {
  changing = λ is. in_stable set j p (λ not_in. h (λ has. not_in (has.changing is)));
  other = λ not_changing q before. in_stable set j q (λ not_in. h (λ has. not_in (has.other not_changing q before)));
}

pub has_given : (part : ℕ) (trace : List Entry) (x : ℕ) (bytes : (List ℕ)) (set : Visits) (j p : ℕ) →
    Has part trace set j p → Has part (Given x bytes ∷ trace) set j p
has_given part trace x bytes set j p h = record {
  changing = λ is. elim is [ inl here ↦ absurd here | inr there ↦ h.changing there ];
  other = λ not_changing q before. elim before [
    | inl here ↦ absurd here.0
    | inr there ↦
        h.other (λ is. not_changing (inr is)) q there
  ];
}

-- a set that has a visit has what is before it, and a set that has a changing visit has it
pub in_has : (part : ℕ) (trace : List Entry) (set : Visits) (j p : ℕ) → IsChanging part trace j p → In set j p →
    Has part trace set j p
in_has part trace set j p changing is =
    record { changing = λ _. is; other = λ not_changing q before. absurd (not_changing changing) }

module _ (c : Setting) (trace : List Entry) (up : ℕ → Bool) (has : ℕ →
    Visits) (lists : AreLists c trace up has) (nest : IsNested c up has) where
  -- a live head has each visit of its middlebox
  pub head_has : (j p : ℕ) → up j ≡ true → Has c.partitions trace (has j) j p
  head_has j p live = record {
    changing = λ is. lists.heads j p live is;
    other = λ not_changing q before. lists.heads j q live (before_first c.partitions trace j q p before);
  }

  -- what a member has, each live member before it has
  pub has_nested : (j i k p : ℕ) → i < (servers c) → up i ≡ true → apart (servers c) j i ≤ apart (servers c) j k →
      Has c.partitions trace (has k) j p → Has c.partitions trace (has i) j p
  has_nested j i k p below live le h =
      has_more c.partitions trace (has k) (has i) j p (λ q is. nest.nested j i k q below live le is) h

  -- a list that has a visit has each that is before it
  pub has_before : (k j p q : ℕ) → Has c.partitions trace (has k) j q → IsBefore c.partitions trace j p q →
      In (has k) j p
  has_before k j p q h before =
      in_stable (has k) j p (λ not_in. not_in
      (h.other (λ is. not_in (lists.closed k j p q (h.changing is) before)) p before))

pub pull_has : (c : Setting) (s : ChainState) (trace : List Entry) (l m j p : ℕ) →
    (is_member c j l && is_member c j m && not (j == m) ≡ true → Has c.partitions trace (s.lists l) j p) →
    (is_member c j l && is_member c j m && not (j == m) ≡ false → Has c.partitions trace (s.lists m) j p)
    → Has c.partitions trace (pulled_list c s l m) j p
pull_has c s trace l m j p a b =
    elim (is_member c j l && is_member c j m && not (j == m)) as (λ t. is_member c j l && is_member c j m
    && not (j == m) ≡ t → Has c.partitions trace (λ i q. pulled_list c s l m i q) j p) [
      | true ↦ λ is. has_more c.partitions trace (s.lists l) (pulled_list c s l m) j p
          (λ q h. subst (λ t. (if t then s.lists l j q else s.lists m j q) ≡ true) (sym is) h) (a is)
      | false ↦ λ is. has_more c.partitions trace (s.lists m) (pulled_list c s l m) j p
          (λ q h. subst (λ t. (if t then s.lists l j q else s.lists m j q) ≡ true) (sym is) h) (b is)
    ] refl

module _ (c : Setting) (s : ChainState) (m r t : ℕ) (inside : m < (servers c)) (down : s.up m ≡ false)
    (before : IsLastLive (servers c) s.up m r) (after : IsNextLive (servers c) s.up m t) where
  pub recover_has : (j p : ℕ) → apart (servers c) j m ≤ c.failures
      → (apart (servers c) r m ≤ apart (servers c) j m → Has c.partitions s.trace (s.lists r) j p) →
      (apart (servers c) j m < apart (servers c) r m → Has c.partitions s.trace (s.lists t) j p)
      → Has c.partitions s.trace (list_got c s m r t) j p
  recover_has j p member a b = elim (cases_lt (apart (servers c) j m) (apart (servers c) r m)) [
    | inr head ↦ has_more c.partitions s.trace (s.lists r) (list_got c s m r t) j p
        (λ q. fetched_r c s m r t inside down before after j q member head) (a head)
    | inl head ↦ has_more c.partitions s.trace (s.lists t) (list_got c s m r t) j p
        (λ q. fetched_t c s m r t inside down before after j q member head) (b head)
  ]

  -- a head that lies after r up to m lies between r and t
  pub between_by : (i : ℕ) → i < (servers c) → apart (servers c) i m < apart (servers c) r m →
      IsBetween (servers c) r t i
  between_by i il head =
      let n = (servers c) in
      let im = apart_cases n i m il inside in let rm = apart_cases n r m before.below inside in let ri =
      apart_cases n r i before.below il in
      let mt = apart_cases n m t inside after.below in let rt = apart_cases n r t before.below after.below in (
        omega arith,
        elim (cases_eq r t) [
          | inl same ↦ inl same
          | inr other ↦ elim (cases_lt (apart n r i) (apart n r t)) [
            | inl less ↦ inr less
            | inr more ↦
                let tm = apart_cases n t m after.below inside in
                absurd (true≢false (sym after.live ∙ before.between t after.below (omega arith) (omega arith)))
          ]
        ],
      )

  -- what is left and has its head between, t has
  pub left_had : (gone : Visits) → ((j p : ℕ) → IsUndone c s r t j p → In gone j p) → (i p : ℕ) →
      IsTouching (left_of gone s.trace) i p → IsBetween (servers c) r t i → Has c.partitions s.trace (s.lists t) i p
  left_had gone exact i p touching between =
      let stood = visit_stood gone (λ o. is_touching o ≡ true) s.trace i p touching in
      has_stable c.partitions s.trace (s.lists t) i p
      (λ lacks. true≢false (sym (exact i p (
        i,
        omega arith,
        (stood.0, between.0, between.1, lacks),
        stands_map _ (λ o. Unit {0}) (λ o t'. tt) s.trace i p stood.0,
      )) ∙ stood.1))
