-- Where a packet has been, the live members have its visits; and who has a later visit of a packet has the earlier
-- ones.
use Rattle.std.proofs.Common.{◌≡◌, ◌≢◌, ℕ, ◌+◌, ◌-◌, ◌<◌, ◌≤◌, ◌==◌, ◌&&◌, if◌then◌else◌, Bool, true, false, not, List}
use Rattle.std.proofs.Common.{◌∷◌, ◌⊎◌, inl, inr, refl, sym, subst, ◌∙◌, arith, nat_le}
use Rattle.std.proofs.lemmas.Bool.{true≢false, eqb-false, cases_eq, cases_lt, and_parts, and_from, not-true, le-leb}
use Rattle.std.proofs.lemmas.Bool.{leb-true, leb-false, not_from_false, ne_eqb}
use Rattle.ftc_protocol.proofs.ServerLists.{AreLists}
use Rattle.ftc_protocol.proofs.Sets.{gained, kept}
use Rattle.ftc_protocol.specs.State.{ChainState}
use Rattle.ftc_serial.specs.Serial.{Entry, Given, Visited, after}
use Rattle.ftc_protocol.specs.Trace.{Has, IsChanging, IsInTrace, IsTouching}
use Rattle.ftc_protocol.specs.Visits.{In, Visits, just, no_visits, union}
use Rattle.ftc_protocol.proofs.RingDistances.{IsLastLive, IsNextLive, apart_after, apart_cases}
use Rattle.ftc_protocol.proofs.MemberNesting.{IsNested}
use Rattle.ftc_protocol.proofs.UndoneVisits.{IsUndone}
use Rattle.ftc_protocol.proofs.GroupDistance.{IsWithin}
use Rattle.ftc_serial.specs.Take.{Outcome}
use Rattle.ftc_protocol.specs.Setting.{Setting, is_member, servers}
use Rattle.ftc_ring.specs.Ring.{apart, next_of}
use Rattle.ftc_protocol.proofs.HavingVisits.{between_by, has_given, has_nested, head_has, left_had, pull_has}
use Rattle.ftc_protocol.proofs.HavingVisits.{recover_has}
use Rattle.ftc_protocol.proofs.CarriedLogs.{has_grown, has_left, has_more}
use Rattle.ftc_protocol.specs.Changes.{is_changing, is_touching}
use Rattle.ftc_serial.specs.Removal.{left_of}
use Rattle.ftc_protocol.specs.Recovery.{list_got}
use Rattle.ftc_protocol.specs.Next.{pulled_list}
use Rattle.ftc_protocol.proofs.TraceLemmas.{stands_map, visit_stood}
use Rattle.ftc_serial.specs.Words.{with_at}
use Rattle.ftc_serial.proofs.Functions.{with_at_cases}

abbrev pub Somehow : Outcome → Type 0
Somehow o = Unit {0}

abbrev pub IsPassed : Setting → List Entry → (ℕ → Bool) → (ℕ → Visits) → Type 0
IsPassed c trace up has = (i j p : ℕ) → i ≤ j → IsTouching trace i p → IsInTrace Somehow trace j p →
    IsWithin c trace up has i p ((j - i) + 1)

abbrev pub IsEarlier : Setting → List Entry → (ℕ → Visits) → Type 0
IsEarlier c trace has = (k i j p : ℕ) → In (has k) j p → i < j → IsTouching trace i p →
    apart (servers c) i k ≤ c.failures → Has c.partitions trace (has k) i p

pub some_stands : (P : Outcome → Type 0) (trace : List Entry) (j p : ℕ) → IsInTrace P trace j p →
    IsInTrace Somehow trace j p
some_stands P trace j p h = stands_map P Somehow (λ o t. tt) trace j p h

-- server k visits packet p
module _ (c : Setting) (trace : List Entry) (up : ℕ → Bool) (has : ℕ →
    Visits) (k p : ℕ) (o : Outcome) (kl : k < (servers c))
    (fresh : (j : ℕ) → IsInTrace Somehow trace j p → j < k)
    (ready : (i : ℕ) → i < k → IsTouching trace i p → apart (servers c) i k ≤ c.failures →
    Has c.partitions trace (has k) i p) where
  new_has : ℕ → Visits
  new_has = with_at has k (union (has k) (just k p (is_changing c.partitions o)))

  goes_on : (i q y : ℕ) → ((k ≡ i) × (p ≡ q) → ⊥) → Has c.partitions trace (has y) i q →
      Has c.partitions (Visited k p o ∷ trace) (new_has y) i q
  unfolding new_has
  goes_on i q y other h = has_more c.partitions (Visited k p o ∷ trace) (has y) (new_has y) i q
      (λ x is. kept has k k p (is_changing c.partitions o) y i x is)
      (has_grown c.partitions trace k p o (has y) i q other h)

  touched_before : (i q : ℕ) → IsTouching trace i q → (k ≡ i) × (p ≡ q) → ⊥
  touched_before i q t e =
      let below : i < k = fresh i (some_stands _ trace i p (subst (λ v. IsTouching trace i v) (sym e.1) t)) in
      let same : k ≡ i = e.0 in omega arith

  pub passed_visit : AreLists c (Visited k p o
      ∷ trace) up (with_at has k (union (has k) (just k p (is_changing c.partitions o)))) →
      IsNested c up (with_at has k (union (has k) (just k p (is_changing c.partitions o))))
      → ((i : ℕ) → i < k → IsTouching trace i p → IsWithin c trace up has i p (k - i)) → IsPassed c trace up has
      → IsPassed c (Visited k p o ∷ trace) up (with_at has k (union (has k) (just k p (is_changing c.partitions o))))
  unfolding new_has
  passed_visit lists nest within h i j q le touching stands y yl live member near =
      elim stands [
        | inl here ↦ elim touching [
          | inl own ↦
              let kj : k ≡ j = here.0 in let ki : k ≡ i = own.0 in let il : i < (servers c) = omega arith in
              let iy = apart_cases (servers c) i y il yl in
              let same : i ≡ y = omega arith in
              subst (λ v. Has c.partitions (Visited k p o ∷ trace) (new_has v) i q) same
              (head_has c (Visited k p o ∷ trace) up new_has lists nest i q
              (subst (λ v. up v ≡ true) (sym same) live))
          | inr old ↦
              let kj : k ≡ j = here.0 in
              let old' : IsTouching trace i p = subst (λ v. IsTouching trace i v) (sym here.1) old in
              let less : i < k = fresh i (some_stands _ trace i p old') in
              goes_on i q y (touched_before i q old)
              (subst (λ v. Has c.partitions trace (has y) i v) here.1
              (elim (cases_lt (apart (servers c) i y) (k - i)) [
                | inl near' ↦ within i less old' y yl live member near'
                | inr far ↦
                    let il : i < (servers c) = omega arith in
                    let iy = apart_cases (servers c) i y il yl in let ik = apart_cases (servers c) i k il kl in
                    let same : k ≡ y = omega arith in
                    subst (λ v. Has c.partitions trace (has v) i p) same (ready i less old' (omega arith))
              ]))
        ]
        | inr there ↦ elim touching [
          | inl own ↦ let below : j < k = fresh j (subst (λ v. IsInTrace Somehow trace j v) (sym own.1) there) in
              let same : k ≡ i = own.0 in absurd (omega arith)
          | inr old ↦ goes_on i q y (touched_before i q old) (h i j q le old there y yl live member near)
        ]
      ]

  pub earlier_visit : AreLists c trace up has → IsEarlier c trace has →
      IsEarlier c (Visited k p o ∷ trace) (with_at has k (union (has k) (just k p (is_changing c.partitions o))))
  unfolding new_has
  earlier_visit lists h x i j q is less touching member =
      elim (gained has k k p (is_changing c.partitions o) x j q is) [
        | inl old ↦ elim touching [
          | inl own ↦
              let stands : IsInTrace Somehow trace j p =
              some_stands _ trace j p (subst (λ v. IsChanging c.partitions trace j v) (sym own.1)
              (lists.listed x j q old).1) in
              let below : j < k = fresh j stands in let same : k ≡ i = own.0 in absurd (omega arith)
          | inr there ↦ goes_on i q x (touched_before i q there) (h x i j q old less there member)
        ]
        | inr n ↦
            let kj : k ≡ j = n.1 in
            elim touching [
              | inl own ↦ let same : k ≡ i = own.0 in absurd (omega arith)
              | inr there ↦ goes_on i q x (touched_before i q there)
                  (subst (λ v. Has c.partitions trace (has v) i q) (sym n.0)
                  (subst (λ v. Has c.partitions trace (has k) i v) (sym n.2)
                  (ready i (omega arith) (subst (λ v. IsTouching trace i v) n.2 there)
                  (subst (λ v. apart (servers c) i v ≤ c.failures) n.0 member))))
            ]
      ]

module _ (c : Setting) where
  pub earlier_apply : (trace : List Entry) (has : ℕ → Visits) (k j q : ℕ) →
      ((i : ℕ) → i < j → IsTouching trace i q → apart (servers c) i k ≤ c.failures → Has c.partitions trace (has k) i q)
      → IsEarlier c trace has → IsEarlier c trace (with_at has k (union (has k) (just j q true)))
  earlier_apply trace has k j q before h x i a p is less touching member =
      has_more c.partitions trace (has x) (with_at has k (union (has k) (just j q true)) x) i p
      (λ z m. kept has k j q true x i z m)
      (elim (gained has k j q true x a p is) [
        | inl old ↦ h x i a p old less touching member
        | inr n ↦ let ja : j ≡ a =
            n.1 in subst (λ v. Has c.partitions trace (has v) i p) (sym n.0)
            (subst (λ v. Has c.partitions trace (has k) i v) (sym n.2)
            (before i (omega arith) (subst (λ v. IsTouching trace i v) n.2 touching)
            (subst (λ v. apart (servers c) i v ≤ c.failures) n.0 member)))
      ])

  pub earlier_down : (trace : List Entry) (has : ℕ → Visits) (k : ℕ) → IsEarlier c trace has →
      IsEarlier c trace (with_at has k no_visits)
  earlier_down trace has k h x i j p =
      with_at_cases (λ (v : Visits). In v j p → i < j → IsTouching trace i p → apart (servers c) i x ≤ c.failures →
      Has c.partitions trace v i p) has k no_visits x
      (λ e is. absurd (true≢false (sym is)))
      (λ ne. h x i j p)

  pub earlier_given : (trace : List Entry) (has : ℕ → Visits) (q : ℕ) (bytes : (List ℕ)) → IsEarlier c trace has →
      IsEarlier c (Given q bytes ∷ trace) has
  earlier_given trace has q bytes h x i j p is less touching member =
      elim touching [
        | inl here ↦ absurd here
        | inr there ↦
            has_given c.partitions trace q bytes (has x) i p (h x i j p is less there member)
      ]

module _ (c : Setting) (s : ChainState) (lists : AreLists c s.trace s.up s.lists) (nest : IsNested c s.up s.lists) where
  pub earlier_pulls : (servers c) ≢ 1 → (l : ℕ) → l < (servers c) → s.up l ≡ true →
      s.up (next_of (servers c) l) ≡ true → IsEarlier c s.trace s.lists
      → IsEarlier c s.trace (with_at s.lists (next_of (servers c) l) (pulled_list c s l (next_of (servers c) l)))
  earlier_pulls several l lt live_l live_m h x i j p =
      let n = (servers c) in let m = next_of n l in
      with_at_cases (λ (v : Visits). In v j p → i < j → IsTouching s.trace i p → apart n i x ≤ c.failures →
      Has c.partitions s.trace v i p) s.lists m (pulled_list c s l m) x
      (λ e is less touching member_x.
      let member : apart n i m ≤ c.failures = subst (λ v. apart n i v ≤ c.failures) e member_x in
      elim (apart_after n l lt) [
        | inr alone ↦ absurd (several alone)
        | inl step ↦
            let st = step.0 in
            let from : (In (s.lists l) j p) ⊎ In (s.lists m) j p =
            elim (is_member c j l && is_member c j m && not (j == m)) as (λ b. (if b then s.lists l j p
            else s.lists m j p) ≡ true → In (s.lists l) j p ⊎ In (s.lists m) j p) [
              | true ↦ λ h. inl h
              | false ↦
                  λ h. inr h
            ] is in
            let jl : j < n = elim from [ inl a ↦ (nest.member l j p a).2 | inr b ↦ (nest.member m j p b).2 ] in
            let il : i < n = omega arith in
            let im = apart_cases n i m il step.1 in let ill = apart_cases n i l il lt in
            elim (cases_eq i m) [
              | inl own ↦
                  let head : Has c.partitions s.trace (s.lists m) i p =
                  subst (λ v. Has c.partitions s.trace (s.lists v) i p) own
                  (head_has c s.trace s.up s.lists lists nest i p (subst (λ v. s.up v ≡ true) (sym own) live_m)) in
                  pull_has c s s.trace l m i p (λ t. absurd (eqb-false i m (not-true _ (and_parts _ _ t).1) own))
                  (λ _. head)
              | inr other ↦
                  let near : apart n i l ≤ apart n i m = omega arith in
                  let far : apart n i l ≤ c.failures = omega arith in
                  let at_l : Has c.partitions s.trace (s.lists l) i p = elim from [
                    | inl a ↦ h l i j p a less touching far
                    | inr b ↦ has_nested c s.trace s.up s.lists lists nest i l m p lt live_l near
                        (h m i j p b less touching member)
                  ] in
                  pull_has c s s.trace l m i p (λ t. at_l)
                  (λ f. absurd (true≢false
                  (sym (and_from _ _ (and_from _ _ (le-leb _ _ far) (le-leb _ _ member))
                  (not_from_false _ (ne_eqb i m other))) ∙ f)))
            ]
      ])
      (λ ne. h x i j p)

  pub earlier_recovers : (m r t : ℕ) → m < (servers c) → s.up m ≡ false → IsLastLive (servers c) s.up m r →
      IsNextLive (servers c) s.up m t
      → (gone : Visits) → ((j p : ℕ) → IsUndone c s r t j p → In gone j p)
      → IsPassed c s.trace s.up s.lists → IsEarlier c s.trace s.lists
      → IsEarlier c (left_of gone s.trace) (with_at s.lists m (list_got c s m r t))
  earlier_recovers m r t inside down before after gone exact passed h x i j p is less touching member =
      let n = (servers c) in
      let stood : IsTouching s.trace i p = (visit_stood gone (λ o. is_touching o ≡ true) s.trace i p touching).0 in
      has_left c.partitions s.trace gone _ i p (with_at_cases (λ (v : Visits). In v j p → apart n i x ≤ c.failures →
      Has c.partitions s.trace v i p) s.lists m (list_got c s m r t) x
      (λ e is member_x.
      let im_member : apart n i m ≤ c.failures = subst (λ v. apart n i v ≤ c.failures) e member_x in
      let a = and_parts _ _ is in
      let from : (In (s.lists r) j p × (apart n r m ≤ apart n j m))
      ⊎ (In (s.lists t) j p × (apart n j m < apart n r m)) =
      elim (nat_le (apart n r m) (apart n j m)) as (λ b. nat_le (apart n r m) (apart n j m) ≡ b →
      (s.lists (if b then r else t) j p) ≡ true
      → (In (s.lists r) j p × (apart n r m ≤ apart n j m)) ⊎ (In (s.lists t) j p × (apart n j m < apart n r m))) [
        | true ↦ λ is h. inl (h, leb-true _ _ is)
        | false ↦ λ is h. inr (h, leb-false _ _ is)
      ] refl a.1 in
      let jl : j < n = elim from [ inl a ↦ (nest.member r j p a.0).2 | inr b ↦ (nest.member t j p b.0).2 ] in
      let il : i < n = omega arith in
      let im = apart_cases n i m il inside in let ir = apart_cases n i r il before.below in let rm =
      apart_cases n r m before.below inside in let jm = apart_cases n j m jl inside in
      recover_has c s m r t inside down before after i p im_member
      (λ head. elim from [
        | inl x ↦ h r i j p x.0 less stood (omega arith)
        | inr y ↦ passed i j p (omega arith) stood
            (some_stands _ s.trace j p (lists.listed t j p y.0).1) r before.below before.live (omega arith)
            (omega (arith, y.1))
      ])
      (λ head. left_had c s m r t inside down before after gone exact i p touching
      (between_by c s m r t inside down before after i il head)))
      (λ ne is member_x. h x i j p is less stood member_x)
      is member)
