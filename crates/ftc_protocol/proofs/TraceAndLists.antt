-- What holds of the trace, the live servers and their lists, and how each kind of change keeps it.
use Rattle.std.proofs.Common.{◌≡◌, ◌≢◌, ℕ, ◌+◌, ◌-◌, ◌<◌, ◌≤◌, ◌==◌, if◌then◌else◌, ◌&&◌, nat_le, Bool, true, false}
use Rattle.std.proofs.Common.{not, List, [], ◌∷◌, ◌⊎◌, inl, inr, refl, sym, subst, ◌∙◌, arith, ◌↔◌, eqb-true, Option}
use Rattle.std.proofs.Common.{Some, None}
use Rattle.std.proofs.lemmas.Bool.{true≢false, eqb-false, and_parts, and_from, not-true}
use Rattle.std.specs.Prelude.{slice_get}
use Rattle.ftc_serial.specs.Words.{AnyOf, with_at}
use Rattle.ftc_protocol.proofs.ServerLists.{AreLists, applies, copies, gives, goes_down, visits}
use Rattle.ftc_protocol.proofs.Sets.{kept}
use Rattle.ftc_protocol.specs.State.{ChainState}
use Rattle.ftc_serial.specs.Serial.{Entry, Given, Visited}
use Rattle.ftc_protocol.specs.Trace.{Has, IsBefore, IsChanging, IsInTrace, IsTouching}
use Rattle.ftc_protocol.specs.Visits.{In, Visits, just, no_visits, union}
use Rattle.ftc_protocol.proofs.Premises.{IsAdmissible}
use Rattle.ftc_serial.specs.History.{IsAlike}
use Rattle.ftc_protocol.proofs.VisitsPassed.{IsEarlier, IsPassed, Somehow, earlier_apply, earlier_down, earlier_given}
use Rattle.ftc_protocol.proofs.VisitsPassed.{earlier_pulls, earlier_recovers, earlier_visit, passed_visit, some_stands}
use Rattle.ftc_protocol.proofs.Places.{IsEntry, IsSerial, IsSoundTaking, Passed, Released, Waits, opening_passed}
use Rattle.ftc_protocol.proofs.Places.{place_after, placed, serial_of}
use Rattle.ftc_protocol.proofs.RingDistances.{IsLastLive, IsNextLive, apart_cases}
use Rattle.ftc_protocol.proofs.MemberNesting.{IsNested, gains, pulls, recovers}
use Rattle.ftc_serial.specs.Removal.{IsTakenOut, left_of}
use Rattle.ftc_protocol.proofs.UndoneVisits.{IsUndone}
use Rattle.ftc_protocol.proofs.GroupDistance.{IsWithin, within_down, within_given, within_grown, within_more}
use Rattle.ftc_protocol.proofs.GroupDistance.{within_pulls, within_recovers}
use Rattle.ftc_serial.specs.Take.{Outcome}
use Rattle.ftc_protocol.specs.Setting.{Setting, is_member, servers}
use Rattle.ftc_protocol.proofs.TraceLemmas.{any_map, left_stood, visit_stood}
use Rattle.ftc_protocol.proofs.EarlierVisits.{visited_earlier}
use Rattle.ftc_ring.specs.Ring.{apart, next_of}
use Rattle.ftc_protocol.proofs.HavingVisits.{between_by, has_stable}
use Rattle.ftc_protocol.proofs.UndoneRemoval.{closed_now, head_between, lacks}
use Rattle.ftc_protocol.proofs.RecoveryBetween.{fetched_t, first_after}
use Rattle.ftc_protocol.specs.Changes.{is_changing, is_touching}
use Rattle.ftc_protocol.specs.Recovery.{list_got}
use Rattle.ftc_serial.specs.Entries.{packet_of}
use Rattle.ftc_protocol.specs.Next.{pulled_list}
use Rattle.ftc_protocol.proofs.ListStores.{stands_below, touching_changing}
use Rattle.ftc_protocol.proofs.TraceRemoval.{taken_out}
use Rattle.ftc_serial.proofs.Functions.{with_at_cases}
use Rattle.ftc_protocol.proofs.MemberNesting as nesting

pub record World (c : Setting) (trace : List Entry) (up : ℕ → Bool) (has : ℕ → Visits) : Type 0 where
  pub inside : (k : ℕ) → up k ≡ true → k < (servers c)
  pub lists : AreLists c trace up has
  pub nest : IsNested c up has
  pub serial : IsSerial c trace
  pub passed : IsPassed c trace up has
  pub earlier : IsEarlier c trace has
  pub released : (q : ℕ) (bytes : (List ℕ)) → AnyOf (λ e. e ≡ Given q bytes) trace → (i : ℕ) → IsTouching trace i q →
      IsWithin c trace up has i q (servers c)

-- a released packet's place
pub given_place : (c : Setting) (trace : List Entry) → IsSerial c trace → (q : ℕ) (bytes : (List ℕ)) →
    AnyOf (λ e. e ≡ Given q bytes) trace → (serial_of c trace).place q ≡ Released
given_place c [] is q bytes a = absurd a
given_place c (Given p b ∷ older) is q bytes a =
    with_at_cases (λ v. v ≡ Released) (serial_of c older).place p Released q (λ e. refl)
    (λ ne. elim a [ inl here ↦ absurd (ne cc) | inr there ↦ given_place c older is.1 q bytes there ])
given_place c (Visited k p o ∷ older) is q bytes a = elim a [
  | inl here ↦ absurd (cc)
  | inr there ↦
      let was : (serial_of c older).place q ≡ Released = given_place c older is.1 q bytes there in
      with_at_cases (λ v. v ≡ Released) (serial_of c older).place p (place_after (servers c) k o.packet) q
      (λ e. let waits : (serial_of c older).place q
      ≡ Waits k is.0.0 = subst (λ v. (serial_of c older).place v ≡ Waits k is.0.0) (sym e) is.0.1 in absurd (cc))
      (λ ne. was)
]

-- a packet that has passed all was visited by the last
pub passed_last : (c : Setting) (trace : List Entry) → IsSerial c trace → (q : ℕ) (bytes : (List ℕ)) →
    (serial_of c trace).place q ≡ Passed bytes → (j : ℕ) × (j + 1 ≡ (servers c)) × IsInTrace Somehow trace j q
passed_last c [] is q bytes = λ e. absurd (opening_passed (slice_get c.packets q) bytes e)
passed_last c (Given p b ∷ older) is q bytes =
    with_at_cases (λ v. v ≡ Passed bytes → (j : ℕ) × (j + 1 ≡ (servers c))
    × IsInTrace Somehow (Given p b ∷ older) j q) (serial_of c older).place p Released q (λ e w. cc)
    (λ ne w. let r = passed_last c older is.1 q bytes w in (r.0, r.1, inr r.2))
passed_last c (Visited k p o ∷ older) is q bytes =
    with_at_cases (λ v. v ≡ Passed bytes → (j : ℕ) × (j + 1 ≡ (servers c))
    × IsInTrace Somehow (Visited k p o ∷ older) j q) (serial_of c older).place p _ q
    (λ e w. (k, last o.packet w, inl (refl, sym e, tt)))
    (λ ne w. let r = passed_last c older is.1 q bytes w in (r.0, r.1, inr r.2))
  where
    last : (v : Option (List ℕ)) → place_after (servers c) k v ≡ Passed bytes → k + 1 ≡ (servers c)
    last None = λ w. cc
    last (Some b) = elim (k + 1 == (servers c)) as (λ t. k + 1 == (servers c) ≡ t → (placed t k b) ≡ Passed bytes →
        k + 1 ≡ (servers c)) [ true ↦ λ e w. eqb-true (k + 1) (servers c) e | false ↦ λ e w. cc ] refl

module _ (c : Setting) (some : 0 < (servers c)) (sound : IsSoundTaking c) where
  pub world_visit : (trace : List Entry) (up : ℕ → Bool) (has : ℕ → Visits) → World c trace up has →
      (k p : ℕ) (o : Outcome) → up k ≡ true
      → IsEntry c (serial_of c trace) (Visited k p o)
      → ((i : ℕ) → i < k → IsTouching trace i p → IsWithin c trace up has i p (k - i))
      → ((i : ℕ) → i < k → IsTouching trace i p → apart (servers c) i k ≤ c.failures →
      Has c.partitions trace (has k) i p)
      → World c (Visited k p o ∷ trace) up (with_at has k (union (has k) (just k p (is_changing c.partitions o))))
  world_visit trace up has w k p o live legal within ready =
      let kl = w.inside k live in
      let kk = apart_cases (servers c) k k kl kl in
      let fresh : (j : ℕ) → IsInTrace Somehow trace j p → j < k =
      visited_earlier c trace k p legal.0 w.serial legal.1 in
      let unseen : IsInTrace Somehow trace k p → ⊥ = λ s. let less : k < k = fresh k s in omega arith in
      let lists = visits c trace up has k p o live unseen w.lists in
      let nest = gains c up has w.nest k k p (is_changing c.partitions o) kl kl live (omega arith)
      (λ i il u less b. absurd (omega arith)) in
      record {
        inside = w.inside;
        lists = lists;
        nest = nest;
        serial = (legal, w.serial);
        passed = passed_visit c trace up has k p o kl fresh ready lists nest within w.passed;
        earlier = earlier_visit c trace up has k p o kl fresh ready w.lists w.earlier;
        released = λ q bytes a i touching. elim a [
          | inl here ↦ absurd (cc)
          | inr there ↦ elim touching [
            | inl new ↦
                let was = given_place c trace w.serial q bytes there in
                let waits : (serial_of c trace).place q ≡ Waits k legal.0 =
                subst (λ v. (serial_of c trace).place v ≡ Waits k legal.0) new.1 legal.1 in
                absurd (cc)
            | inr old ↦ within_more c (Visited k p o ∷ trace) up has i q (servers c)
                (within_grown c trace up has i q (servers c) (w.released q bytes there i old) k p o
                (λ e. unseen (subst (λ v. IsInTrace Somehow trace v p) (sym e.0)
                (some_stands _ trace i p (subst (λ v. IsTouching trace i v) (sym e.1) old)))))
                (with_at has k (union (has k) (just k p (is_changing c.partitions o))))
                (λ y j z m. kept has k k p (is_changing c.partitions o) y j z m)
          ]
        ];
      }

  pub world_apply : (trace : List Entry) (up : ℕ → Bool) (has : ℕ → Visits) → World c trace up has → (k j q : ℕ) →
      up k ≡ true → IsChanging c.partitions trace j q → apart (servers c) j k ≤ c.failures
      → ((a : ℕ) → IsBefore c.partitions trace j a q → In (has k) j a)
      → ((i : ℕ) → i < (servers c) → up i ≡ true → apart (servers c) j i < apart (servers c) j k → In (has i) j q)
      → ((i : ℕ) → i < j → IsTouching trace i q → apart (servers c) i k ≤ c.failures →
      Has c.partitions trace (has k) i q)
      → World c trace up (with_at has k (union (has k) (just j q true)))
  world_apply trace up has w k j q live changing member before behind earlier =
      let more : (y i p : ℕ) → In (has y) i p → In (with_at has k (union (has k) (just j q true)) y) i p =
      λ y i p m. kept has k j q true y i p m in
      let jl = stands_below c some _ trace w.serial j q changing in
      record {
        inside = w.inside;
        lists = applies c trace up has k j q live changing before w.lists;
        nest = gains c up has w.nest k j q true (w.inside k live) jl live member (λ i il u less b. behind i il u less);
        serial = w.serial;
        passed = λ i a p le t s. within_more c trace up has i p _ (w.passed i a p le t s) _ more;
        earlier = earlier_apply c trace has k j q earlier w.earlier;
        released = λ p bytes a i t. within_more c trace up has i p _ (w.released p bytes a i t) _ more;
      }

  pub world_given : (trace : List Entry) (up : ℕ → Bool) (has : ℕ → Visits) → World c trace up has →
      (p : ℕ) (bytes : (List ℕ)) → (serial_of c trace).place p ≡ Passed bytes
      → ((i : ℕ) → IsTouching trace i p → IsWithin c trace up has i p (servers c))
      → World c (Given p bytes ∷ trace) up has
  world_given trace up has w p bytes legal safe =
      let old : (P : Outcome → Type 0) (i q : ℕ) → IsInTrace P (Given p bytes ∷ trace) i q → IsInTrace P trace i q =
      λ P i q t. elim t [ inl here ↦ absurd here | inr there ↦ there ] in
      record {
        inside = w.inside;
        lists = gives c trace up has p bytes w.lists;
        nest = w.nest;
        serial = (legal, w.serial);
        passed = λ i a q le t s. within_given c trace up has i q _
            (w.passed i a q le (old _ i q t) (old _ a q s)) p bytes;
        earlier = earlier_given c trace has p bytes w.earlier;
        released = λ q b a i t. within_given c trace up has i q _ (elim a [
          | inl here ↦ let same : p ≡ q =
              cc in subst (λ v. IsWithin c trace up has i v (servers c)) same
              (safe i (subst (λ v. IsTouching trace i v) (sym same) (old _ i q t)))
          | inr there ↦ w.released q b there i (old _ i q t)
        ]) p bytes;
      }

  pub world_down : (trace : List Entry) (up : ℕ → Bool) (has : ℕ → Visits) → World c trace up has → (k : ℕ) →
      World c trace (with_at up k false) (with_at has k no_visits)
  world_down trace up has w k = record {
    inside = λ i. with_at_cases (λ b. b ≡ true →
        i < (servers c)) up k false i (λ e u. absurd (true≢false (sym u))) (λ ne u. w.inside i u);
    lists = goes_down c trace up has k w.lists;
    nest = nesting.goes_down c up has w.nest k;
    serial = w.serial;
    passed = λ i a q le t s. within_down c trace up has i q _ (w.passed i a q le t s) k;
    earlier = earlier_down c trace has k w.earlier;
    released = λ q b a i t. within_down c trace up has i q _ (w.released q b a i t) k;
  }

module _ (c : Setting) (s : ChainState) (w : World c s.trace s.up s.lists) where
  lists_pulls : (l m : ℕ) → s.up m ≡ true → AreLists c s.trace s.up (with_at s.lists m (pulled_list c s l m))
  lists_pulls l m live =
      let from : (j : ℕ) → (((p : ℕ) → pulled_list c s l m j p ≡ s.lists l j p)
      ⊎ ((p : ℕ) → pulled_list c s l m j p ≡ s.lists m j p)) =
      λ j. elim (is_member c j l && is_member c j m
      && not (j == m)) as (λ b. ((p : ℕ) → (if b then s.lists l j p else s.lists m j p) ≡ s.lists l j p)
      ⊎ ((p : ℕ) → (if b then s.lists l j p else s.lists m j p) ≡ s.lists m j p)) [
        | true ↦ inl (λ p. refl)
        | false ↦ inr (λ p. refl)
      ] in
      record {
        listed = λ x j p. with_at_cases (λ (v : Visits). In v j p →
            (s.up x ≡ true) × IsChanging c.partitions s.trace j p) s.lists m (pulled_list c s l m) x
            (λ e i. (
              subst (λ v. s.up v ≡ true) (sym e) live,
              elim (from j) [
                | inl a ↦ (w.lists.listed l j p (sym (a p) ∙ i)).1
                | inr b ↦
                    (w.lists.listed m j p (sym (b p) ∙ i)).1
              ],
            ))
            (λ ne i. w.lists.listed x j p i);
        heads = λ j p live_j changing. with_at_cases (λ (v : Visits). In v j p) s.lists m (pulled_list c s l m) j
            (λ e. own j e p (subst (λ v. In (s.lists v) j p) e (w.lists.heads j p live_j changing)))
            (λ ne. w.lists.heads j p live_j changing);
        closed = λ x j a b. with_at_cases (λ (v : Visits). In v j b → IsBefore c.partitions s.trace j a b →
            In v j a) s.lists m (pulled_list c s l m) x
            (λ e i before. elim (from j) [
              | inl f ↦ f a ∙ w.lists.closed l j a b (sym (f b) ∙ i) before
              | inr f ↦ f a ∙ w.lists.closed m j a b (sym (f b) ∙ i) before
            ])
            (λ ne i before. w.lists.closed x j a b i before);
      }
    where
      own : (j : ℕ) → j ≡ m → (p : ℕ) → In (s.lists m) j p → In (pulled_list c s l m) j p
      own j e p is = elim (is_member c j l && is_member c j m && not (j == m)) as (λ b. is_member c j l
          && is_member c j m && not (j == m) ≡ b → (if b then s.lists l j p else s.lists m j p) ≡ true) [
            | true ↦ λ t. absurd (eqb-false j m (not-true _ (and_parts _ _ t).1) e)
            | false ↦ λ t. is
          ] refl

  pub world_pulls : (servers c) ≢ 1 → (l : ℕ) → s.up l ≡ true → s.up (next_of (servers c) l) ≡ true
      → World c s.trace s.up (with_at s.lists (next_of (servers c) l) (pulled_list c s l (next_of (servers c) l)))
  world_pulls several l live_l live_m =
      let n = (servers c) in let ll = w.inside l live_l in
      record {
        inside = w.inside;
        lists = lists_pulls l (next_of n l) live_m;
        nest = pulls c s w.nest several l ll live_l live_m;
        serial = w.serial;
        passed = λ i a q le t st. within_pulls c s several l ll live_l i q _ (below i q t) (w.passed i a q le t st);
        earlier = earlier_pulls c s w.lists w.nest several l ll live_l live_m w.earlier;
        released = λ q b a i t. within_pulls c s several l ll live_l i q _ (below i q t) (w.released q b a i t);
      }
    where
      below : (i q : ℕ) → IsTouching s.trace i q → i < (servers c)
      below i q t = stands_below c (let ll : l < (servers c) = w.inside l live_l in
          omega arith) _ s.trace w.serial i q t

module _ (c : Setting) (s : ChainState) (some : 0 < (servers c)) (sound : IsSoundTaking c)
    (w : World c s.trace s.up s.lists)
    (admissible : IsAdmissible c s.up) (m r t : ℕ) (inside : m < (servers c)) (down : s.up m
    ≡ false) (before : IsLastLive (servers c) s.up m r) (after : IsNextLive (servers c) s.up m t)
    (gone : Visits) (exact : (j p : ℕ) → In gone j p ↔ IsUndone c s r t j p) where
  open w use {lists, nest, serial, passed, earlier, released}

  -- no live server has an undone visit
  pub nobody_has : (x j p : ℕ) → In (s.lists x) j p → gone j p ≡ false
  nobody_has x j p is = elim (gone j p) as (λ b. gone j p ≡ b → b ≡ false) [
    | true ↦ λ g.
        let u = (exact j p).0 g in
        let at = nest.member x j p is in
        let listed = lists.listed x j p is in
        let between = head_between c s some sound lists nest serial passed earlier released admissible m r t inside down
        before after j p u (some_stands _ s.trace j p listed.1) in
        let near = first_after c s m r t inside down before after j x at.2 between at.1 at.0 in
        absurd (lacks c s some sound lists nest serial passed earlier released admissible m r t inside down before after
        j p u listed.1 (nest.nested j t x p after.below after.live near is))
    | false ↦ λ g. refl
  ] refl

  lists_recovers : AreLists c (left_of gone s.trace) (with_at s.up m true) (with_at s.lists m (list_got c s m r t))
  lists_recovers = copies c s.trace s.up s.lists m (list_got c s m r t) gone from own nobody_has lists
    where
      from : (j : ℕ) → ((x : ℕ) × ((p : ℕ) → In (list_got c s m r t) j p → In (s.lists x) j p)
          × ((p : ℕ) → In (s.lists x) j p → In (list_got c s m r t) j p)) ⊎ ((p : ℕ) → In (list_got c s m r t) j p → ⊥)
      from j =
          elim (is_member c j m) as
          (λ b. ((x : ℕ) × ((p : ℕ) →
          (b && s.lists (if nat_le (apart (servers c) r m) (apart (servers c) j m) then r else t) j p) ≡ true →
          In (s.lists x) j p)
          × ((p : ℕ) → In (s.lists x) j p →
          (b && s.lists (if nat_le (apart (servers c) r m) (apart (servers c) j m) then r else t) j p) ≡ true))
          ⊎ ((p : ℕ) → (b && s.lists (if nat_le (apart (servers c) r m) (apart (servers c) j m) then r else t) j p)
          ≡ true → ⊥)) [
            | true ↦ elim (nat_le (apart (servers c) r m) (apart (servers c) j m)) as
                (λ b. ((x : ℕ) × ((p : ℕ) → (true && (s.lists (if b then r else t) j p)) ≡ true → In (s.lists x) j p)
                × ((p : ℕ) → In (s.lists x) j p → (true && (s.lists (if b then r else t) j p)) ≡ true))
                ⊎ ((p : ℕ) → (true && (s.lists (if b then r else t) j p)) ≡ true → ⊥)) [
                  | true ↦ inl (
                    r,
                    (λ p h. (and_parts true (s.lists r j p) h).1),
                    λ p h. and_from true (s.lists r j p) refl h,
                  )
                  | false ↦ inl (
                    t,
                    (λ p h. (and_parts true (s.lists t j p) h).1),
                    λ p h. and_from true (s.lists t j p) refl h,
                  )
                ]
            | false ↦ inr (λ p h. true≢false (sym h))
          ]

      own : (p : ℕ) → IsChanging c.partitions s.trace m p → gone m p ≡ false → In (list_got c s m r t) m p
      own p changing stays =
          let n = (servers c) in let mm = apart_cases n m m inside inside in let pos : 0 < apart n r m =
          before.before in
          let between = between_by c s m r t inside down before after m inside (omega arith) in
          let touching = touching_changing c sound s.trace serial m p changing in
          let had : Has c.partitions s.trace (s.lists t) m p =
          has_stable c.partitions s.trace (s.lists t) m p
          (λ not_had. true≢false (sym ((exact m p).1 (
            m,
            omega arith,
            (touching, between.0, between.1, not_had),
            some_stands _ s.trace m p touching,
          )) ∙ stays)) in
          fetched_t c s m r t inside down before after m p (omega arith) (omega arith) (had.changing changing)

  below_of : (i q : ℕ) → IsTouching (left_of gone s.trace) i q → i < (servers c)
  below_of i q t = stands_below c some _ s.trace serial i q
      (visit_stood gone (λ o. is_touching o ≡ true) s.trace i q t).0

  pub removed : IsSerial c (left_of gone s.trace)
      × IsAlike c.partitions gone (serial_of c s.trace) (serial_of c (left_of gone s.trace)) s.trace
  removed = taken_out c gone s.trace serial
      (closed_now c s some sound lists nest serial passed earlier released admissible m r t inside down before after
      gone exact s.trace serial (λ j p q b. b) (λ e a. a))

  pub world_recovers : World c (left_of gone s.trace) (with_at s.up m true) (with_at s.lists m (list_got c s m r t))
  world_recovers =
      let ex : (j p : ℕ) → IsUndone c s r t j p → In gone j p = λ j p. (exact j p).1 in
      record {
        inside = λ i. with_at_cases (λ b. b ≡ true →
            i < (servers c)) s.up m true i (λ e u. subst (λ v. v < (servers c)) (sym e) inside) (λ ne u. w.inside i u);
        lists = lists_recovers;
        nest = recovers c s nest m r t inside before after;
        serial = removed.0;
        passed = λ i a q le tt' st. within_recovers c s m r t inside down before after gone ex i q _
            (below_of i q tt') tt'
            (passed i a q le (visit_stood gone _ s.trace i q tt').0 (visit_stood gone _ s.trace a q st).0);
        earlier = earlier_recovers c s lists nest m r t inside down before after gone ex passed earlier;
        released = λ q b a i tt'. within_recovers c s m r t inside down before after gone ex i q _
            (below_of i q tt') tt'
            (released q b (any_map _ (λ e. e ≡ Given q b) (λ e h. h.0) s.trace
            (left_stood gone (λ e. e ≡ Given q b) s.trace a)) i (visit_stood gone _ s.trace i q tt').0);
      }

  -- the place of a packet none of whose visits is undone
  pub place_kept : (p : ℕ) → ((j : ℕ) → IsInTrace Somehow s.trace j p → IsUndone c s r t j p → ⊥) →
      (serial_of c (left_of gone s.trace)).place p ≡ (serial_of c s.trace).place p
  place_kept p safe = elim (removed.1.place p) [
    | inl same ↦ sym same
    | inr cut ↦
        absurd (none_cut s.trace (λ j st. st) cut)
  ]
    where
      none_cut : (es : List Entry) → ((j : ℕ) → IsInTrace Somehow es j p → IsInTrace Somehow s.trace j p) →
          AnyOf (λ v. IsTakenOut gone v × (packet_of v ≡ p)) es → ⊥
      none_cut [] lift a = a
      none_cut (Given q b ∷ es) lift a =
          elim a [ inl here ↦ true≢false (sym here.0) | inr there ↦ none_cut es (λ j st. lift j (inr st)) there ]
      none_cut (Visited j q o ∷ es) lift a = elim a [
        | inl here ↦ safe j (lift j (inl (refl, here.1, tt)))
            ((exact j p).0 (subst (λ v. gone j v ≡ true) here.1 here.0))
        | inr there ↦ none_cut es (λ k st. lift k (inr st)) there
      ]
