-- Who waits for whom: the earlier messages first.
use Rattle.std.proofs.Common.{◌≡◌, ◌≢◌, ℕ, ◌+◌, ◌<◌, ◌≤◌, ◌==◌, ◌&&◌, ◌||◌, if◌then◌else◌, nat_lt, Bool, true, false}
use Rattle.std.proofs.Common.{not, List, [], ◌∷◌, ◌⊎◌, inl, inr, refl, sym, ap, subst, ◌∙◌, arith, Option, Some, None}
use Rattle.std.proofs.Common.{eq-eqb, lt-ltb, lt_irrefl}
use Rattle.std.proofs.lemmas.Bool.{true≢false, eqb-false, cases_eq, cases_Bool, and_from, or_left, or_right, or_parts}
use Rattle.std.proofs.lemmas.Bool.{ne_eqb, not_from_false, le-leb, false_from_ne_true}
use Rattle.std.proofs.lemmas.Option.{none-some, same_Some}
use Rattle.std.specs.List.{list_any}
use Rattle.ftc_journal.specs.declared.event.Event.TheVariants.{Apply, Carry, Pull, Take, Visit}
use Rattle.ftc_protocol.proofs.ArrivalOrder.{AreSeen, From, IsHeldAt, IsTimed}
use Rattle.ftc_protocol.specs.State.{ChainState, Held, Message, Queued, Where}
use Rattle.ftc_serial.specs.Serial.{Entry, Given, Visited}
use Rattle.ftc_protocol.specs.Visits.{In, Visits, just, no_visits, union}
use Rattle.ftc_protocol.proofs.Invariant.{Inv, target}
use Rattle.ftc_protocol.specs.Trace.{IsChanging, IsInTrace, has_each}
use Rattle.ftc_protocol.proofs.Premises.{IsGood, ticked}
use Rattle.ftc_protocol.proofs.InTransit.{IsNear, IsPending, after_visit, after_sending}
use Rattle.ftc_protocol.proofs.LiveHolders.{IsUp, kept_some, lost_some_message}
use Rattle.ftc_protocol.specs.Legal.{MayHappen, MayLeave, is_sent}
use Rattle.ftc_protocol.specs.Setting.{Setting, is_member, is_tail, servers}
use Rattle.ftc_protocol.proofs.VisitsPassed.{Somehow, some_stands}
use Rattle.ftc_journal.specs.declared.event.VisitName.{VisitName}
use Rattle.ftc_protocol.proofs.TraceAndLists.{World}
use Rattle.ftc_ring.specs.Ring.{apart, next_of}
use Rattle.ftc_protocol.proofs.RingDistances.{apart_after, apart_cases}
use Rattle.ftc_protocol.specs.Next.{crashed, drop_if, is_at, is_away, is_news, logs_of, logs_sent, next, outcome_at}
use Rattle.ftc_protocol.specs.Next.{pulled_list, recovered, sent_message, sent_on, taken_message, visited_at}
use Rattle.ftc_protocol.specs.Next.{visited_message}
use Rattle.ftc_protocol.proofs.Sets.{gained, kept}
use Rattle.ftc_protocol.specs.Recovery.{gaps_at, is_dropped, is_dropped_at, list_got}
use Rattle.ftc_protocol.specs.Changes.{is_changing, is_touching}
use Rattle.ftc_protocol.proofs.ListStores.{stands_below, touching_changing}
use Rattle.ftc_protocol.proofs.EarlierVisits.{visited_earlier}
use Rattle.ftc_protocol.proofs.VisitEvent.{visits}
use Rattle.ftc_serial.specs.Words.{with_at}
use Rattle.ftc_serial.proofs.Functions.{with_at_cases, with_at_here, with_at_elsewhere}

-- a log near y, whose message, if y holds it, came before each message that left y when y had the visit
pub record IsSoonBy (c : Setting) (message : ℕ → Option Message) (seen : ℕ → Visits) (y j q : ℕ) : Type 0 where
  pub origin : ℕ
  pub by : Message
  pub there : message origin ≡ Some by
  pub log : In by.logs j q
  pub near : IsNear (servers c) y by.place
  pub sooner : IsHeldAt y by.place → (p : ℕ) (m : Message) → message p ≡ Some m → From (servers c) m.place y →
      In (seen p) j q → by.since < m.since

abbrev pub IsSoon : Setting → (ℕ → Option Message) → Visits → (ℕ → Visits) → ℕ → ℕ → ℕ → Type 0
IsSoon c message forwarder seen y j q = IsSoonBy c message seen y j q ⊎ ((y ≡ 0) × In forwarder j q)

abbrev pub IsSoonAll : Setting → ChainState → (ℕ → Visits) → Type 0
IsSoonAll c s seen = (y j q : ℕ) → In (s.lists y) j q → apart (servers c) j y < c.failures →
    s.up (next_of (servers c) y) ≡ true → s.gap y ≡ false
    → In (s.lists (next_of (servers c) y)) j q ⊎ IsSoon c s.message s.forwarder seen y j q

-- without what is said of the times of messages
pub soon_pends : (c : Setting) (s : ChainState) (seen : ℕ → Visits) → IsSoonAll c s seen → IsPending c s
soon_pends c s seen soon y j q is less live gap = elim (soon y j q is less live gap) [
  | inl had ↦ inl had
  | inr way ↦ inr (elim way [
    | inl by ↦ inl (record {
      origin = by.origin;
      by = by.by;
      there = by.there;
      log = by.log;
      near = by.near;
    })
    | inr forwarded ↦ inr forwarded
  ])
]

newly : (c : Setting) (s : ChainState) (l m j q : ℕ) (es : List Entry) →
    IsInTrace (λ o. is_changing c.partitions o ≡ true) es j q → In (pulled_list c s l m) j q → s.lists m j q ≡ false →
    (apart (servers c) j m == c.failures) ≡ false → list_any (is_news c s l m) es ≡ true
newly c s l m j q [] st i lacks far = absurd st
newly c s l m j q (Given x b ∷ es) st i lacks far =
    or_right false (list_any (is_news c s l m) es) (elim st [
      | inl here ↦ absurd here
      | inr there ↦
          newly c s l m j q es there i lacks far
    ])
newly c s l m j q (Visited k x o ∷ es) st i lacks far = elim st [
  | inl here ↦ or_left (is_news c s l m (Visited k x o)) _
      (subst (λ v. is_news c s l m (Visited v x o)
      ≡ true) (sym here.0) (subst (λ v. is_news c s l m (Visited j v o) ≡ true) (sym here.1)
      (and_from (pulled_list c s l m j q
      && not (s.lists m j q)) (not (is_tail c j m))
      (and_from (pulled_list c s l m j q) (not (s.lists m j q)) i (not_from_false _ lacks))
      (not_from_false _ far))))
  | inr there ↦ or_right (is_news c s l m (Visited k x o)) _ (newly c s l m j q es there i lacks far)
]

module _ (c : Setting) (good : IsGood c) (s : ChainState) (h : Inv c s) (t : IsTimed c s) (seen : ℕ →
    Visits) (ok : AreSeen c s seen) (soon : IsSoonAll c s seen) where
  -- message p is changed to o
  later : (p : ℕ) (o : Option Message) (seen' : ℕ → Visits) → ((x : ℕ) → x ≢ p → seen' x ≡ seen x) → (y j q b : ℕ)
      → ((m : Message) → o ≡ Some m → From (servers c) m.place y → In (seen' p) j q → b < m.since)
      → ((x : ℕ) (m : Message) → s.message x ≡ Some m → From (servers c) m.place y → In (seen x) j q → b < m.since)
      → (x : ℕ) (m : Message) → with_at s.message p o x ≡ Some m → From (servers c) m.place y → In (seen' x) j q →
      b < m.since
  later p o seen' same y j q b here old x m =
      with_at_cases (λ v. v ≡ Some m → From (servers c) m.place y → In (seen' x) j q → b < m.since) s.message p o x
      (λ e is from i. here m is from (subst (λ v. In (seen' v) j q) e i))
      (λ ne is from i. old x m is from (subst (λ (v : Visits). In v j q) (same x ne) i))

  on_soon : {G : Type 0} (p : ℕ) (o : Option Message) (forwarder' : Visits) (seen' : ℕ → Visits) →
      ((x : ℕ) → x ≢ p → seen' x ≡ seen x) → (y j q : ℕ) → IsSoon c s.message s.forwarder seen y j q
      → ((m : Message) → s.message p ≡ Some m → In m.logs j q → IsNear (servers c) y m.place →
      (IsHeldAt y m.place → (x : ℕ) (n : Message) → s.message x ≡ Some n → From (servers c) n.place y →
      In (seen x) j q → m.since < n.since) → G)
      → ((b : ℕ) → b < s.events →
      ((m0 : Message) → s.message p ≡ Some m0 → From (servers c) m0.place y → In (seen p) j q → b < m0.since) →
      (m : Message) → o ≡ Some m → From (servers c) m.place y → In (seen' p) j q → b < m.since)
      → (y ≡ 0 → In s.forwarder j q → G)
      → (IsSoon c (with_at s.message p o) forwarder' seen' y j q → G) → G
  on_soon p o forwarder' seen' same y j q way here late forward other = elim way [
    | inl by ↦ elim (cases_eq by.origin p) [
      | inl eq ↦ here by.by (subst (λ v. s.message v ≡ Some by.by) eq by.there) by.log by.near by.sooner
      | inr ne ↦ other (inl (record {
        origin = by.origin;
        by = by.by;
        there = with_at_elsewhere s.message p o by.origin ne ∙ by.there;
        log = by.log;
        near = by.near;
        sooner = λ held. later p o seen' same y j q by.by.since
            (λ m e from i. late by.by.since (t.clock by.origin by.by by.there)
            (λ m0 e0. by.sooner held p m0 e0) m e from i) (by.sooner held);
      }))
    ]
    | inr f ↦ forward f.0 f.1
  ]

  pub fresh_soon : (p : ℕ) (o : Option Message) → ((m : Message) → s.message p ≡ Some m → ⊥) →
      ((m : Message) → o ≡ Some m → (y : ℕ) → From (servers c) m.place y → ⊥) →
      IsSoonAll c (record s { message = with_at s.message p o }) seen
  fresh_soon p o no_message no_from y j q is less live gap = elim (soon y j q is less live gap) [
    | inl had ↦ inl had
    | inr way ↦ on_soon p o s.forwarder seen (λ x ne. refl) y j q way (λ m e. absurd (no_message m e))
        (λ b lt old m e from i. absurd (no_from m e y from)) (λ z f. inr (inr (z, f))) (λ w. inr w)
  ]

  take_since : (l p : ℕ) (o : Option Message) (m' : Message) → taken_message c s l o ≡ Some m' → m'.since ≡ s.events
  take_since l p None m' e = absurd (none-some m' e)
  take_since l p (Some m0) m' e = sym (ap (λ (x : Message). x.since) (same_Some _ m' e))

  pub take_soon : (l p : ℕ) → MayHappen c s (Take l p) → IsSoonAll c (next c s (Take l p)) seen
  take_soon l p legal y j q is less live gap = elim (soon y j q is less live gap) [
    | inl had ↦ inl had
    | inr way ↦ on_soon p (taken_message c s l (s.message p)) s.forwarder seen (λ x ne. refl) y j q way
        (λ m e log near sooner.
        let same : legal.0 ≡ m = same_Some _ _ (sym legal.1 ∙ e) in
        let queued : m.place ≡ Queued l = subst (λ (x : Message). x.place ≡ Queued l) same legal.2 in
        let at : l ≡ y = subst (λ w. IsNear (servers c) y w) queued near in
        let new : Message = record m {
          place = Held (next_of (servers c) l) false (l + 1 == (servers c));
          since = s.events;
        } in
        inr (inl (record {
          origin = p;
          by = new;
          there = with_at_here s.message p _ ∙ ap (taken_message c s l) e;
          log = log;
          near = inr (ap (next_of (servers c)) at);
          sooner = λ held. absurd (
              let yl = (h.world.nest.member y j q is).1 in let e1 : l ≡ y = at in let e2 : next_of (servers c) l ≡ y =
              held in
              elim (apart_after (servers c) y yl) [
                | inr alone ↦ let small = good.small in omega arith
                | inl step ↦ let st = step.0 in let e3 : next_of (servers c) y ≡ y =
                    ap (next_of (servers c)) (sym e1) ∙ e2 in omega (arith, good.small)
              ]);
        })))
        (λ b lt old m e from i. let since = take_since l p (s.message p) m e in omega arith)
        (λ z f. inr (inr (z, f))) (λ w. inr w)
  ]

  pub apply_soon : (k p a b : ℕ) → MayHappen c s (Apply k p a b) → IsSoonAll c (next c s (Apply k p a b)) seen
  apply_soon k p a b legal y j q is less live gap =
      let more : (x : ℕ) → In (s.lists x) j q → In (with_at s.lists k (union (s.lists k) (just a b true)) x) j q =
      λ x i. kept s.lists k a b true x j q i in
      elim (gained s.lists k a b true y j q is) [
        | inl old ↦ elim (soon y j q old less live gap) [
          | inl had ↦ inl (more (next_of (servers c) y) had)
          | inr way ↦
              inr way
        ]
        | inr n ↦ elim (cases_Bool (s.lists (next_of (servers c) y) j q)) [
          | inl had ↦ inl (more (next_of (servers c) y) had)
          | inr lacks ↦ inr (inl (record {
            origin = p;
            by = legal.0;
            there = legal.1.0;
            log = subst (λ v. In legal.0.logs v q) n.1 (subst (λ v. In legal.0.logs a v) (sym n.2) legal.2);
            near = subst (λ w. IsNear (servers c) y w) (sym legal.1.3) (inl (sym n.0));
            sooner = λ held x m e from i.
                let at : target (servers c) m.place ≡ next_of (servers c) y = from_target m.place y from in
                let lacks_y : s.lists y j q ≡ false =
                subst (λ v. s.lists v j q
                ≡ false) (sym n.0) (subst (λ v. s.lists k v q
                ≡ false) n.1 (subst (λ v. s.lists k a v ≡ false) (sym n.2) legal.4)) in
                let live_y : s.up y ≡ true =
                subst (λ v. s.up v ≡ true) (sym n.0)
                (subst (IsUp (servers c) s.up) legal.1.3 (h.awake p legal.0 legal.1.0)) in
                absurd (elim ((ok x m e y from).here j q i) [
                  | inl u ↦ true≢false (sym u ∙ lacks_y)
                  | inr v ↦ elim v [
                    | inl w ↦ true≢false (sym (subst (λ z. In (s.lists z) j q) at w) ∙ lacks)
                    | inr d ↦
                        true≢false (sym live_y ∙ d)
                  ]
                ]);
          }))
        ]
      ]
    where
      from_target : (w : Where) (y : ℕ) → From (servers c) w y → target (servers c) w ≡ next_of (servers c) y
      from_target (Held k' v r) y from = sym from.1
      from_target (Queued l) y from = ap (next_of (servers c)) from

  pub visit_soon : (k p w : ℕ) → MayHappen c s (Visit k p w) → IsSoonAll c (next c s (Visit k p w)) seen
  visit_soon k p w legal y j q is less live gap =
      let o = outcome_at c s k p in let m = legal.0 in let by_ring = legal.2 in
      let more : (x : ℕ) → In (s.lists x) j q →
      In (with_at s.lists k (union (s.lists k) (just k p (is_changing c.partitions o))) x) j q =
      λ x i. kept s.lists k k p (is_changing c.partitions o) x j q i in
      let log : Bool = is_touching o && nat_lt 0 c.failures in
      let after = after_visit c k p o m in
      let new : Message = record after { place = Held k true by_ring } in
      let is_new : visited_message c k p o (s.message p) ≡ Some new =
      ap (visited_message c k p o) legal.3 ∙ ap (λ v. Some (record after { place = visited_at v })) legal.4 in
      let there : with_at s.message p (visited_message c k p o (s.message p)) p ≡ Some new =
      with_at_here s.message p _ ∙ is_new in
      let late : (b : ℕ) → b < s.events →
      ((m0 : Message) → s.message p ≡ Some m0 → From (servers c) m0.place y → In (seen p) j q → b < m0.since) →
      (n : Message) → visited_message c k p o (s.message p) ≡ Some n → From (servers c) n.place y →
      In (seen p) j q → b < n.since =
      λ b lt old n e from i. let same : new ≡ n = same_Some new n (sym is_new ∙ e) in
      subst (λ (x : Message). b < x.since) same
      (old m legal.3 (subst (λ v. From (servers c) v y) (sym legal.4)
      (subst (λ (x : Message). From (servers c) x.place y) (sym same) from)) i) in
      elim (gained s.lists k k p (is_changing c.partitions o) y j q is) [
        | inl old ↦ elim (soon y j q old less live gap) [
          | inl had ↦ inl (more (next_of (servers c) y) had)
          | inr way ↦ on_soon p (visited_message c k p o (s.message p)) s.forwarder seen (λ x ne. refl) y j q way
              (λ n e log' near sooner. let same : n ≡ m = same_Some n m (sym e ∙ legal.3) in
              inr (inl (record {
                origin = p;
                by = new;
                there = there;
                log = or_left (m.logs j q) (just k p log j q) (subst (λ (x : Message). In x.logs j q) same log');
                near = subst (λ v. IsNear (servers c) y v) (ap (λ (x : Message). x.place) same ∙ legal.4) near;
                sooner = λ held. later p (visited_message c k p o (s.message p)) seen (λ x ne. refl) y j q m.since
                    (λ x e' from i. late m.since (t.clock p m legal.3)
                    (λ m0 e0 f i. subst (λ (v : Message). v.since < m0.since) same
                    (sooner (subst (λ v. IsHeldAt y v)
                    (sym (ap (λ (x : Message). x.place) same ∙ legal.4)) held) p m0 e0 f i)) x e' from i)
                    (λ x n' e' f i. subst (λ (v : Message). v.since < n'.since) same
                    (sooner (subst (λ v. IsHeldAt y v)
                    (sym (ap (λ (x : Message). x.place) same ∙ legal.4)) held) x n' e' f i));
              })))
              late (λ z f. inr (inr (z, f))) (λ v. inr v)
        ]
        | inr n ↦
            let world' : World c (Visited k p o
            ∷ s.trace) s.up (with_at s.lists k (union (s.lists k) (just k p (is_changing c.partitions o)))) =
            (visits c good s h k p m legal.1 by_ring legal.3 legal.4 legal.5 legal.6 w).world in
            let fresh : (i : ℕ) → IsInTrace Somehow s.trace i p → i < k =
            visited_earlier c s.trace k p world'.serial.0.0 h.world.serial world'.serial.0.1 in
            let touching : is_touching o ≡ true =
            elim (touching_changing c good.sound (Visited k p o ∷ s.trace) world'.serial k p
            (inl (refl, refl, n.3))) [
              | inl here ↦ here.2
              | inr old ↦
                  absurd (lt_irrefl k (fresh k (some_stands _ s.trace k p old)))
            ] in
            let some' : 0 < c.failures = omega arith in
            let in_log : In new.logs k p =
            or_right (m.logs k p) (just k p log k p)
            (and_from ((k == k) && (p == p)) log (and_from (k == k) (p == p) (eq-eqb k k refl) (eq-eqb p p refl))
            (and_from (is_touching o) (nat_lt 0 c.failures) touching (lt-ltb 0 c.failures some'))) in
            let unseen : (x : ℕ) (n' : Message) → s.message x ≡ Some n' → From (servers c) n'.place y →
            In (seen x) j q → ⊥ = λ x n' e from i.
            let st : IsInTrace Somehow s.trace k p =
            subst (λ v. IsInTrace Somehow s.trace v p) (sym n.1)
            (subst (λ v. IsInTrace Somehow s.trace j v) n.2
            (some_stands _ s.trace j q ((ok x n' e y from).listed j q i))) in lt_irrefl k (fresh k st) in
            inr (inl (record {
              origin = p;
              by = new;
              there = there;
              log = subst (λ v. In new.logs v q) n.1 (subst (λ v. In new.logs k v) (sym n.2) in_log);
              near = inl (sym n.0);
              sooner = λ held. later p (visited_message c k p o (s.message p)) seen (λ x ne. refl) y j q m.since
                  (λ x e from i. let same : new ≡ x = same_Some new x (sym is_new ∙ e) in
                  absurd (unseen p m legal.3
                  (subst (λ v. From (servers c) v y) (sym legal.4)
                  (subst (λ (v : Message). From (servers c) v.place y) (sym same) from)) i))
                  (λ x n' e from i. absurd (unseen x n' e from i));
            }))
      ]

  pub carry_soon : (p : ℕ) → MayHappen c s (Carry p) → IsSoonAll c (next c s (Carry p)) seen
  carry_soon p legal y j q is less live gap = elim (soon y j q is less live gap) [
    | inl had ↦ inl had
    | inr way ↦ on_soon p None (union s.forwarder (λ j q. logs_of (s.message p) j q && not (is_tail c j 0))) seen
        (λ x ne. refl) y j q way
        (λ m e log near sooner.
        let same : legal.0 ≡ m = same_Some _ _ (sym legal.1 ∙ e) in
        let at : IsNear (servers c) y (Held 0 legal.2 true) =
        subst (λ w. IsNear (servers c) y w) (ap (λ (x : Message). x.place) (sym same) ∙ legal.3) near in
        elim at [
          | inl here ↦
              let not_tail : apart (servers c) j 0 ≢ c.failures =
              λ t'. lt_irrefl c.failures
              (subst (λ v. v < c.failures) t' (subst (λ v. apart (servers c) j v < c.failures) (sym here) less)) in
              inr (inr (
                sym here,
                or_right (s.forwarder j q) _
                    (and_from _ _ (subst (λ v. In (logs_of v) j q) (sym e) log)
                    (not_from_false _ (ne_eqb _ _ not_tail))),
              ))
          | inr there ↦ inl (subst (λ v. In (s.lists v) j q) there
              ((legal.4 j q (subst (λ (x : Message). In x.logs j q) (sym same) log)).changing
              (h.world.lists.listed y j q is).1))
        ])
        (λ b lt old m e. absurd (none-some m e))
        (λ z f. inr (inr (z, or_left (s.forwarder j q) _ f))) (λ w. inr w)
  ]

  left_since : (k : ℕ) (b : Bool) (o : Option Message) (m' : Message) →
      (if b then sent_message c s k o else None) ≡ Some m' → m'.since ≡ s.events
  left_since k false o m' e = absurd (none-some m' e)
  left_since k true None m' e = absurd (none-some m' e)
  left_since k true (Some m0) m' e = sym (ap (λ (x : Message). x.since) (same_Some _ m' e))

  pub left_soon : (k p : ℕ) (lost : Bool) → (m : Message) → MayLeave c s k p m →
      IsSoonAll c (ticked (sent_on c s k p lost)) (with_at seen p (s.lists k))
  left_soon k p lost m leaves y j q is less live gap =
      let n = (servers c) in
      let some' : nat_lt 0 c.failures ≡ true = lt-ltb 0 c.failures (omega arith) in
      let sends : is_sent c k ≡ true = or_right (not (k + 1 == n)) (nat_lt 0 c.failures) some' in
      let b = is_sent c k && not (is_away c s k lost) in
      let gap_k : y ≡ k → is_away c s k lost ≡ false = λ e. elim (cases_Bool (is_away c s k lost)) [
        | inr stays ↦ stays
        | inl away ↦ absurd (true≢false
            (sym (with_at_here s.gap k (s.gap k || (is_sent c k && is_away c s k lost)) ∙ or_right (s.gap k) _
            (and_from (is_sent c k) (is_away c s k lost) sends away)) ∙ subst
            (λ v. with_at s.gap k (s.gap k || (is_sent c k && is_away c s k lost)) v ≡ false) e gap))
      ] in
      let old_gap : s.gap y ≡ false = elim (cases_eq y k) [
        | inl same ↦ false_from_ne_true (s.gap y)
            (λ t'. true≢false (sym (with_at_here s.gap k (s.gap k
            || (is_sent c k && is_away c s k lost)) ∙ or_left (s.gap k) _ (subst (λ v. s.gap v ≡ true) same t')) ∙ subst
            (λ v. with_at s.gap k (s.gap k || (is_sent c k && is_away c s k lost)) v ≡ false) same gap))
        | inr other ↦ sym (with_at_elsewhere s.gap k _ y other) ∙ gap
      ] in
      let sent : (x : Message) → s.message p ≡ Some x → y ≡ k → In (logs_sent c s k x) j q →
      IsSoon c (sent_on c s k p lost).message (sent_on c s k p lost).forwarder (with_at seen p (s.lists k)) y j q =
      λ x e at log.
      let goes : b ≡ true = and_from (is_sent c k) (not (is_away c s k lost)) sends (not_from_false _ (gap_k at)) in
      let new = after_sending c s k x in
      inl (record {
        origin = p;
        by = new;
        there = with_at_here s.message p _ ∙ (ap (λ t'. if t' then sent_message c s k (s.message p)
            else None) goes ∙ ap (sent_message c s k) e);
        log = log;
        near = sym at;
        sooner = λ held. absurd held;
      }) in
      elim (soon y j q is less live old_gap) [
        | inl had ↦ inl had
        | inr way ↦ on_soon p (if b then sent_message c s k (s.message p)
            else None) (λ a x. not (k == 0) && s.forwarder a x) (with_at seen p (s.lists k))
            (λ x ne. with_at_elsewhere seen p (s.lists k) x ne) y j q way
            (λ x e log near sooner.
            let same : m ≡ x = same_Some _ _ (sym leaves.there ∙ e) in
            let at : IsNear n y (Held k leaves.visited false) =
            subst (λ w. IsNear n y w) (ap (λ (x : Message). x.place) (sym same) ∙ leaves.held) near in
            elim at [
              | inl here ↦
                  let not_tail : apart n j k ≢ c.failures =
                  λ t'. lt_irrefl c.failures
                  (subst (λ v. v < c.failures) t' (subst (λ v. apart n j v < c.failures) (sym here) less)) in
                  inr (sent x e (sym here)
                  (or_left (x.logs j q && not (is_tail c j k)) _
                  (and_from (x.logs j q) _ log (not_from_false _ (ne_eqb _ _ not_tail)))))
              | inr there ↦ inl (subst (λ v. In (s.lists v) j q) there
                  ((leaves.ready j q (subst (λ (x : Message). In x.logs j q) (sym same) log)).changing
                  (h.world.lists.listed y j q is).1))
            ])
            (λ b' lt old m' e from i. let since = left_since k b (s.message p) m' e in omega arith)
            (λ z f. elim (cases_eq k 0) [
              | inl zero' ↦ inr (sent m leaves.there (z ∙ sym zero')
                  (or_right (m.logs j q && not (is_tail c j k)) _
                  (and_from (k == 0) (s.forwarder j q) (eq-eqb k 0 zero') f)))
              | inr more ↦ inr (inr (
                z,
                and_from (not (k == 0)) (s.forwarder j q) (not_from_false _ (ne_eqb k 0 more)) f,
              ))
            ])
            (λ w. inr w)
      ]

  pub crash_soon : (k : ℕ) → IsSoonAll c (ticked (crashed c s k)) seen
  crash_soon k y j q is less live gap =
      let n = (servers c) in
      let next_ne : next_of n y ≢ k =
      λ e. true≢false (sym live ∙
      (subst (λ v. with_at s.up k false v ≡ false) (sym e) (with_at_here s.up k false))) in
      let y_ne : y ≢ k = λ e. true≢false
      (sym is ∙ (subst (λ v. with_at s.lists k no_visits v j q
      ≡ false) (sym e) (ap (λ (v : Visits). v j q) (with_at_here s.lists k no_visits)))) in
      let old : In (s.lists y) j q =
      subst (λ (v : Visits). In v j q) (with_at_elsewhere s.lists k no_visits y y_ne) is in
      elim (soon y j q old less (sym (with_at_elsewhere s.up k false _ next_ne) ∙ live) gap) [
        | inl had ↦ inl (subst (λ (v : Visits). In v j q)
            (sym (with_at_elsewhere s.lists k no_visits (next_of n y) next_ne)) had)
        | inr way ↦ elim way [
          | inl by ↦ inr (inl (record {
            origin = by.origin;
            by = by.by;
            there = ap (drop_if (λ (x : Message). is_at c k x.place)) by.there ∙ ap (λ b. if b then None
                else Some by.by) (away by.by.place by.near y_ne next_ne);
            log = by.log;
            near = by.near;
            sooner = λ held x m e from i. by.sooner held x m (lost_some_message c k (s.message x) m e) from i;
          }))
          | inr f ↦ inr (inr (
            f.0,
            and_from (not (k == 0)) (s.forwarder j q)
                (not_from_false _ (ne_eqb k 0 (λ e. y_ne (f.0 ∙ sym e)))) f.1,
          ))
        ]
      ]
    where
      away : (w : Where) → IsNear (servers c) y w → y ≢ k → next_of (servers c) y ≢ k → is_at c k w ≡ false
      away (Held i visited by_ring) near y_ne next_ne =
          elim near [ inl a ↦ ne_eqb i k (λ e. y_ne (sym a ∙ e)) | inr b ↦ ne_eqb i k (λ e. next_ne (sym b ∙ e)) ]
      away (Queued l) near y_ne next_ne = ne_eqb _ k (λ e. next_ne (ap (next_of (servers c)) (sym near) ∙ e))

  pub recover_soon : (k : ℕ) (undone : List VisitName) (r t' : ℕ) (seen' : ℕ → Visits)
      → ((x : ℕ) (m : Message) → s.message x ≡ Some m → target (servers c) m.place ≢ t' → (j q : ℕ) → In (seen' x) j q →
      In (seen x) j q) → IsSoonAll c (ticked (recovered c s k undone r t')) seen'
  recover_soon k undone r t' seen' fewer y j q is less live gap =
      let n = (servers c) in
      let outer = or_parts (gaps_at c s.gap k y || (y == t')) (next_of n y == t') gap in
      let mid = or_parts (gaps_at c s.gap k y) (y == t') outer.0 in
      let inner = or_parts (s.gap y || (y == k)) (next_of n y == k) mid.0 in
      let low = or_parts (s.gap y) (y == k) inner.0 in
      let y_ne : y ≢ k = eqb-false _ _ low.1 in let next_ne : next_of n y ≢ k = eqb-false _ _ inner.1 in
      let y_net : y ≢ t' = eqb-false _ _ mid.1 in let next_net : next_of n y ≢ t' = eqb-false _ _ outer.1 in
      let old : In (s.lists y) j q =
      subst (λ (v : Visits). In v j q) (with_at_elsewhere s.lists k (list_got c s k r t') y y_ne) is in
      elim (soon y j q old less (sym (with_at_elsewhere s.up k true _ next_ne) ∙ live) low.0) [
        | inl had ↦ inl (subst (λ (v : Visits). In v j q)
            (sym (with_at_elsewhere s.lists k (list_got c s k r t') (next_of n y) next_ne)) had)
        | inr way ↦ elim way [
          | inl by ↦ inr (inl (record {
            origin = by.origin;
            by = by.by;
            there = ap (drop_if (is_dropped c s t')) by.there ∙ ap (λ b. if b then None
                else Some by.by) (stays by.by.logs by.by.place by.near y_net next_net);
            log = by.log;
            near = by.near;
            sooner = λ held x m e from i. let e0 = (kept_some c s t' (s.message x) m e).0 in
                by.sooner held x m e0 from (fewer x m e0 (λ tt'. next_net (from_target m.place from ∙ tt')) j q i);
          }))
          | inr f ↦ inr (inr f)
        ]
      ]
    where
      from_target : (w : Where) → From (servers c) w y → next_of (servers c) y ≡ target (servers c) w
      from_target (Held k' v r) from = from.1
      from_target (Queued l) from = ap (next_of (servers c)) (sym from)

      stays : (logs : Visits) (w : Where) → IsNear (servers c) y w → y ≢ t' → next_of (servers c) y ≢ t' →
          is_dropped_at c s t' logs w ≡ false
      stays logs (Held i visited by_ring) near y_net next_net =
          ap (λ b. b && not (has_each c.partitions s.trace (s.lists t') logs))
          (elim near [ inl a ↦ ne_eqb i t' (λ e. y_net (sym a ∙ e)) | inr b ↦ ne_eqb i t' (λ e. next_net (sym b ∙ e)) ])
      stays logs (Queued l) near y_net next_net = ne_eqb _ t' (λ e. next_net (ap (next_of (servers c)) (sym near) ∙ e))

  pub pull_soon : (l : ℕ) → MayHappen c s (Pull l) → IsSoonAll c (next c s (Pull l)) seen
  pull_soon l legal y j q is less live gap =
      let n = (servers c) in let m = next_of n l in
      let several : n ≢ 1 = h.gaps l legal.2 in
      let ll : l < n = h.world.inside l legal.0 in
      elim (apart_after n l ll) [
        | inr alone ↦ absurd (several alone)
        | inl step ↦
            let st = step.0 in
            let here : In (with_at s.lists m (pulled_list c s l m) y) j q = is in
            let changing : IsChanging c.partitions s.trace j q =
            with_at_cases (λ (v : Visits). In v j q →
            IsChanging c.partitions s.trace j q) s.lists m (pulled_list c s l m) y
            (λ e i. elim (from_pull l j q i) [
              | inl a ↦ (h.world.lists.listed l j q a).1
              | inr b ↦
                  (h.world.lists.listed m j q b).1
            ])
            (λ ne i. (h.world.lists.listed y j q i).1) here in
            let jl : j < n = stands_below c good.some _ s.trace h.world.serial j q changing in
            let yl : y < n = with_at_cases (λ (v : Visits). In v j q →
            y < n) s.lists m (pulled_list c s l m) y (λ e i. subst (λ v. v < n) (sym e) step.1)
            (λ ne i. (h.world.nest.member y j q i).1) here in
            elim (apart_after n y yl) [
              | inr alone ↦ absurd (several alone)
              | inl after' ↦
                  let af = after'.0 in
                  elim (cases_eq y m) [
                    | inl at_m ↦
                        let i_m : In (pulled_list c s l m) j q =
                        subst (λ (v : Visits). In v j q)
                        (ap (with_at s.lists m (pulled_list c s l m)) at_m ∙ with_at_here s.lists m
                        (pulled_list c s l m)) here in
                        let m_ne_l : m ≢ l = λ e. let ee : next_of n l ≡ l = e in omega arith in
                        let gap_m : (s.gap m || list_any (is_news c s l m) s.trace) ≡ false =
                        sym (ap (λ b. if b then false
                        else (if m == m then s.gap m || list_any (is_news c s l m) s.trace else s.gap m))
                        (ne_eqb m l m_ne_l) ∙ ap (λ b. if b then s.gap m || list_any (is_news c s l m) s.trace
                        else s.gap m) (eq-eqb m m refl)) ∙ subst (λ v. (if v == l then false
                        else (if v == m then s.gap m || list_any (is_news c s l m) s.trace else s.gap v))
                        ≡ false) at_m gap in
                        let parts' = or_parts (s.gap m) (list_any (is_news c s l m) s.trace) gap_m in
                        let less_m : apart n j m < c.failures = subst (λ v. apart n j v < c.failures) at_m less in
                        let had : In (s.lists m) j q = elim (cases_Bool (s.lists m j q)) [
                          | inl yes' ↦ yes'
                          | inr lacks ↦ absurd (true≢false
                              (sym (newly c s l m j q s.trace changing i_m lacks
                              (ne_eqb _ _ (λ t'. lt_irrefl c.failures
                              (subst (λ v. v < c.failures) t' less_m)))) ∙ parts'.1))
                        ] in
                        let after_ne : next_of n m ≢ m = λ e. let e1 : y ≡ next_of n l =
                        at_m in let e2 : next_of n y ≡ y = ap (next_of n) at_m ∙ (e ∙ sym at_m) in omega arith in
                        elim (soon m j q had less_m (subst (λ v. s.up (next_of n v) ≡ true) at_m live) parts'.0) [
                          | inl next' ↦ inl (subst (λ v. In (with_at s.lists m (pulled_list c s l m) (next_of n v)) j q)
                              (sym at_m) (subst (λ (v : Visits). In v j q)
                              (sym (with_at_elsewhere s.lists m (pulled_list c s l m) (next_of n m) after_ne)) next'))
                          | inr way ↦ inr (subst (λ v. IsSoon c s.message s.forwarder seen v j q) (sym at_m) way)
                        ]
                    | inr not_m ↦
                        let old : In (s.lists y) j q =
                        subst (λ (v : Visits). In v j q)
                        (with_at_elsewhere s.lists m (pulled_list c s l m) y not_m) here in
                        elim (cases_eq y l) [
                          | inl at_l ↦
                              let jy = apart_cases n j y jl yl in let jm = apart_cases n j m jl step.1 in
                              let e_l : y ≡ l = at_l in
                              let far : apart n j m ≡ apart n j y + 1 = omega (arith, good.small) in
                              let own : j ≢ m = λ e. let ee : j ≡ next_of n l = e in omega (arith, good.small) in
                              let test : is_member c j l && is_member c j m && not (j == m) ≡ true =
                              and_from _ _ (and_from _ _
                              (le-leb _ _ (subst (λ v. apart n j v ≤ c.failures) at_l (omega arith)))
                              (le-leb _ _ (omega arith))) (not_from_false _ (ne_eqb j m own)) in
                              let got : In (pulled_list c s l m) j q =
                              ap (λ b. if b then s.lists l j q
                              else s.lists m j q) test ∙ subst (λ v. In (s.lists v) j q) at_l old in
                              inl (subst (λ v. In (with_at s.lists m (pulled_list c s l m) (next_of n v)) j q)
                              (sym at_l) (subst (λ (v : Visits). In v j q)
                              (sym (with_at_here s.lists m (pulled_list c s l m))) got))
                          | inr not_l ↦
                              let after_ne : next_of n y ≢ m = λ e. let ee : next_of n y ≡ next_of n l =
                              e in not_l (omega arith) in
                              let gap_y : s.gap y ≡ false =
                              sym (ap (λ b. if b then false
                              else (if y == m then s.gap m || list_any (is_news c s l m) s.trace else s.gap y))
                              (ne_eqb y l not_l) ∙ ap (λ b. if b then s.gap m || list_any (is_news c s l m) s.trace
                              else s.gap y) (ne_eqb y m not_m)) ∙ gap in
                              elim (soon y j q old less live gap_y) [
                                | inl next' ↦ inl (subst (λ (v : Visits). In v j q)
                                    (sym (with_at_elsewhere s.lists m (pulled_list c s l m) (next_of n y) after_ne))
                                    next')
                                | inr way ↦ inr way
                              ]
                        ]
                  ]
            ]
      ]
    where
      from_pull : (l j q : ℕ) → In (pulled_list c s l (next_of (servers c) l)) j q →
          In (s.lists l) j q ⊎ In (s.lists (next_of (servers c) l)) j q
      from_pull l j q = elim (is_member c j l && is_member c j (next_of (servers c) l)
          && not (j == next_of (servers c) l)) as (λ b. (if b then s.lists l j q
          else s.lists (next_of (servers c) l) j q) ≡ true →
          In (s.lists l) j q ⊎ In (s.lists (next_of (servers c) l)) j q) [ true ↦ λ i. inl i | false ↦ λ i. inr i ]
