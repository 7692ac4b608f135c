-- When messages came where they are.
use Rattle.std.proofs.Common.{◌≡◌, ◌≢◌, ℕ, ◌+◌, ◌<◌, ◌≤◌, ◌==◌, ◌&&◌, if◌then◌else◌, nat_lt, Bool, true, false}
use Rattle.std.proofs.Common.{not, List, ◌∷◌, ◌⊎◌, inl, inr, refl, sym, ap, subst, ◌∙◌, arith, ◌↔◌, eqb-true, Option}
use Rattle.std.proofs.Common.{Some, None, eq-eqb, lt_irrefl}
use Rattle.std.proofs.lemmas.Bool.{true≢false, eqb-false, cases_eq, cases_lt, and_parts, and_from, or_cases, not-true}
use Rattle.std.proofs.lemmas.Option.{none-some, same_Some}
use Rattle.std.proofs.lemmas.Bool.{not_from_false}
use Rattle.ftc_journal.specs.declared.event.Event.TheVariants.{Apply, Carry, Crash, Enter, Lose, Pass, Propagate, Pull}
use Rattle.ftc_journal.specs.declared.event.Event.TheVariants.{Recover, Release, Take, Visit}
use Rattle.ftc_protocol.specs.State.{ChainState, Held, Message, Queued, Where}
use Rattle.ftc_serial.specs.Serial.{Entry, Given, Visited}
use Rattle.ftc_journal.specs.declared.event.Event.{Event}
use Rattle.ftc_protocol.specs.Trace.{Has, IsBefore, IsChanging, IsInTrace, IsTouching}
use Rattle.ftc_protocol.specs.Visits.{In, Visits, just, no_visits, union}
use Rattle.ftc_protocol.proofs.Invariant.{Inv, each_message, target}
use Rattle.ftc_protocol.proofs.Premises.{IsAdmissible, IsGood, ticked}
use Rattle.ftc_protocol.proofs.RingDistances.{IsLastLive, IsNextLive, apart_after, apart_cases}
use Rattle.ftc_protocol.proofs.UndoneVisits.{IsUndone}
use Rattle.ftc_protocol.proofs.LiveHolders.{IsUp, kept_some, lost_some, lost_some_message}
use Rattle.ftc_protocol.specs.Legal.{MayHappen, MayLeave, is_sent}
use Rattle.ftc_serial.specs.Take.{Outcome}
use Rattle.ftc_protocol.specs.Setting.{Setting, count, is_tail, packet_at, servers}
use Rattle.ftc_protocol.proofs.VisitsPassed.{Somehow, some_stands}
use Rattle.ftc_ring.specs.Ring.{apart, next_of}
use Rattle.ftc_protocol.proofs.TraceLemmas.{before_first, before_last, before_left, visit_left, visit_stood}
use Rattle.ftc_protocol.proofs.EarlierVisits.{visited_earlier}
use Rattle.ftc_protocol.specs.Next.{crashed, fresh_message, is_at, is_away, logs_sent, next, outcome_at, sent_message}
use Rattle.ftc_protocol.specs.Next.{taken_message, visited_at, visited_message}
use Rattle.ftc_protocol.specs.Recovery.{following_live, is_dropped, list_got}
use Rattle.ftc_protocol.proofs.HavingVisits.{has_given}
use Rattle.ftc_protocol.proofs.CarriedLogs.{has_left}
use Rattle.ftc_protocol.proofs.Sets.{in_both, in_one, kept}
use Rattle.ftc_protocol.specs.Changes.{is_changing, is_touching}
use Rattle.ftc_serial.specs.Removal.{left_of}
use Rattle.ftc_protocol.proofs.TraceAndLists.{nobody_has}
use Rattle.ftc_protocol.proofs.InTransit.{after_visit}
use Rattle.ftc_protocol.proofs.RecoveryEvent.{ready_at, up_target}
use Rattle.ftc_protocol.proofs.VisitEvent.{visits}
use Rattle.ftc_serial.specs.Words.{with_at}
use Rattle.ftc_serial.proofs.Functions.{with_at_cases, with_at_here, with_at_elsewhere}
use Rattle.ftc_protocol.proofs.CarriedLogs as carrying

-- the server y that the message left last, if it left one
abbrev pub From : ℕ → Where → ℕ → Type 0
From n (Held k visited by_ring) y = (y < n) × (next_of n y ≡ k) × ((by_ring ≡ true) ⊎ (k ≢ 0))
From n (Queued l) y = l ≡ y

abbrev pub IsHeldAt : ℕ → Where → Type 0
IsHeldAt y (Held k visited by_ring) = k ≡ y
IsHeldAt y (Queued l) = ⊥

-- what server y had when the message left it for x
pub record IsSeenAt (c : Setting) (trace : List Entry) (up : ℕ → Bool) (has : ℕ →
    Visits) (y x : ℕ) (logs set : Visits) : Type 0 where
  pub listed : (j q : ℕ) → In set j q → IsChanging c.partitions trace j q
  pub has_logs : (j q : ℕ) → In logs j q → j ≢ x → Has c.partitions trace set j q
  pub closed : (j a b : ℕ) → In set j b → IsBefore c.partitions trace j a b → In set j a
  pub earlier : (i j q : ℕ) → In set j q → i < j → IsTouching trace i q → apart (servers c) i x ≤ c.failures → i ≢ x →
      Has c.partitions trace set i q
  pub here : (j q : ℕ) → In set j q → In (has y) j q ⊎ (In (has x) j q ⊎ (up y ≡ false))

abbrev pub AreSeen : Setting → ChainState → (ℕ → Visits) → Type 0
AreSeen c s seen = (p : ℕ) (m : Message) → s.message p ≡ Some m → (y : ℕ) → From (servers c) m.place y →
    IsSeenAt c s.trace s.up s.lists y (target (servers c) m.place) m.logs (seen p)

-- messages by the ring are at 0, others at 0 carry logs of group 0, links are of the chain
abbrev pub IsRinged : ℕ → Where → Visits → Type 0
IsRinged n (Held k visited true) logs = k ≡ 0
IsRinged n (Held k visited false) logs = k ≡ 0 → (j q : ℕ) → In logs j q → j ≡ 0
IsRinged n (Queued l) logs = l < n

pub record IsTimed (c : Setting) (s : ChainState) : Type 0 where
  pub ringed : (p : ℕ) (m : Message) → s.message p ≡ Some m → IsRinged (servers c) m.place m.logs
  pub clock : (p : ℕ) (m : Message) → s.message p ≡ Some m → m.since < s.events
  pub bounded : s.entered ≤ (count c)

module _ (c : Setting) (good : IsGood c) (s : ChainState) (h : Inv c s) (t : IsTimed c s) where
  timed : (p : ℕ) (o : Option Message) (entered : ℕ) → entered ≤ (count c) →
      ((m : Message) → o ≡ Some m → IsRinged (servers c) m.place m.logs × (m.since ≤ s.events))
      → ((q : ℕ) (m : Message) → with_at s.message p o q ≡ Some m → IsRinged (servers c) m.place m.logs)
      × ((q : ℕ) (m : Message) → with_at s.message p o q ≡ Some m → m.since < s.events + 1)
  timed p o entered le here = (
    each_message (λ q m. IsRinged (servers c) m.place m.logs) s.message p o (λ m e. (here m e).0) t.ringed,
    each_message (λ q m. m.since < s.events + 1) s.message p o (λ m e. let b = (here m e).1 in
        omega arith) (λ q m e. let b = t.clock q m e in omega arith),
  )

  ring_flag : (l : ℕ) (b : Bool) → l < (servers c) → l + 1 == (servers c) ≡ b →
      IsRinged (servers c) (Held (next_of (servers c) l) false b) no_visits
      × ((logs : Visits) → IsRinged (servers c) (Held (next_of (servers c) l) false b) logs)
  ring_flag l true lt e = let z : next_of (servers c) l ≡ 0 = ap (λ v. if v then 0 else l + 1) e in (z, λ logs. z)
  ring_flag l false lt e =
      let a : next_of (servers c) l ≡ l + 1 = ap (λ v. if v then 0 else l + 1) e in
      ((λ z j q is. absurd (true≢false (sym is))), λ logs z. absurd (omega arith))

  take_timed : (l p : ℕ) → (o : Option Message) → s.message p ≡ o → l < (servers c) → (m : Message) →
      taken_message c s l o ≡ Some m → IsRinged (servers c) m.place m.logs × (m.since ≤ s.events)
  take_timed l p None is lt m e = absurd (none-some m e)
  take_timed l p (Some m0) is lt m e =
      let new : Message = record m0 {
        place = Held (next_of (servers c) l) false (l + 1 == (servers c));
        since = s.events;
      } in
      subst (λ (v : Message). IsRinged (servers c) v.place v.logs
      × (v.since ≤ s.events)) (same_Some new m e) (
        (ring_flag l (l + 1 == (servers c)) lt refl).1 m0.logs,
        omega arith,
      )

  visit_timed : (k p : ℕ) (o : Outcome) (om : Option Message) → s.message p ≡ om → (n : Message) → om ≡ Some n →
      (v by_ring : Bool) → n.place ≡ Held k v by_ring → (m : Message) → visited_message c k p o om ≡ Some m →
      IsRinged (servers c) m.place m.logs × (m.since ≤ s.events)
  visit_timed k p o None is n e0 v by_ring held m e = absurd (none-some m e)
  visit_timed k p o (Some m0) is n e0 v by_ring held m e =
      let same : n ≡ m0 = same_Some n m0 (sym e0) in
      let held0 : m0.place ≡ Held k v by_ring = subst (λ (x : Message). x.place ≡ Held k v by_ring) same held in
      let logs' : Visits = union m0.logs (just k p (is_touching o && nat_lt 0 c.failures)) in
      let new = after_visit c k p o m0 in
      let old : IsRinged (servers c) (Held k v by_ring) m0.logs =
      subst (λ w. IsRinged (servers c) w m0.logs) held0 (t.ringed p m0 is) in
      let fresh : IsRinged (servers c) (Held k true by_ring) logs' = ring by_ring old in
      let before = t.clock p m0 is in
      subst (λ (x : Message). IsRinged (servers c) x.place x.logs
      × (x.since ≤ s.events)) (same_Some new m e)
      (subst (λ w. IsRinged (servers c) (visited_at w) logs') (sym held0) fresh, omega arith)
    where
      ring : (b : Bool) → IsRinged (servers c) (Held k v b) m0.logs →
          IsRinged (servers c) (Held k true b) (union m0.logs (just k p (is_touching o && nat_lt 0 c.failures)))
      ring true old = old
      ring false old = λ z j q i. elim
          (in_both m0.logs (just k p (is_touching o && nat_lt 0 c.failures)) j q i) [
            | inl a ↦ old z j q a
            | inr b ↦
                let e = in_one k p (is_touching o && nat_lt 0 c.failures) j q b in sym e.0 ∙ z
          ]

  left_timed : (k p : ℕ) (b : Bool) (o : Option Message) → k < (servers c) → (m : Message) →
      (if b then sent_message c s k o else None) ≡ Some m → IsRinged (servers c) m.place m.logs × (m.since ≤ s.events)
  left_timed k p false o lt m e = absurd (none-some m e)
  left_timed k p true None lt m e = absurd (none-some m e)
  left_timed k p true (Some m0) lt m e =
      subst (λ (x : Message). IsRinged (servers c) x.place x.logs × (x.since ≤ s.events)) (same_Some _ m e) (
        lt,
        omega arith,
      )

  held_live : (k p : ℕ) (m : Message) (v r : Bool) → s.message p ≡ Some m → m.place ≡ Held k v r → k < (servers c)
  held_live k p m v r e place = h.world.inside k (subst (IsUp (servers c) s.up) place (h.awake p m e))

  pub keeps_time : (e : Event) → MayHappen c s e → IsTimed c (next c s e)
  keeps_time (Enter p) legal =
      let first : p ≡ s.entered = legal.0 in let lt : p < (count c) = legal.1 in let le : s.entered + 1 ≤ (count c) =
      omega arith in
      let w = timed p (if s.up 0 then Some (fresh_message s.events (Some (packet_at c p)))
      else s.message p) (s.entered + 1) le (enter_here (s.up 0)) in
      record { ringed = w.0; clock = w.1; bounded = le }
    where
      enter_here : (b : Bool) (m : Message) →
          (if b then Some (fresh_message s.events (Some (packet_at c p))) else s.message p) ≡ Some m →
          IsRinged (servers c) m.place m.logs × (m.since ≤ s.events)
      enter_here true m e = subst (λ (x : Message). IsRinged (servers c) x.place x.logs
          × (x.since ≤ s.events)) (same_Some _ m e) ((λ z j q i. absurd (true≢false (sym i))), omega arith)
      enter_here false m e = (t.ringed p m e, let a = t.clock p m e in omega arith)
  keeps_time (Take l p) legal =
      let lt : l < (servers c) =
      subst (λ w. IsRinged (servers c) w (legal.0).logs) legal.2 (t.ringed p legal.0 legal.1) in
      let w = timed p (taken_message c s l (s.message p)) s.entered t.bounded (take_timed l p (s.message p) refl lt) in
      record { ringed = w.0; clock = w.1; bounded = t.bounded }
  keeps_time (Apply k p j q) legal =
      record { ringed = t.ringed; clock = λ x m e. let a = t.clock x m e in omega arith; bounded = t.bounded }
  keeps_time (Visit k p w) legal =
      let x = timed p (visited_message c k p (outcome_at c s k p) (s.message p)) s.entered t.bounded
      (visit_timed k p (outcome_at c s k p) (s.message p) refl legal.0 legal.3 false legal.2 legal.4) in
      record { ringed = x.0; clock = x.1; bounded = t.bounded }
  keeps_time (Pass k p) legal =
      let x = timed p _ s.entered t.bounded
      (left_timed k p (is_sent c k
      && not (is_away c s k false)) (s.message p)
      (held_live k p legal.0 legal.1.visited false legal.1.there legal.1.held)) in
      record { ringed = x.0; clock = x.1; bounded = t.bounded }
  keeps_time (Lose k p) legal =
      let x = timed p _ s.entered t.bounded
      (left_timed k p (is_sent c k
      && not (is_away c s k true)) (s.message p)
      (held_live k p legal.0 legal.1.visited false legal.1.there legal.1.held)) in
      record { ringed = x.0; clock = x.1; bounded = t.bounded }
  keeps_time (Carry p) legal =
      let x = timed p None s.entered t.bounded (λ m e. absurd (none-some m e)) in
      record { ringed = x.0; clock = x.1; bounded = t.bounded }
  keeps_time (Crash k) legal = record {
    ringed = λ x m e. t.ringed x m (lost_some_message c k (s.message x) m e);
    clock = λ x m e. let a = t.clock x m (lost_some_message c k (s.message x) m e) in omega arith;
    bounded = t.bounded;
  }
  keeps_time (Recover k undone) legal = let live = following_live c s k in record {
    ringed = λ x m e. t.ringed x m (kept_some c s live (s.message x) m e).0;
    clock = λ x m e. let a = t.clock x m (kept_some c s live (s.message x) m e).0 in omega arith;
    bounded = t.bounded;
  }
  keeps_time (Pull l) legal =
      record { ringed = t.ringed; clock = λ x m e. let a = t.clock x m e in omega arith; bounded = t.bounded }
  keeps_time (Propagate p) legal =
      let x = timed p (Some (fresh_message s.events None)) s.entered t.bounded
      (λ m e. subst (λ (x : Message). IsRinged (servers c) x.place x.logs
      × (x.since ≤ s.events)) (same_Some _ m e) ((λ z j q i. absurd (true≢false (sym i))), omega arith)) in
      record { ringed = x.0; clock = x.1; bounded = t.bounded }
  keeps_time (Release p) legal =
      record { ringed = t.ringed; clock = λ x m e. let a = t.clock x m e in omega arith; bounded = t.bounded }

-- a set without the undone, over what is left
has_filtered : (part : ℕ) (trace : List Entry) (gone set : Visits) (j p : ℕ) → Has part trace set j p →
    Has part (left_of gone trace) (λ a b. set a b && not (gone a b)) j p
has_filtered part trace gone set j p h = record {
  changing = λ is. let w = visit_stood gone (λ o. is_changing part o ≡ true) trace j p is in
      and_from (set j p) (not (gone j p)) (h.changing w.0) (not_from_false _ w.1);
  other = λ not_changing q before.
      let last = (visit_stood gone (λ o. Unit {0}) trace j p (before_last part (left_of gone trace) j q p before)).1 in
      let first = (visit_stood gone (λ o. is_changing part o
      ≡ true) trace j q (before_first part (left_of gone trace) j q p before)).1 in
      and_from (set j q) (not (gone j q))
      (h.other (λ is. not_changing (visit_left gone (λ o. is_changing part o ≡ true) trace j p is last)) q
      (before_left gone part trace j q p before)) (not_from_false _ first);
}

seen_moves : (c : Setting) (trace : List Entry) (up : ℕ → Bool) (has : ℕ → Visits) (up' : ℕ → Bool) (has' : ℕ →
    Visits) (y x : ℕ) (logs set : Visits)
    → ((j q : ℕ) → In (has y) j q ⊎ (In (has x) j q ⊎ (up y ≡ false)) →
    In (has' y) j q ⊎ (In (has' x) j q ⊎ (up' y ≡ false)))
    → IsSeenAt c trace up has y x logs set → IsSeenAt c trace up' has' y x logs set
seen_moves c trace up has up' has' y x logs set move h =
    record {
      listed = h.listed;
      has_logs = h.has_logs;
      closed = h.closed;
      earlier = h.earlier;
      here = λ j q i. move j q (h.here j q i);
    }

module _ (c : Setting) (good : IsGood c) (s : ChainState) (h : Inv c s) (t : IsTimed c s) (seen : ℕ →
    Visits) (ok : AreSeen c s seen) where
  -- the lists only grow
  pub seen_grow : (has' : ℕ → Visits) → ((k j q : ℕ) → In (s.lists k) j q → In (has' k) j q) → (p : ℕ) (m : Message) →
      s.message p ≡ Some m → (y : ℕ) → From (servers c) m.place y →
      IsSeenAt c s.trace s.up has' y (target (servers c) m.place) m.logs (seen p)
  seen_grow has' more p m e y from =
      seen_moves c s.trace s.up s.lists s.up has' y (target (servers c) m.place) m.logs (seen p)
      (λ j q w. elim w [
        | inl a ↦ inl (more y j q a)
        | inr b ↦
            elim b [ inl x ↦ inr (inl (more (target (servers c) m.place) j q x)) | inr d ↦ inr (inr d) ]
      ])
      (ok p m e y from)

  pub take_seen : (l p : ℕ) → MayHappen c s (Take l p) → (o : Option Message) → s.message p ≡ o → (m' : Message) →
      taken_message c s l o ≡ Some m' → (y : ℕ) → From (servers c) m'.place y →
      IsSeenAt c s.trace s.up s.lists y (target (servers c) m'.place) m'.logs (seen p)
  take_seen l p legal None is m' e = absurd (none-some m' e)
  take_seen l p legal (Some m0) is m' e =
      let n = (servers c) in
      let same : legal.0 ≡ m0 = same_Some _ _ (sym legal.1 ∙ is) in
      let queued : m0.place ≡ Queued l = subst (λ (x : Message). x.place ≡ Queued l) same legal.2 in
      let ll : l < n = subst (λ w. IsRinged n w m0.logs) queued (t.ringed p m0 is) in
      let new : Message = record m0 { place = Held (next_of n l) false (l + 1 == n); since = s.events } in
      subst (λ (x : Message). (y : ℕ) → From n x.place y →
      IsSeenAt c s.trace s.up s.lists y (target n x.place) x.logs (seen p)) (same_Some new m' e)
      (λ y from. elim (apart_after n l ll) [
        | inr alone ↦ let yl = from.0 in let eq : l ≡ y = omega arith in seen_at m0 is l queued y eq
        | inl step ↦ elim (apart_after n y from.0) [
          | inr alone ↦ absurd (let st = step.0 in let sl = step.1 in omega arith)
          | inl step' ↦ let st = step.0 in let st' = step'.0 in let e1 : next_of n y ≡ next_of n l = from.1 in let yl =
              from.0 in let eq : l ≡ y = omega arith in seen_at m0 is l queued y eq
        ]
      ])
    where
      seen_at : (m0 : Message) → s.message p ≡ Some m0 → (l : ℕ) → m0.place ≡ Queued l → (y : ℕ) → l ≡ y →
          IsSeenAt c s.trace s.up s.lists y (next_of (servers c) l) m0.logs (seen p)
      seen_at m0 is l queued y eq =
          subst (λ x. IsSeenAt c s.trace s.up s.lists y x m0.logs (seen p)) (ap (target (servers c)) queued)
          (ok p m0 is y (subst (λ w. From (servers c) w y) (sym queued) eq))

  -- a message that leaves a server that has all its logs
  sent_seen : (k p : ℕ) (m : Message) → MayLeave c s k p m →
      IsSeenAt c s.trace s.up s.lists k (next_of (servers c) k) (logs_sent c s k m) (s.lists k)
  sent_seen k p m leaves =
      let n = (servers c) in
      let kl = h.world.inside k (subst (IsUp n s.up) leaves.held (h.awake p m leaves.there)) in
      record {
        listed = λ j q i. (h.world.lists.listed k j q i).1;
        has_logs = λ j q i other. elim (or_cases (m.logs j q && not (is_tail c j k)) ((k == 0) && s.forwarder j q) i) [
          | inl a ↦ leaves.ready j q (and_parts (m.logs j q) _ a).0
          | inr b ↦
              let f = and_parts (k == 0) (s.forwarder j q) b in
              let z : k ≡ 0 = eqb-true k 0 f.0 in
              let w = h.forward.member j q f.1 in let far = h.forward_far j q f.1 in
              let live = h.forward_live j q f.1 in let zl : 0 < n = good.some in
              let j0 = apart_cases n j 0 w.0 zl in
              elim (apart_after n 0 zl) [
                | inr alone ↦ absurd (let jl = w.0 in
                    let jx = apart_cases n j (next_of n 0) w.0
                    (subst (λ v. v < n) (sym (ap (λ b. if b then 0 else 0 + 1) (eq-eqb (0 + 1) n (sym alone)))) zl) in
                    let e0 : next_of n 0 ≡ 0 = ap (λ b. if b then 0 else 0 + 1) (eq-eqb (0 + 1) n (sym alone)) in
                    omega arith)
                | inl step ↦
                    let st = step.0 in let jx = apart_cases n j (next_of n 0) w.0 step.1 in let w1 = w.1 in
                    subst (λ v. Has c.partitions s.trace (s.lists v) j q) (sym z)
                    (h.forward.wake j j q f.1 (omega arith) w.2 0 zl live (omega arith) (omega arith))
              ]
        ];
        closed = λ j a b i before. h.world.lists.closed k j a b i before;
        earlier = λ i j q is less touching member other.
            let jl = (h.world.nest.member k j q is).2 in let il : i < n = omega arith in
            let ik = apart_cases n i k il kl in
            elim (apart_after n k kl) [
              | inr alone ↦ absurd (omega arith)
              | inl step ↦ let st = step.0 in let ix = apart_cases n i (next_of n k) il step.1 in
                  h.world.earlier k i j q is less touching (omega arith)
            ];
        here = λ j q i. inl i;
      }

  pub left_seen : (k p : ℕ) (m : Message) → MayLeave c s k p m → (b : Bool) (o : Option Message) → s.message p ≡ o →
      (m' : Message) → (if b then sent_message c s k o else None) ≡ Some m' → (y : ℕ) → From (servers c) m'.place y →
      IsSeenAt c s.trace s.up s.lists y (target (servers c) m'.place) m'.logs (s.lists k)
  left_seen k p m leaves false o is m' e = absurd (none-some m' e)
  left_seen k p m leaves true None is m' e = absurd (none-some m' e)
  left_seen k p m leaves true (Some m0) is m' e =
      let same : m ≡ m0 = same_Some _ _ (sym leaves.there ∙ is) in
      subst (λ (x : Message). (y : ℕ) → From (servers c) x.place y →
      IsSeenAt c s.trace s.up s.lists y (target (servers c) x.place) x.logs (s.lists k)) (same_Some _ m' e)
      (λ y from. subst (λ v. IsSeenAt c s.trace s.up s.lists v (next_of (servers c) k) (logs_sent c s k m0)
      (s.lists k)) from (subst
      (λ (x : Message). IsSeenAt c s.trace s.up s.lists k (next_of (servers c) k) (logs_sent c s k x)
      (s.lists k)) same (sent_seen k p m leaves)))

  -- another visit
  seen_grown : (k p : ℕ) (o : Outcome) → ((j : ℕ) → IsInTrace Somehow s.trace j p → j < k) → (has' : ℕ → Visits) →
      ((k j q : ℕ) → In (s.lists k) j q → In (has' k) j q)
      → (y x : ℕ) (logs set : Visits) → ((j q : ℕ) → In logs j q → IsInTrace Somehow s.trace j q) →
      IsSeenAt c s.trace s.up s.lists y x logs set → IsSeenAt c (Visited k p o ∷ s.trace) s.up has' y x logs set
  seen_grown k p o fresh has' more y x logs set stood w =
      let other : (j q : ℕ) → IsInTrace Somehow s.trace j q → (k ≡ j) × (p ≡ q) → ⊥ = λ j q st e. let less : k < k =
      fresh k (subst (λ v. IsInTrace Somehow s.trace v p) (sym e.0)
      (subst (λ v. IsInTrace Somehow s.trace j v) (sym e.1) st)) in lt_irrefl k less in
      record {
        listed = λ j q i. inr (w.listed j q i);
        has_logs = λ j q i ne. carrying.has_grown c.partitions s.trace k p o set j q (other j q (stood j q i))
            (w.has_logs j q i ne);
        closed = λ j a b i before. elim before [
          | inl here ↦ absurd (other j b (some_stands _ s.trace j b (w.listed j b i)) (here.1.0, here.0))
          | inr there ↦ w.closed j a b i there
        ];
        earlier = λ i j q is less touching member ne. elim touching [
          | inl new ↦ let below : j < k =
              fresh j (subst (λ v. IsInTrace Somehow s.trace j v) (sym new.1)
              (some_stands _ s.trace j q (w.listed j q is))) in let e : k ≡ i = new.0 in absurd (omega arith)
          | inr old ↦ carrying.has_grown c.partitions s.trace k p o set i q (other i q (some_stands _ s.trace i q old))
              (w.earlier i j q is less old member ne)
        ];
        here = λ j q i. elim (w.here j q i) [
          | inl a ↦ inl (more y j q a)
          | inr b ↦
              elim b [ inl v ↦ inr (inl (more x j q v)) | inr d ↦ inr (inr d) ]
        ];
      }

  pub seen_given : (p : ℕ) (bytes : (List ℕ)) (y x : ℕ) (logs set : Visits) →
      IsSeenAt c s.trace s.up s.lists y x logs set → IsSeenAt c (Given p bytes ∷ s.trace) s.up s.lists y x logs set
  seen_given p bytes y x logs set w = record {
    listed = λ j q i. inr (w.listed j q i);
    has_logs = λ j q i ne. has_given c.partitions s.trace p bytes set j q (w.has_logs j q i ne);
    closed = λ j a b i before. elim before [ inl here ↦ absurd here.0 | inr there ↦ w.closed j a b i there ];
    earlier = λ i j q is less touching member ne. elim touching [
      | inl new ↦ absurd new
      | inr old ↦
          has_given c.partitions s.trace p bytes set i q (w.earlier i j q is less old member ne)
    ];
    here = w.here;
  }

  stood_logs : (p : ℕ) (m : Message) → s.message p ≡ Some m → (j q : ℕ) → In m.logs j q → IsInTrace Somehow s.trace j q
  stood_logs p m e j q i = some_stands _ s.trace j q ((h.messages p m e).carried.member j q i).2

  pub visit_seen : (k p w : ℕ) (legal : MayHappen c s (Visit k p w)) → AreSeen c (next c s (Visit k p w)) seen
  visit_seen k p w legal =
      let o = outcome_at c s k p in let m = legal.0 in let by_ring = legal.2 in
      let has' = with_at s.lists k (union (s.lists k) (just k p (is_changing c.partitions o))) in
      let more : (x j q : ℕ) → In (s.lists x) j q → In (has' x) j q =
      λ x j q i. kept s.lists k k p (is_changing c.partitions o) x j q i in
      let world' = (visits c good s h k p m legal.1 by_ring legal.3 legal.4 legal.5 legal.6 w).world in
      let fresh = visited_earlier c s.trace k p world'.serial.0.0 h.world.serial world'.serial.0.1 in
      let Good : ℕ → Message → Type 0 = λ q n. (y : ℕ) → From (servers c) n.place y →
      IsSeenAt c (Visited k p o ∷ s.trace) s.up has' y (target (servers c) n.place) n.logs (seen q) in
      let log : Bool = is_touching o && nat_lt 0 c.failures in
      let after = after_visit c k p o m in
      let new : Message = record after { place = Held k true by_ring } in
      let is_new : visited_message c k p o (Some m) ≡ Some new =
      ap (λ v. Some (record after { place = visited_at v })) legal.4 in
      let new_good : Good p new = λ y from.
      let old = seen_grown k p o fresh has' more y (target (servers c) m.place) m.logs (seen p) (stood_logs p m legal.3)
      (ok p m legal.3 y (subst (λ v. From (servers c) v y) (sym legal.4) from)) in
      let old' = subst (λ x. IsSeenAt c (Visited k p o ∷ s.trace) s.up has' y x m.logs (seen p))
      (ap (target (servers c)) legal.4) old in
      record {
        listed = old'.listed;
        has_logs = λ j q i ne. elim (in_both m.logs (just k p log) j q i) [
          | inl a ↦ old'.has_logs j q a ne
          | inr b ↦
              absurd (ne (sym (in_one k p log j q b).0))
        ];
        closed = old'.closed;
        earlier = old'.earlier;
        here = old'.here;
      } in
      each_message Good s.message p (visited_message c k p o (s.message p))
      (λ n e. subst (Good p) (same_Some new n
      (sym is_new ∙ (ap (visited_message c k p o) (sym legal.3) ∙ e))) new_good)
      (λ q n e y from. seen_grown k p o fresh has' more y (target (servers c) n.place) n.logs (seen q)
      (stood_logs q n e) (ok q n e y from))

  pub crash_seen : (k : ℕ) → AreSeen c (ticked (crashed c s k)) seen
  crash_seen k p m e y from =
      let old = lost_some c k (s.message p) m e in
      let x = target (servers c) m.place in
      let x_ne : x ≢ k = target_ne m.place old.1 in
      seen_moves c s.trace s.up s.lists (with_at s.up k false) (with_at s.lists k no_visits) y x m.logs (seen p)
      (λ j q w. elim w [
        | inl a ↦ elim (cases_eq y k) [
          | inl same ↦ inr (inr (subst (λ v. with_at s.up k false v ≡ false) (sym same) (with_at_here s.up k false)))
          | inr ne ↦ inl (subst (λ (v : Visits). In v j q) (sym (with_at_elsewhere s.lists k no_visits y ne)) a)
        ]
        | inr b ↦ elim b [
          | inl v ↦ inr (inl (subst (λ (v : Visits). In v j q) (sym (with_at_elsewhere s.lists k no_visits x x_ne)) v))
          | inr d ↦ inr (inr (with_at_cases (λ b. b ≡ false) s.up k false y (λ _. refl) (λ _. d)))
        ]
      ]) (ok p m old.0 y from)
    where
      target_ne : (w : Where) → is_at c k w ≡ false → target (servers c) w ≢ k
      target_ne (Held i v r) a = eqb-false i k a
      target_ne (Queued l) a = eqb-false _ k a

-- a recovery of server m between live servers r and t
module _ (c : Setting) (good : IsGood c) (s : ChainState) (h : Inv c s) (seen : ℕ →
    Visits) (ok : AreSeen c s seen) (m r t : ℕ) (inside : m < (servers c)) (down : s.up m ≡ false)
    (before : IsLastLive (servers c) s.up m r) (after : IsNextLive (servers c) s.up m t)
    (admissible : IsAdmissible c s.up)
    (gone : Visits) (exact : (j p : ℕ) → In gone j p ↔ IsUndone c s r t j p) where
  abbrev pub seen_by : Option Message → Visits → Visits
  seen_by None set = no_visits
  seen_by (Some w) set = λ a b. if target (servers c) w.place == t then s.lists t a b else (set a b && not (gone a b))

  pub recover_seen : (p : ℕ) (w : Message) → s.message p ≡ Some w → is_dropped c s t w ≡ false → (y : ℕ) →
      From (servers c) w.place y
      → IsSeenAt c (left_of gone s.trace) (with_at s.up m true) (with_at s.lists m (list_got c s m r t)) y
      (target (servers c) w.place) w.logs (seen_by (s.message p) (seen p))
  recover_seen p w e stays y from =
      let n = (servers c) in let x = target n w.place in
      let old = ok p w e y from in
      let live : s.up x ≡ true =
      up_target c good s h m r t inside down before after admissible gone exact w.place (h.awake p w e) in
      let xl = h.world.inside x live in
      let x_ne : x ≢ m = λ q. true≢false (sym live ∙ subst (λ v. s.up v ≡ false) (sym q) down) in
      let P : Visits → Type 0 = λ set. IsSeenAt c (left_of gone s.trace) (with_at s.up m true)
      (with_at s.lists m (list_got c s m r t)) y x w.logs set in
      let same_x : In' x = λ j q i. subst (λ (v : Visits). In v j q)
      (sym (with_at_elsewhere s.lists m (list_got c s m r t) x x_ne)) i in
      let stood_t : (i q : ℕ) → IsTouching (left_of gone s.trace) i q → IsTouching s.trace i q =
      λ i q tt'. (visit_stood gone (λ o. is_touching o ≡ true) s.trace i q tt').0 in
      subst (λ v. P (seen_by v (seen p))) (sym e) (elim (x == t) as (λ b. x == t ≡ b →
      P (λ a d. if b then s.lists t a d else (seen p a d && not (gone a d)))) [
        | true ↦ λ at.
            let xt : x ≡ t = eqb-true x t at in
            record {
              listed = λ j q i. visit_left gone (λ o. is_changing c.partitions o
                  ≡ true) s.trace j q (h.world.lists.listed t j q i).1
                  (nobody_has c s good.some good.sound h.world admissible m r t inside down before after gone exact t j
                  q i);
              has_logs = λ j q i ne. has_left c.partitions s.trace gone (s.lists t) j q
                  (ready_at c good s h m r t inside down before after admissible gone exact w.logs w.place stays xt j q
                  i);
              closed = λ j a b i bf. h.world.lists.closed t j a b i (before_left gone c.partitions s.trace j a b bf);
              earlier = λ i j q is less touching member ne. has_left c.partitions s.trace gone (s.lists t) i q
                  (h.world.earlier t i j q is less (stood_t i q touching)
                  (subst (λ v. apart n i v ≤ c.failures) xt member));
              here = λ j q i. inr (inl (same_x j q (subst (λ v. In (s.lists v) j q) (sym xt) i)));
            }
        | false ↦ λ away.
            let x_net : x ≢ t = eqb-false x t away in
            let part' : (j q : ℕ) → In (λ a d. seen p a d && not (gone a d)) j q →
            In (seen p) j q × (gone j q ≡ false) = λ j q i. let a = and_parts (seen p j q) (not (gone j q)) i in
            (a.0, not-true _ a.1) in
            record {
              listed = λ j q i. let a = part' j q i in
                  visit_left gone (λ o. is_changing c.partitions o ≡ true) s.trace j q (old.listed j q a.0) a.1;
              has_logs = λ j q i ne. has_filtered c.partitions s.trace gone (seen p) j q (old.has_logs j q i ne);
              closed = λ j a b i bf.
                  let stays' = (visit_stood gone (λ o. is_changing c.partitions o
                  ≡ true) s.trace j a (before_first c.partitions (left_of gone s.trace) j a b bf)).1 in
                  and_from (seen p j a) (not (gone j a))
                  (old.closed j a b (part' j b i).0 (before_left gone c.partitions s.trace j a b bf))
                  (not_from_false _ stays');
              earlier = λ i j q is less touching member ne. has_filtered c.partitions s.trace gone (seen p) i q
                  (old.earlier i j q (part' j q is).0 less (stood_t i q touching) member ne);
              here = λ j q i. elim (old.here j q (part' j q i).0) [
                | inl a ↦ inl (subst (λ (v : Visits). In v j q)
                    (sym (with_at_elsewhere s.lists m (list_got c s m r t) y
                    (λ q'. true≢false (sym (h.world.lists.listed y j q a).0 ∙ subst (λ v. s.up v
                    ≡ false) (sym q') down)))) a)
                | inr b ↦ elim b [
                  | inl v ↦ inr (inl (same_x j q v))
                  | inr d ↦ inr (inr (with_at_cases (λ b. b ≡ false) s.up m true y
                      (λ ym. absurd (x_net (next_is_t y w.place from ym live))) (λ _. d)))
                ]
              ];
            }
      ] refl)
    where
      In' : ℕ → Type 0
      In' x = (j q : ℕ) → In (s.lists x) j q → In (with_at s.lists m (list_got c s m r t) x) j q

      near_t : (x : ℕ) → x < (servers c) → next_of (servers c) m ≡ x → s.up x ≡ true → x ≡ t
      near_t x xl e live =
          let n = (servers c) in
          elim (apart_after n m inside) [
            | inr alone ↦ let tl = after.below in omega arith
            | inl step ↦
                let st = step.0 in
                let mx = apart_cases n m x inside xl in let mt = apart_cases n m t inside after.below in
                let pos : 0 < apart n m t = after.after in
                elim (cases_lt (apart n m x) (apart n m t)) [
                  | inl less ↦ absurd (true≢false (sym live ∙ after.between x xl (omega arith) less))
                  | inr more ↦ omega arith
                ]
          ]

      next_is_t : (y : ℕ) (w : Where) → From (servers c) w y → y ≡ m → s.up (target (servers c) w) ≡ true →
          target (servers c) w ≡ t
      next_is_t y (Held k v r') from ym live =
          near_t k (h.world.inside k live) (ap (next_of (servers c)) (sym ym) ∙ from.1) live
      next_is_t y (Queued l) from ym live =
          near_t (next_of (servers c) l) (h.world.inside _ live) (ap (next_of (servers c)) (sym (from ∙ ym))) live
