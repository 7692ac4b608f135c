-- How many messages without a packet there can be: each is paid for by a packet whose message is gone, or by a crash or
-- a recovery, but for one.
use Rattle.std.proofs.Common.{◌≡◌, ◌≢◌, ℕ, ◌+◌, ◌<◌, ◌≤◌, ◌==◌, ◌&&◌, ◌⊎◌, if◌then◌else◌, Bool, true, false, not}
use Rattle.std.proofs.Common.{refl, sym, ap, subst, ◌∙◌, arith, inl, inr, eq-eqb, Option, Some, None, is_some}
use Rattle.std.proofs.lemmas.Bool.{and_right, and_left, or_from}
use Rattle.std.proofs.lemmas.Bool.{true≢false, cases_eq, cases_lt, ne_eqb, false_from_ne_true}
use Rattle.std.proofs.lemmas.Option.{same_Some}
use Rattle.ftc_journal.specs.declared.event.Event.{Event}
use Rattle.ftc_journal.specs.declared.event.Event.TheVariants.{Apply, Carry, Crash, Enter, Lose, Pass, Propagate, Pull}
use Rattle.ftc_journal.specs.declared.event.Event.TheVariants.{Recover, Release, Take, Visit}
use Rattle.ftc_serial.specs.Words.{with_at}
use Rattle.ftc_serial.proofs.Functions.{with_at_cases, with_at_here, with_at_elsewhere}
use Rattle.ftc_protocol.specs.Setting.{Setting, servers, count, packet_at, is_tail}
use Rattle.ftc_protocol.specs.Visits.{In, Visits}
use Rattle.ftc_protocol.specs.State.{ChainState, Message, Held, Queued}
use Rattle.ftc_protocol.specs.Trace.{Has, has_each}
use Rattle.ftc_protocol.specs.Legal.{MayHappen, MayLeave}
use Rattle.ftc_protocol.specs.Recovery.{is_dropped, is_dropped_at, following_live}
use Rattle.ftc_protocol.specs.Next.{next, sent_on, is_at, drop_if, fresh_message, logs_of}
use Rattle.ftc_protocol.proofs.Premises.{IsGood, ticked}
use Rattle.ftc_protocol.proofs.Invariant.{Inv}
use Rattle.ftc_protocol.proofs.InTransit.{AreNumbered}
use Rattle.ftc_protocol.proofs.HavingVisits.{head_has}
use Rattle.ftc_protocol.proofs.HasEach.{each_has}
use Rattle.ftc_protocol.proofs.ArrivalOrder.{IsTimed}
use Rattle.ftc_protocol.proofs.InsidePackets.{AreFated}
use Rattle.ftc_protocol.proofs.LogShapes.{AreShaped, IsShaped}
use Rattle.ftc_protocol.proofs.EndedMessages.{ended, ended_more, ended_one, ended_next}

-- the forwarder is empty, or a message without a packet waits at server 0 for its logs
pub record IsMet (c : Setting) (s : ChainState) : Type 0 where
  pub origin : ℕ
  pub message : Message
  pub visited : Bool
  pub behind : count c ≤ origin
  pub there : s.message origin ≡ Some message
  pub held : message.place ≡ Held 0 visited false

abbrev pub IsIdle : Setting → ChainState → Type 0
IsIdle c s = ((j q : ℕ) → s.forwarder j q ≡ false) ⊎ IsMet c s

-- those that were begun for the forwarder's logs
pub record ArePaid (c : Setting) (s : ChainState) (begun : ℕ) : Type 0 where
  pub busy : Bool
  pub paid : begun + (if busy then 1 else 0) ≤ ended s.entered s.message
  pub idle : busy ≡ false → IsIdle c s

module _ (c : Setting) (good : IsGood c) (s : ChainState) (h : Inv c s) (t : IsTimed c s) (n : AreNumbered c s)
    (f : AreFated c s) (a : AreShaped c s) (begun : ℕ) (paid : ArePaid c s begun) where
  -- no message is new, and what the forwarder is met by stays
  still_paid : (s' : ChainState) → s'.entered ≡ s.entered →
      ((p : ℕ) → p < s.entered → is_some (s.message p) ≡ false → is_some (s'.message p) ≡ false)
      → (IsIdle c s → IsIdle c s') → ArePaid c s' begun
  still_paid s' same fewer idle = record {
    busy = paid.busy;
    paid = subst (λ e. begun + (if paid.busy then 1 else 0) ≤ ended e s'.message) (sym same)
        (let more = ended_more s.entered s.message s'.message fewer in let old = paid.paid in omega arith);
    idle = λ is. idle (paid.idle is);
  }

  gone_at : (p : ℕ) (o : Option Message) → is_some (s.message p) ≡ true → (q : ℕ) → is_some (s.message q) ≡ false →
      is_some (with_at s.message p o q) ≡ false
  gone_at p o there q was = with_at_cases (λ v. is_some v ≡ false) s.message p o q
      (λ e. absurd (true≢false (sym there ∙ (ap (λ x. is_some (s.message x)) (sym e) ∙ was)))) (λ ne. was)

  -- what the forwarder is met by, where its message stays
  met_stays : (s' : ChainState) (m : IsMet c s) → s'.message m.origin ≡ Some m.message → IsMet c s'
  met_stays s' m there = record {
    origin = m.origin;
    message = m.message;
    visited = m.visited;
    behind = m.behind;
    there = there;
    held = m.held;
  }

  -- as where another message is changed
  met_other : (s' : ChainState) (p : ℕ) (o : Option Message) → s'.message ≡ with_at s.message p o → (m : IsMet c s) →
      m.origin ≢ p → IsMet c s'
  met_other s' p o is m other = met_stays s' m
      (ap (λ (x : ℕ → Option Message). x m.origin) is ∙ (with_at_elsewhere s.message p o m.origin other ∙ m.there))

  -- the forwarder is as it was
  idle_stays : (s' : ChainState) → s'.forwarder ≡ s.forwarder → (IsMet c s → IsMet c s') → IsIdle c s → IsIdle c s'
  idle_stays s' same met idle = elim idle [
    | inl empty ↦ inl (λ j q. ap (λ (f : Visits). f j q) same ∙ empty j q)
    | inr m ↦ inr (met m)
  ]

  -- or what it has leaves server 0
  idle_leaves : (s' : ChainState) (k : ℕ) → s'.forwarder ≡ (λ j q. not (k == 0) && s.forwarder j q) →
      (k ≢ 0 → IsMet c s → IsMet c s') → IsIdle c s → IsIdle c s'
  idle_leaves s' k is met idle = elim (cases_eq k 0) [
    | inl first ↦ inl (λ j q. ap (λ (f : Visits). f j q) is ∙ ap (λ b. not b && s.forwarder j q) (eq-eqb k 0 first))
    | inr later ↦ elim idle [
      | inl empty ↦
          inl (λ j q. ap (λ (f : Visits). f j q) is ∙ and_right (not (k == 0)) (s.forwarder j q) (empty j q))
      | inr m ↦ inr (met later m)
    ]
  ]

  -- the messages and the forwarder are as they were
  unmoved : (s' : ChainState) → s'.entered ≡ s.entered → s'.message ≡ s.message → s'.forwarder ≡ s.forwarder →
      ArePaid c s' begun
  unmoved s' same messages forwarder =
      still_paid s' same (λ p less was. ap (λ (x : ℕ → Option Message). is_some (x p)) messages ∙ was)
      (idle_stays s' forwarder (λ m. met_stays s' m (ap (λ (x : ℕ → Option Message). x m.origin) messages ∙ m.there)))

  dropped : (test : Message → Bool) (o : Option Message) → is_some o ≡ false → is_some (drop_if test o) ≡ false
  dropped test None is = refl
  dropped test (Some m) is = absurd (true≢false is)

  there_is : (p : ℕ) (m : Message) → s.message p ≡ Some m → is_some (s.message p) ≡ true
  there_is p m there = ap is_some there

  not_place : (m : IsMet c s) (p : ℕ) (x : Message) → s.message p ≡ Some x →
      ((v : Bool) → x.place ≡ Held 0 v false → ⊥) → m.origin ≢ p
  not_place m p x there isnt same =
      let e : m.message ≡ x = same_Some m.message x (sym m.there ∙ (ap s.message same ∙ there)) in
      isnt m.visited (ap (λ (y : Message). y.place) (sym e) ∙ m.held)

  left_paid : (k p : ℕ) (lost : Bool) (m : Message) → MayLeave c s k p m →
      ArePaid c (ticked (sent_on c s k p lost)) begun
  left_paid k p lost m leaves =
      let s' = ticked (sent_on c s k p lost) in
      still_paid s' refl (λ q less. gone_at p _ (there_is p m leaves.there) q)
      (idle_leaves s' k refl (λ later met. met_other s' p _ refl met
      (not_place met p m leaves.there (λ v is. later (same_holder k v leaves.visited (sym leaves.held ∙ is))))))
    where
      same_holder : (k : ℕ) (v w : Bool) → Held k w false ≡ Held 0 v false → k ≡ 0
      same_holder k v w is = cc

  pub pays : (e : Event) → MayHappen c s e → (e ≢ Propagate (count c + s.propagates)) → ArePaid c (next c s e) begun
  pays (Enter p) legal other =
      let same : p ≡ s.entered = legal.0 in let below : p < count c = legal.1 in
      let o : Option Message = if s.up 0 then Some (fresh_message s.events (Some (packet_at c p))) else s.message p in
      record {
        busy = paid.busy;
        paid =
            let more = ended_more s.entered s.message (with_at s.message p o)
            (λ q less was. ap is_some (with_at_elsewhere s.message p o q (λ e. omega arith)) ∙ was) in
            let next_one = ended_next s.entered (with_at s.message p o) in
            let old = paid.paid in omega arith;
        idle = λ is. idle_stays (next c s (Enter p)) refl
            (λ met. met_other (next c s (Enter p)) p o refl met (λ e. let far = met.behind in omega arith))
            (paid.idle is);
      }
  pays (Take l p) legal other =
      let s' = next c s (Take l p) in
      still_paid s' refl (λ q less. gone_at p _ (there_is p legal.0 legal.1) q) (idle_stays s' refl (λ met.
      met_other s' p _ refl met (not_place met p legal.0 legal.1 (λ v is. queued (sym legal.2 ∙ is)))))
    where
      queued : {v : Bool} → Queued l ≡ Held 0 v false → ⊥
      queued {v} is = cc
  pays (Apply k p j q) legal other = unmoved (next c s (Apply k p j q)) refl refl refl
  pays (Visit k p w) legal other =
      let m = legal.0 in
      let entered : p < s.entered = h.entered p m legal.1 legal.3 legal.5 in
      let most = t.bounded in
      let s' = next c s (Visit k p w) in
      still_paid s' refl (λ q less. gone_at p _ (there_is p m legal.3) q)
      (idle_stays s' refl (λ met. met_other s' p _ refl met (λ e. let far = met.behind in omega arith)))
  pays (Pass k p) legal other = left_paid k p false legal.0 legal.1
  pays (Lose k p) legal other = left_paid k p true legal.0 legal.1
  pays (Carry p) legal other =
      let m = legal.0 in
      elim (cases_lt p (count c)) [
        | inl packet ↦
            let entered : p < s.entered =
            elim (n p m legal.1) [ inl less ↦ less | inr more ↦ let far = more.0 in absurd (omega arith) ] in
            record {
              busy = true;
              paid =
                  let more = ended_one s.entered s.message (with_at s.message p None)
                  (λ q less was. gone_at p None (there_is p m legal.1) q was) p entered (there_is p m legal.1)
                  (ap is_some (with_at_here s.message p None)) in
                  let old = paid.paid in omega arith;
              idle = λ is. absurd (true≢false is);
            }
        | inr behind ↦
            let no_log : (j q : ℕ) → logs_of (s.message p) j q ≡ false =
            λ j q. false_from_ne_true (logs_of (s.message p) j q) (λ is.
            let log : In m.logs j q = ap (λ o. logs_of o j q) (sym legal.1) ∙ is in
            let shape = subst (λ w. IsShaped (servers c) p w m.logs) legal.3 (a.messages p m legal.1) in
            let ringed = shape j q log in
            let same : q ≡ p = ringed.0 in
            let stands = ((h.messages p m legal.1).carried.member j q log).2 in
            let entered : q < s.entered =
            a.visited j q (Rattle.ftc_protocol.proofs.VisitsPassed.some_stands _ s.trace j q stands) in
            let most = t.bounded in
            omega arith) in
            still_paid (next c s (Carry p)) refl (λ q less. gone_at p None (there_is p m legal.1) q)
            (λ idle. elim idle [
              | inl empty ↦ inl (λ j q. or_from (s.forwarder j q) (logs_of (s.message p) j q && not (is_tail c j 0))
                  (empty j q) (and_left (logs_of (s.message p) j q) (not (is_tail c j 0)) (no_log j q)))
              | inr met ↦ inr (met_other (next c s (Carry p)) p None refl met
                  (not_place met p m legal.1 (λ v is. by_ring legal.2 v (sym legal.3 ∙ is))))
            ])
      ]
    where
      by_ring : (w v : Bool) → Held 0 w true ≡ Held 0 v false → ⊥
      by_ring w v is = cc
  pays (Crash k) legal other =
      let s' = next c s (Crash k) in
      still_paid s' refl (λ q less was. dropped (λ (m : Message). is_at c k m.place) (s.message q) was)
      (idle_leaves s' k refl (λ later met. met_stays s' met
      (ap (drop_if (λ (m : Message). is_at c k m.place)) met.there ∙ ap (λ b. if b then None else Some met.message)
      (ap (is_at c k) met.held ∙ ne_eqb 0 k (λ e. later (sym e))))))
  pays (Recover k undone) legal other =
      let s' = next c s (Recover k undone) in let t = following_live c s k in
      still_paid s' refl (λ q less was. dropped (is_dropped c s t) (s.message q) was)
      (idle_stays s' refl (λ met. met_stays s' met
      (ap (drop_if (is_dropped c s t)) met.there ∙ ap (λ b. if b then None else Some met.message)
      (ap (λ w. is_dropped_at c s t met.message.logs w) met.held ∙ ready met t))))
    where
      -- what waits at server 0 is ready there: it has logs of group 0 alone
      ready : (met : IsMet c s) (live : ℕ) →
          ((0 == live) && not (has_each c.partitions s.trace (s.lists live) met.message.logs)) ≡ false
      ready met live = elim (cases_eq 0 live) [
        | inr elsewhere ↦ ap (λ b. b && not (has_each c.partitions s.trace (s.lists live) met.message.logs))
            (ne_eqb 0 live elsewhere)
        | inl here ↦
            let up : s.up 0 ≡ true = subst (Rattle.ftc_protocol.proofs.LiveHolders.IsUp (servers c) s.up) met.held
            (h.awake met.origin met.message met.there) in
            let ringed = subst (λ w. Rattle.ftc_protocol.proofs.ArrivalOrder.IsRinged
            (servers c) w met.message.logs) met.held (t.ringed met.origin met.message met.there) in
            let has : has_each c.partitions s.trace (s.lists 0) met.message.logs ≡ true =
            each_has c (s.lists 0) met.message.logs s.trace h.world.serial (λ j q log.
            subst (λ x. Has c.partitions s.trace (s.lists 0) x q) (sym (ringed refl j q log))
            (head_has c s.trace s.up s.lists h.world.lists h.world.nest 0 q up)) in
            subst (λ l. ((0 == l) && not (has_each c.partitions s.trace (s.lists l) met.message.logs))
            ≡ false) here (ap not has)
      ]
  pays (Pull k) legal other = unmoved (next c s (Pull k)) refl refl refl
  pays (Propagate p) legal other = absurd (other (ap Propagate legal.4))
  pays (Release p) legal other = unmoved (next c s (Release p)) refl refl refl

  -- where it is paid for, one more is begun
  pub one_begun : (p : ℕ) → MayHappen c s (Propagate p) → paid.busy ≡ true →
      ArePaid c (next c s (Propagate p)) (begun + 1)
  one_begun p legal busy =
      let new = fresh_message s.events None in
      let all_in : s.entered ≡ count c = legal.0 in let number : p ≡ count c + s.propagates = legal.4 in
      record {
        busy = false;
        paid =
            let more = ended_more s.entered s.message (with_at s.message p (Some new))
            (λ q less was. ap is_some (with_at_elsewhere s.message p (Some new) q (λ e. omega arith)) ∙ was) in
            let old = subst (λ b. begun + (if b then 1 else 0) ≤ ended s.entered s.message) busy paid.paid in
            omega arith;
        idle = λ is. inr (record {
          origin = p;
          message = new;
          visited = false;
          behind = omega arith;
          there = with_at_here s.message p (Some new);
          held = refl;
        });
      }

  -- where it isn't, the forwarder is empty
  pub none_forwarded : (p : ℕ) → MayHappen c s (Propagate p) → paid.busy ≡ false → (j q : ℕ) → s.forwarder j q ≡ false
  none_forwarded p legal free = elim (paid.idle free) [
    | inl empty ↦ empty
    | inr met ↦ absurd (legal.2 met.origin met.message met.there met.visited met.held)
  ]

  -- where nothing is forwarded, it costs nothing there
  pub none_begun : (p : ℕ) → MayHappen c s (Propagate p) → ((j q : ℕ) → s.forwarder j q ≡ false) →
      ArePaid c (next c s (Propagate p)) begun
  none_begun p legal empty =
      let new = fresh_message s.events None in
      let all_in : s.entered ≡ count c = legal.0 in let number : p ≡ count c + s.propagates = legal.4 in
      still_paid (next c s (Propagate p)) refl
      (λ q less was. ap is_some (with_at_elsewhere s.message p (Some new) q (λ e. omega arith)) ∙ was)
      (λ idle. inl empty)
