-- Whose logs a message carries: those of its own packet, and behind server 0 those of groups whose heads are still to
-- come.
use Rattle.std.proofs.Common.{◌≡◌, ◌≢◌, ℕ, ◌+◌, ◌<◌, ◌≤◌, ◌==◌, ◌&&◌, ◌⊎◌, if◌then◌else◌, nat_lt, Bool, true, false}
use Rattle.std.proofs.Common.{not, List, refl, sym, ap, subst, ◌∙◌, arith, inl, inr, eqb-true, Option, Some, None}
use Rattle.std.proofs.lemmas.Bool.{true≢false, cases_eq, eqb-false, and_parts, or_cases, not-true}
use Rattle.std.proofs.lemmas.Option.{none-some, same_Some}
use Rattle.ftc_ring.specs.Ring.{apart, next_of}
use Rattle.ftc_journal.specs.declared.event.Event.{Event}
use Rattle.ftc_journal.specs.declared.event.Event.TheVariants.{Apply, Carry, Crash, Enter, Lose, Pass, Propagate, Pull}
use Rattle.ftc_journal.specs.declared.event.Event.TheVariants.{Recover, Release, Take, Visit}
use Rattle.ftc_serial.specs.Words.{with_at}
use Rattle.ftc_serial.specs.Trace.{names}
use Rattle.ftc_protocol.specs.Setting.{Setting, servers, packet_at, is_tail}
use Rattle.ftc_protocol.specs.Visits.{Visits, In, union, just}
use Rattle.ftc_protocol.specs.State.{ChainState, Message, Where, Held, Queued, opening}
use Rattle.ftc_protocol.specs.Trace.{IsSomeVisit}
use Rattle.ftc_protocol.specs.Legal.{MayHappen, MayLeave, is_sent}
use Rattle.ftc_protocol.specs.Recovery.{is_dropped, following_live}
use Rattle.ftc_protocol.specs.Next.{next, sent_on, is_away, is_at, fresh_message, taken_message, visited_message}
use Rattle.ftc_protocol.specs.Next.{visited_at, sent_message, logs_sent, logs_of, outcome_at}
use Rattle.ftc_protocol.specs.Changes.{is_touching}
use Rattle.ftc_protocol.proofs.Premises.{IsGood, ticked}
use Rattle.ftc_protocol.proofs.Invariant.{Inv, each_message, target}
use Rattle.ftc_protocol.proofs.RingDistances.{apart_cases}
use Rattle.ftc_protocol.proofs.LiveHolders.{kept_drop}
use Rattle.ftc_protocol.proofs.TraceLemmas.{visit_stood}
use Rattle.ftc_protocol.proofs.Sets.{in_one}
use Rattle.ftc_protocol.proofs.ArrivalOrder.{IsTimed}
use Rattle.ftc_protocol.proofs.InsidePackets.{AreFated, IsPast}

abbrev pub IsRingLog : ℕ → ℕ → ℕ → Type 0
IsRingLog p j q = (q ≡ p) × (0 < j)

abbrev pub IsShaped : ℕ → ℕ → Where → Visits → Type 0
IsShaped n p (Held k visited true) logs = (j q : ℕ) → In logs j q → IsRingLog p j q
IsShaped n p (Held k visited false) logs = (j q : ℕ) → In logs j q → (q ≡ p) ⊎ (k < j)
IsShaped n p (Queued l) logs = (j q : ℕ) → In logs j q → (l + 1 ≡ n → IsRingLog p j q) × ((q ≡ p) ⊎ (l + 1 < j))

pub record AreShaped (c : Setting) (s : ChainState) : Type 0 where
  pub visited : (k p : ℕ) → IsSomeVisit s.trace k p → p < s.entered
  pub messages : (p : ℕ) (m : Message) → s.message p ≡ Some m → IsShaped (servers c) p m.place m.logs
  pub forward : (j q : ℕ) → In s.forwarder j q → 1 < j

-- what takes a ring link is at server 0
taken_shape : (n l p : ℕ) (logs : Visits) (ring : Bool) → (l + 1 == n) ≡ ring → IsShaped n p (Queued l) logs →
    IsShaped n p (Held (next_of n l) false ring) logs
taken_shape n l p logs true is shaped = λ j q i. (shaped j q i).0 (eqb-true (l + 1) n is)
taken_shape n l p logs false is shaped = λ j q i. elim (shaped j q i).1 [
  | inl own ↦ inl own
  | inr ahead ↦ let next_is : next_of n l ≡ l + 1 = ap (λ b. if b then 0 else l + 1) is in
      inr (subst (λ x. x < j) (sym next_is) ahead)
]

module _ (c : Setting) (good : IsGood c) (s : ChainState) (h : Inv c s) (t : IsTimed c s) (f : AreFated c s)
    (a : AreShaped c s) where
  no_logs_shape : (p : ℕ) (packet : Option (List ℕ)) (m : Message) → Some (fresh_message s.events packet) ≡ Some m →
      IsShaped (servers c) p m.place m.logs
  no_logs_shape p packet m e =
      subst (λ (x : Message). IsShaped (servers c) p x.place x.logs) (same_Some _ m e)
      (λ j q i. absurd (true≢false (sym i)))

  with_message : (p : ℕ) (o : Option Message) → ((m : Message) → o ≡ Some m → IsShaped (servers c) p m.place m.logs) →
      (q : ℕ) (m : Message) → with_at s.message p o q ≡ Some m → IsShaped (servers c) q m.place m.logs
  with_message p o new = each_message (λ q m. IsShaped (servers c) q m.place m.logs) s.message p o new a.messages

  enter_new : (p : ℕ) (b : Bool) (m : Message) →
      (if b then Some (fresh_message s.events (Some (packet_at c p))) else s.message p) ≡ Some m →
      IsShaped (servers c) p m.place m.logs
  enter_new p true m e = no_logs_shape p (Some (packet_at c p)) m e
  enter_new p false m e = a.messages p m e

  -- what a server sends: logs of its own packet, or of groups farther on, for a log of the next server's own group has
  -- its tail here
  sent_shape : (k p : ℕ) (m : Message) → MayLeave c s k p m → k < servers c → (j q : ℕ) → In (logs_sent c s k m) j q →
      (k + 1 ≡ servers c → IsRingLog p j q) × ((q ≡ p) ⊎ (k + 1 < j))
  sent_shape k p m leaves kl j q is =
      elim (or_cases (m.logs j q && not (is_tail c j k)) ((k == 0) && s.forwarder j q) is) [
        | inl own ↦
            let parts = and_parts (m.logs j q) (not (is_tail c j k)) own in
            let not_tail : apart (servers c) j k ≢ c.failures =
            eqb-false (apart (servers c) j k) c.failures (not-true (is_tail c j k) parts.1) in
            let carried = (h.messages p m leaves.there).carried.member j q parts.0 in
            let at : target (servers c) m.place ≡ k = ap (target (servers c)) leaves.held in
            let jl : j < servers c = carried.0 in
            let member : apart (servers c) j k ≤ c.failures =
            subst (λ x. apart (servers c) j x ≤ c.failures) at carried.1 in
            let jk = apart_cases (servers c) j k jl kl in
            let small : c.failures < servers c = good.small in
            let shape = subst (λ w. IsShaped (servers c) p w m.logs) leaves.held (a.messages p m leaves.there) in (
              (λ last. elim (shape j q parts.0) [
                | inl same ↦ (
                  same,
                  (elim (cases_eq j 0) [
                    | inl zero_ ↦ absurd (not_tail (omega arith))
                    | inr other ↦
                        omega arith
                  ]),
                )
                | inr ahead ↦ absurd (omega arith)
              ]),
              elim (shape j q parts.0) [
                | inl same ↦ inl same
                | inr ahead ↦ inr (elim (cases_eq j (k + 1)) [
                  | inl next_ ↦ absurd (not_tail (omega arith))
                  | inr other ↦
                      omega arith
                ])
              ],
            )
        | inr forwarded ↦
            let parts = and_parts (k == 0) (s.forwarder j q) forwarded in
            let first : k ≡ 0 = eqb-true k 0 parts.0 in
            let far : 1 < j = a.forward j q parts.1 in
            let jl : j < servers c = (h.forward.member j q parts.1).0 in
            ((λ last. absurd (omega arith)), inr (omega arith))
      ]

  left_shape : (k p : ℕ) (lost : Bool) (m : Message) → MayLeave c s k p m → k < servers c →
      AreShaped c (ticked (sent_on c s k p lost))
  left_shape k p lost m leaves kl = record {
    visited = a.visited;
    messages = with_message p _
        (λ n e. by_sent (is_sent c k
        && not (is_away c s k lost)) n
        (sym (ap (λ o. if is_sent c k && not (is_away c s k lost) then sent_message c s k o
        else None) leaves.there) ∙ e));
    forward = λ j q is. a.forward j q (and_parts (not (k == 0)) (s.forwarder j q) is).1;
  }
    where
      by_sent : (b : Bool) (n : Message) → (if b then sent_message c s k (Some m) else None) ≡ Some n →
          IsShaped (servers c) p n.place n.logs
      by_sent true n e = subst (λ (x : Message). IsShaped (servers c) p x.place x.logs) (same_Some _ n e)
          (λ j q is. sent_shape k p m leaves kl j q is)
      by_sent false n e = absurd (none-some n e)

  below : (k p : ℕ) (m : Message) → MayLeave c s k p m → k < servers c
  below k p m leaves = h.world.inside k
      (subst (Rattle.ftc_protocol.proofs.LiveHolders.IsUp (servers c) s.up) leaves.held (h.awake p m leaves.there))

  pub keeps_shapes : (e : Event) → MayHappen c s e → AreShaped c (next c s e)
  keeps_shapes (Enter p) legal =
      record {
        visited = λ k q is. let less = a.visited k q is in
            omega arith;
        messages = with_message p _ (λ m e. enter_new p (s.up 0) m e);
        forward = a.forward;
      }
  keeps_shapes (Take l p) legal = record {
    visited = a.visited;
    forward = a.forward;
    messages = with_message p _
        (λ n e. subst (λ (x : Message). IsShaped (servers c) p x.place x.logs)
        (same_Some _ n (sym (ap (taken_message c s l) legal.1) ∙ e))
        (taken_shape (servers c) l p legal.0.logs (l + 1 == servers c) refl
        (subst (λ w. IsShaped (servers c) p w legal.0.logs) legal.2 (a.messages p legal.0 legal.1))));
  }
  keeps_shapes (Apply k p j q) legal = record { visited = a.visited; messages = a.messages; forward = a.forward }
  keeps_shapes (Visit k p w) legal =
      let m = legal.0 in let there = legal.3 in let o = outcome_at c s k p in
      record {
        visited = λ i q is. elim is [
          | inl here ↦
              subst (λ x. x < s.entered) here.1 (h.entered p m legal.1 there legal.5)
          | inr older ↦ a.visited i q older
        ];
        forward = a.forward;
        messages = with_message p _
            (λ n e. subst (λ (x : Message). IsShaped (servers c) p x.place x.logs)
            (same_Some _ n (sym (ap (visited_message c k p o) there) ∙ e))
            (subst (λ w. IsShaped (servers c) p (visited_at w)
            (union m.logs (just k p (is_touching o && nat_lt 0 c.failures)))) (sym legal.4)
            (by_ring legal.2 legal.4 (subst (λ w. IsShaped (servers c) p w m.logs) legal.4 (a.messages p m there)))));
      }
    where
      by_ring : (ring : Bool) → legal.0.place ≡ Held k false ring →
          IsShaped (servers c) p (Held k false ring) legal.0.logs
          → IsShaped (servers c) p (Held k true ring)
          (union legal.0.logs (just k p (is_touching (outcome_at c s k p) && nat_lt 0 c.failures)))
      by_ring true place shape =
          absurd (none-some legal.1
          (sym (f.bare p legal.0 legal.3 (subst (λ w. IsPast (servers c) w) (sym place) refl)) ∙ legal.5))
      by_ring false place shape = λ j q is. elim (or_cases (legal.0.logs j q) _ is) [
        | inl old ↦ shape j q old
        | inr new ↦ let own = in_one k p _ j q new in inl own.1
      ]
  keeps_shapes (Pass k p) legal = left_shape k p false legal.0 legal.1 (below k p legal.0 legal.1)
  keeps_shapes (Lose k p) legal = left_shape k p true legal.0 legal.1 (below k p legal.0 legal.1)
  keeps_shapes (Carry p) legal = record {
    visited = a.visited;
    messages = with_message p None (λ m e. absurd (none-some m e));
    forward = λ j q is. elim (or_cases (s.forwarder j q) _ is) [
      | inl old ↦ a.forward j q old
      | inr new ↦
          let m = legal.0 in
          let parts = and_parts (logs_of (s.message p) j q) (not (is_tail c j 0)) new in
          let log : In m.logs j q = ap (λ o. logs_of o j q) (sym legal.1) ∙ parts.0 in
          let not_tail : apart (servers c) j 0 ≢ c.failures =
          eqb-false (apart (servers c) j 0) c.failures (not-true (is_tail c j 0) parts.1) in
          let shape = subst (λ w. IsShaped (servers c) p w m.logs) legal.3 (a.messages p m legal.1) in
          let ringed = shape j q log in
          let some : 0 < j = ringed.1 in
          let carried = (h.messages p m legal.1).carried.member j q log in
          let jl : j < servers c = carried.0 in
          let member : apart (servers c) j 0 ≤ c.failures =
          subst (λ x. apart (servers c) j x ≤ c.failures) (ap (target (servers c)) legal.3) carried.1 in
          let j0 = apart_cases (servers c) j 0 jl good.some in
          let small : c.failures < servers c = good.small in
          elim (cases_eq j 1) [ inl one_ ↦ absurd (not_tail (omega arith)) | inr other ↦ omega arith ]
    ];
  }
  keeps_shapes (Crash k) legal = record {
    visited = a.visited;
    messages = λ q m e. a.messages q m (kept_drop (λ (x : Message). is_at c k x.place) (s.message q) m e);
    forward = λ j q is. a.forward j q (and_parts (not (k == 0)) (s.forwarder j q) is).1;
  }
  keeps_shapes (Recover k undone) legal = record {
    visited = λ i q is. a.visited i q (visit_stood (names undone) (λ o. Unit {0}) s.trace i q is).0;
    messages = λ q m e. a.messages q m (kept_drop (is_dropped c s (following_live c s k)) (s.message q) m e);
    forward = a.forward;
  }
  keeps_shapes (Pull k) legal = record { visited = a.visited; messages = a.messages; forward = a.forward }
  keeps_shapes (Propagate p) legal =
      record { visited = a.visited; messages = with_message p _ (λ m e. no_logs_shape p None m e); forward = a.forward }
  keeps_shapes (Release p) legal =
      record {
        visited = λ k q is. elim is [ inl here ↦ absurd here | inr older ↦ a.visited k q older ];
        messages = a.messages;
        forward = a.forward;
      }

pub opens_shaped : (c : Setting) → AreShaped c (opening c)
opens_shaped c = record {
  visited = λ k p is. absurd is;
  messages = λ p m e. absurd (none-some m e);
  forward = λ j q is. absurd (true≢false (sym is));
}
