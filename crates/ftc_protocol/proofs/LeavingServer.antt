-- A message leaves a server.
use Rattle.std.proofs.Common.{◌≡◌, ◌≢◌, ℕ, ◌+◌, ◌-◌, ◌<◌, ◌≤◌, ◌==◌, ◌&&◌, ◌||◌, if◌then◌else◌, nat_lt, Bool, true}
use Rattle.std.proofs.Common.{false, not, List, inl, inr, refl, sym, ap, subst, ◌∙◌, arith, eqb-true, Option, Some}
use Rattle.std.proofs.Common.{None, eq-eqb, ltb-true}
use Rattle.std.proofs.lemmas.Bool.{eqb-false, cases_lt, and_parts, and_from, or_left, or_cases, not-true, ne_eqb}
use Rattle.std.proofs.lemmas.Option.{none-some, same_Some}
use Rattle.std.proofs.lemmas.Bool.{not_from_false}
use Rattle.ftc_protocol.proofs.InTransit.{after_sending}
use Rattle.ftc_protocol.proofs.CarriedLogs.{AreCarried, passes}
use Rattle.ftc_protocol.specs.State.{ChainState, Held, Message, Withheld}
use Rattle.ftc_journal.specs.declared.event.Event.{Event}
use Rattle.ftc_protocol.specs.Trace.{Has, IsTouching}
use Rattle.ftc_protocol.proofs.Invariant.{HasOwn, Inv, IsSteady, IsWithheld, each_message, expected, knows_safe, target}
use Rattle.ftc_protocol.specs.Visits.{In}
use Rattle.ftc_protocol.proofs.LiveHolders.{IsAwake, IsUp, stays_awake}
use Rattle.ftc_protocol.proofs.Premises.{IsGood, ticked}
use Rattle.ftc_protocol.proofs.GroupDistance.{IsWithin, carried_both, carried_if}
use Rattle.ftc_journal.specs.declared.event.Event.TheVariants.{Lose, Pass}
use Rattle.ftc_protocol.specs.Legal.{MayHappen, MayLeave, is_sent}
use Rattle.ftc_protocol.specs.Setting.{Setting, is_tail, servers}
use Rattle.ftc_protocol.proofs.Places.{Waits, place_after, placed, serial_of}
use Rattle.ftc_ring.specs.Ring.{apart, next_of}
use Rattle.ftc_protocol.proofs.RingDistances.{apart_cases}
use Rattle.ftc_protocol.proofs.HavingVisits.{head_has}
use Rattle.ftc_protocol.proofs.SmallEvents.{held_target}
use Rattle.ftc_protocol.specs.Next.{is_away, logs_sent, next, sent_message, sent_on, withheld_of, withheld_packet}
use Rattle.ftc_serial.specs.Words.{with_at}
use Rattle.ftc_serial.proofs.Functions.{with_at_cases}

module _ (c : Setting) (good : IsGood c) (s : ChainState) (h : Inv c s) (k p : ℕ) (m : Message)
    (leaves : MayLeave c s k p m) where
  open leaves use {there, visited as was, held, ready}

  live : s.up k ≡ true
  live = subst (IsUp (servers c) s.up) held (h.awake p m there)

  kl : k < (servers c)
  kl = h.world.inside k live

  at : target (servers c) m.place ≡ k
  at = held_target (servers c) k m.place was false held

  carried : AreCarried c s.trace s.up s.lists m.logs k
  carried = subst (λ x. AreCarried c s.trace s.up s.lists m.logs x) at (h.messages p m there).carried

  -- a packet that leaves was visited here
  was_visited : (bytes : (List ℕ)) → m.packet ≡ Some bytes → was ≡ true
  was_visited bytes is = elim leaves.done [ inl v ↦ v | inr no_packet ↦ absurd (none-some bytes (sym no_packet ∙ is)) ]

  place_now : (bytes : (List ℕ)) → m.packet ≡ Some bytes →
      (serial_of c s.trace).place p ≡ place_after (servers c) k (Some bytes)
  place_now bytes is =
      ((h.messages p m there).under_way bytes is).place ∙
      (ap (λ w. expected (servers c) w bytes) held ∙ ap (λ v. expected (servers c) (Held k v false) bytes)
      (was_visited bytes is))

  sent_carried : AreCarried c s.trace s.up s.lists (logs_sent c s k m) (next_of (servers c) k)
  sent_carried = carried_both c s.trace s.up s.lists (λ j q. m.logs j q && not (is_tail c j k)) (λ j q. (k == 0)
      && s.forwarder j q) (next_of (servers c) k)
      (passes c good.small s.trace s.up s.lists m.logs k kl ready carried)
      (carried_if c s.trace s.up s.lists (k == 0) s.forwarder (next_of (servers c) k)
      (λ e. subst (λ v. AreCarried c s.trace s.up s.lists s.forwarder (next_of (servers c) v))
      (sym (eqb-true k 0 e)) h.forward))

  own_log : (bytes : (List ℕ)) → m.packet ≡ Some bytes → IsTouching s.trace k p → 0 < c.failures → In m.logs k p
  own_log bytes is = subst (λ w. HasOwn c s.trace p m.logs w) (held ∙ ap (λ v. Held k v false) (was_visited bytes is))
      ((h.messages p m there).under_way bytes is).own

  sent_way : (b : Bool) → k + 1 == (servers c) ≡ b → (bytes : (List ℕ)) → (if b then None else m.packet) ≡ Some bytes →
      (next' : ℕ) → next' ≡ next_of (servers c) k
      → ((serial_of c s.trace).place p ≡ Waits next' bytes) × (next' ≡ k + 1) × (m.packet ≡ Some bytes) × (b ≡ false)
  sent_way true e bytes is next' same = absurd (none-some bytes is)
  sent_way false e bytes is next' same =
      let after' : next_of (servers c) k ≡ k + 1 = ap (λ t. if t then 0 else k + 1) e in (
        place_now bytes is ∙ (ap (λ t. placed t k bytes) e ∙ ap (λ x. Waits x bytes) (sym (same ∙ after'))),
        same ∙ after',
        is,
        refl,
      )

  sent : Message
  sent = after_sending c s k m

  sent_steady : IsSteady c s.trace s.up s.lists p sent
  unfolding sent
  sent_steady = record {
    carried = sent_carried;
    told = λ j q is. knows_safe c s h k j q is;
    under_way = λ bytes is.
        let n = (servers c) in let f = c.failures in let below : k < n = kl in
        let w = sent_way (k + 1 == n) refl bytes is (next_of n k) refl in
        let u = (h.messages p m there).under_way bytes w.2 in
        let within = subst (λ x. (i : ℕ) → i < x → IsTouching s.trace i p →
        IsWithin c s.trace s.up s.lists i p (x - i)) at u.within in
        let together = subst (λ x. (i : ℕ) → i < x → IsTouching s.trace i p → x - i ≤ f →
        In m.logs i p) at u.together in
        let next' : next_of n k ≡ k + 1 = w.1 in
        let own = own_log bytes w.2 in
        record {
          place = w.0;
          within = λ i less touching y yl live_y member near.
              let il : i < n = omega arith in let iy = apart_cases n i y il yl in let ik = apart_cases n i k il kl in
              elim (cases_lt i k) [
                | inr last ↦
                    let same : i ≡ y = omega arith in
                    subst (λ v. Has c.partitions s.trace (s.lists v) i p) same
                    (head_has c s.trace s.up s.lists h.world.lists h.world.nest i p
                    (subst (λ v. s.up v ≡ true) (sym same) live_y))
                | inl before ↦ elim (cases_lt (apart n i y) (k - i)) [
                  | inl near' ↦ within i before touching y yl live_y member near'
                  | inr far ↦ let same : k ≡ y =
                      omega arith in subst (λ v. Has c.partitions s.trace (s.lists v) i p) same
                      (ready i p (together i before touching (omega arith)))
                ]
              ];
          together = λ i less touching near.
              let il : i < n = omega arith in let ik = apart_cases n i k il kl in
              or_left (m.logs i p && not (is_tail c i k)) ((k == 0)
              && s.forwarder i p) (and_from (m.logs i p) (not (is_tail c i k))
              (elim (cases_lt i k) [
                | inl before ↦ together i before touching (omega arith)
                | inr last ↦ let same : k ≡ i = omega arith in let some' : 0 < f =
                    omega arith in subst (λ v. In m.logs v p) same
                    (own (subst (λ v. IsTouching s.trace v p) (sym same) touching) some')
              ])
              (not_from_false _ (ne_eqb (apart n i k) f (λ e. let eq : apart n i k ≡ f = e in
              let bad : n < n = omega arith in omega arith))));
          own = tt;
          needs = λ i t. and_from (not (k + 1 == n)) (m.needs i) (not_from_false _ w.3) (u.needs i t);
        };
  }

  left_steady : (lost : Bool) (b : Bool) (o : Option Message) → s.message p ≡ o → (m' : Message) →
      (if b then sent_message c s k o else None) ≡ Some m' → IsSteady c s.trace s.up s.lists p m'
  unfolding sent
  left_steady lost false o is m' e = absurd (none-some m' e)
  left_steady lost true None is m' e = absurd (none-some m' e)
  left_steady lost true (Some m0) is m' e =
      let same : m ≡ m0 = cc in
      subst (λ v. IsSteady c s.trace s.up s.lists p v)
      (same_Some sent m' (ap (λ x. sent_message c s k (Some x)) same ∙ e)) sent_steady

  left_packet : (b : Bool) (o : Option Message) → s.message p ≡ o → (m' : Message) →
      (if b then sent_message c s k o else None) ≡ Some m' →
      (if k + 1 == (servers c) then None else m.packet) ≡ m'.packet
  left_packet false o is m' e = absurd (none-some m' e)
  left_packet true None is m' e = absurd (none-some m' e)
  left_packet true (Some m0) is m' e =
      let same : m ≡ m0 = cc in
      ap (λ (x : Message). if k + 1 == (servers c) then None
      else x.packet) same ∙ ap (λ (x : Message). x.packet) (same_Some _ m' e)

  packet_before : (b : Bool) (m' : Message) (bytes : (List ℕ)) → (if b then None else m.packet) ≡ m'.packet →
      m'.packet ≡ Some bytes → m.packet ≡ Some bytes
  packet_before true m' bytes e is = absurd (none-some bytes (e ∙ is))
  packet_before false m' bytes e is = e ∙ is

  buffered_now : (o : Option Message) → s.message p ≡ o → k + 1 ≡ (servers c) → (w : Withheld) →
      withheld_of s o ≡ Some w → IsWithheld c s.trace s.up p w
  buffered_now None is last w = λ e. absurd (none-some w e)
  buffered_now (Some m0) is last w = packet_by m0.packet refl
    where
      packet_by : (packet : Option (List ℕ)) → m0.packet ≡ packet → withheld_packet s m0 packet ≡ Some w →
          IsWithheld c s.trace s.up p w
      packet_by None no_packet e = absurd (none-some w e)
      packet_by (Some bytes) packet e =
          let same : m ≡ m0 = cc in
          let packet' : m.packet ≡ Some bytes = ap (λ (x : Message). x.packet) same ∙ packet in
          let new : Withheld = record { since = s.events; bytes = bytes; needs = m0.needs } in
          let equal : new ≡ w = same_Some new w e in
          subst (λ v. IsWithheld c s.trace s.up p v) equal (record {
            place = place_now bytes packet' ∙ ap (λ t. placed t k bytes) (eq-eqb (k + 1) (servers c) last);
            live = let e' : k ≡ (servers c) - 1 = omega (arith, last) in subst (λ v. s.up v ≡ true) e' live;
            needs = λ i t. subst (λ (x : Message). x.needs i
                ≡ true) same (((h.messages p m there).under_way bytes packet').needs i t);
          })

  withheld_now : (b : Bool) → k + 1 == (servers c) ≡ b → (w : Withheld) →
      (if b then withheld_of s (s.message p) else s.withheld p) ≡ Some w → IsWithheld c s.trace s.up p w
  withheld_now true e w is = buffered_now (s.message p) refl (eqb-true (k + 1) (servers c) e) w is
  withheld_now false e w is = h.withheld p w is

  single_now : (b : Bool) (w : Withheld) (m' : Message) →
      (if b then withheld_of s (s.message p) else s.withheld p) ≡ Some w → (if b then None else m.packet) ≡ m'.packet →
      m'.packet ≡ None
  single_now true w m' is e = sym e
  single_now false w m' is e = sym e ∙ h.single p w m is there

  pub parts : (lost : Bool) → (e : Event) → MayHappen c s e → next c s e ≡ ticked (sent_on c s k p lost) →
      Inv c (ticked (sent_on c s k p lost))
  parts lost e legal is =
      let n = (servers c) in
      let b = is_sent c k && not (is_away c s k lost) in
      record {
        world = h.world;
        fit = h.fit;
        awake = subst (λ v. IsAwake c v) is (stays_awake c good.some s e legal h.awake);
        messages = each_message (λ q m. IsSteady c s.trace s.up s.lists q m) s.message p (if b then
            sent_message c s k (s.message p) else None) (left_steady lost b (s.message p) refl) h.messages;
        entered = λ q x bytes e is. each_message (λ q m. (bytes : (List ℕ)) → m.packet ≡ Some bytes →
            q < s.entered) s.message p (if b then sent_message c s k (s.message p) else None)
            (λ m' e bytes is. h.entered p m bytes there
            (packet_before (k + 1 == n) m' bytes (left_packet b (s.message p) refl m' e) is))
            (λ q m e b is. h.entered q m b e is) q x e bytes is;
        forward = carried_if c s.trace s.up s.lists (not (k == 0)) s.forwarder (next_of n 0) (λ _. h.forward);
        forward_live = λ j q is. h.forward_live j q (and_parts (not (k == 0)) (s.forwarder j q) is).1;
        forward_far = λ j q is. h.forward_far j q (and_parts (not (k == 0)) (s.forwarder j q) is).1;
        withheld = λ q w. with_at_cases (λ (o : Option Withheld). o ≡ Some w →
            IsWithheld c s.trace s.up q w) s.withheld p (if k + 1 == n then withheld_of s (s.message p)
            else s.withheld p) q
            (λ e is. subst (λ x. IsWithheld c s.trace s.up x w) (sym e) (withheld_now (k + 1 == n) refl w is))
            (λ ne is. h.withheld q w is);
        single = λ q w x. with_at_cases (λ (o : Option Withheld). o ≡ Some w →
            with_at s.message p (if b then sent_message c s k (s.message p) else None) q ≡ Some x →
            x.packet ≡ None) s.withheld p (if k + 1 == n then withheld_of s (s.message p) else s.withheld p) q
            (λ e is. with_at_cases (λ (o : Option Message). o ≡ Some x → x.packet ≡ None) s.message p (if b then
            sent_message c s k (s.message p) else None) q
            (λ _ m_is. single_now (k + 1 == n) w x is (left_packet b (s.message p) refl x m_is)) (λ ne. absurd (ne e)))
            (λ ne is. with_at_cases (λ (o : Option Message). o ≡ Some x → x.packet ≡ None) s.message p (if b then
            sent_message c s k (s.message p) else None) q (λ e. absurd (ne e)) (λ _ m_is. h.single q w x is m_is));
        unentered = h.unentered;
        known = h.known;
        gaps = λ l. with_at_cases (λ v. v ≡ true → n ≢ 1) s.gap k (s.gap k || (is_sent c k && is_away c s k lost)) l
            (λ e g. elim (or_cases (s.gap k) (is_sent c k && is_away c s k lost) g) [
              | inl old ↦ h.gaps k old
              | inr new ↦ λ alone. let f0 : c.failures < n = good.small in let k0 : k < n =
                  kl in elim (or_cases (not (k + 1 == n)) (nat_lt 0 c.failures) (and_parts (is_sent c k) _ new).0) [
                    | inl far ↦ let ne : k + 1 ≢ n = eqb-false _ _ (not-true _ far) in omega arith
                    | inr more ↦ let some' : 0 < c.failures = ltb-true _ _ more in omega arith
                  ]
            ])
            (λ ne g. h.gaps l g);
      }

module _ (c : Setting) (good : IsGood c) (s : ChainState) (h : Inv c s) where
  pub leaves_by_pass : (k p : ℕ) → MayHappen c s (Pass k p) → Inv c (next c s (Pass k p))
  leaves_by_pass k p legal = parts c good s h k p legal.0 legal.1 false (Pass k p) legal refl

  pub leaves_by_lose : (k p : ℕ) → MayHappen c s (Lose k p) → Inv c (next c s (Lose k p))
  leaves_by_lose k p legal = parts c good s h k p legal.0 legal.1 true (Lose k p) legal refl
