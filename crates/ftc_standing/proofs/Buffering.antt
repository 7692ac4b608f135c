-- What the last server withholds, and what the forwarder has, after the events that change it.
use Rattle.std.proofs.Common.{◌≡◌, ◌+◌, ◌||◌, ◌&&◌, ◌++◌, ◌∙◌, ℕ, Bool, true, false, not, List, [], ◌∷◌, Option, Some}
use Rattle.std.proofs.Common.{None, refl, sym, ap, subst, if◌then◌else◌, eq-eqb}
use Rattle.std.proofs.lemmas.Bool.{true≢false}
use Rattle.std.proofs.lemmas.Option.{none-some}
use Rattle.ftc_edge.specs.declared.buffer.Withheld.{Withheld as WithheldPacket}
use Rattle.ftc_journal.specs.declared.event.Event.{Event}
use Rattle.ftc_journal.specs.declared.event.Event.TheVariants.{Carry, Release}
use Rattle.ftc_message.specs.declared.message.Message.{Message as SentMessage}
use Rattle.ftc_message.specs.Logged.{Logged}
use Rattle.ftc_message.specs.Ordered.{with_items, is_earlier}
use Rattle.ftc_serial.specs.Words.{with_at}
use Rattle.ftc_serial.proofs.Functions.{with_at_cases}
use Rattle.ftc_protocol.specs.Setting.{Setting, servers, is_tail}
use Rattle.ftc_protocol.specs.State.{Held, Message, Withheld, ChainState}
use Rattle.ftc_protocol.specs.Legal.{IsLegal}
use Rattle.ftc_protocol.specs.Orderly.{IsPast}
use Rattle.ftc_protocol.specs.Next.{next, withheld_of, withheld_packet, logs_of}
use Rattle.ftc_ties.specs.Messages.{AreNeedsOf, onward}
use Rattle.ftc_ties.proofs.Carrying.{logs_onward}
use Rattle.ftc_standing.specs.Arrivals.{AreArrived}
use Rattle.ftc_standing.specs.Stand.{IsSentAs, IsHeldAs, IsWithheldAs, AreHeld, AreWithheld, AreForwarded, time_of}
use Rattle.ftc_standing.specs.Stand.{packet_of, origin_of}
use Rattle.ftc_standing.specs.View.{is_held_by, held_at, withheld_at}
use Rattle.ftc_standing.proofs.Arriving.{added, taken_out, stays}
use Rattle.ftc_standing.proofs.Lasting.{IsFirmState, needs_stay, needing_after, touching_some, withheld_stays}
use Rattle.ftc_standing.proofs.Lasting.{forwarded_stays}
use Rattle.ftc_standing.proofs.Leaving.{logs_among}
use Rattle.ftc_standing.proofs.Movements.{goes}
use Rattle.ftc_standing.proofs.Events.{held_keeps}
use Rattle.ftc_standing.proofs.SamePlaces.{comes_there}

false_no : {A : Type 0} → false ≡ true → A
false_no e = absurd (true≢false (sym e))

module _ (c : Setting) (s : ChainState) (f : IsFirmState c s) (k : ℕ) (last : k + 1 ≡ servers c) where
  at_last : (state : ChainState) (packet : ℕ) → withheld_at c state k packet ≡ state.withheld packet
  at_last state packet = ap (λ (b : Bool). if b then state.withheld packet else None) (eq-eqb (k + 1) (servers c) last)

  -- a packet is released
  module _ (p : ℕ) (legal : IsLegal c s (Release p)) where
    abbrev releasing : Event
    releasing = Release p

    pub withheld_released : (before : List WithheldPacket) (item : WithheldPacket) (after : List WithheldPacket) →
        packet_of item ≡ p → AreWithheld c s k (before ++ item ∷ after) →
        AreWithheld c (next c s releasing) k (before ++ after)
    withheld_released before item after is are =
        stays time_of packet_of (IsWithheldAs c s) (with_at (withheld_at c s k) (packet_of item) None)
        (IsWithheldAs c (next c s releasing)) (withheld_at c (next c s releasing) k) now_is
        (λ packet withheld kept there stands. withheld_stays c s f releasing legal packet withheld kept
        (sym (at_last (next c s releasing) packet) ∙ (now_is packet ∙ there)) stands)
        (before ++ after) (taken_out time_of packet_of (IsWithheldAs c s) (withheld_at c s k) before item after are)
      where
        now_is : (packet : ℕ) → withheld_at c (next c s releasing) k packet
            ≡ with_at (withheld_at c s k) (packet_of item) None packet
        now_is packet = at_last (next c s releasing) packet
            ∙ (with_at_cases (λ v. v ≡ with_at (withheld_at c s k) p None packet) s.withheld p None packet
            (λ e. with_at_cases (λ v. None ≡ v) (withheld_at c s k) p None packet (λ _. refl) (λ ne. absurd (ne e)))
            (λ ne. with_at_cases (λ v. s.withheld packet ≡ v) (withheld_at c s k) p None packet (λ e. absurd (ne e))
            (λ _. sym (at_last s packet))) ∙ ap (λ o. with_at (withheld_at c s k) o None packet) (sym is))

  -- the packet of a message that leaves the last server is withheld
  module _ (e : Event) (legal : IsLegal c s e) (p : ℕ) (message : Message) (visited : Bool)
      (there : s.message p ≡ Some message) (place : message.place ≡ Held k visited false)
      (now_is : (next c s e).withheld ≡ with_at s.withheld p (withheld_of s (s.message p))) where
    none_yet : s.withheld p ≡ None
    none_yet = none (s.withheld p) refl
      where
        none : (o : Option Withheld) → s.withheld p ≡ o → o ≡ None
        none None is = refl
        none (Some withheld) is = false_no (subst (IsPast (servers c)) place
            (f.buffered.past p withheld message is there))

    withheld_is : (packet : ℕ) →
        (next c s e).withheld packet ≡ with_at s.withheld p (withheld_packet s message message.packet) packet
    withheld_is packet = ap (λ withheld. withheld packet) now_is
        ∙ ap (λ o. with_at s.withheld p (withheld_of s o) packet) there

    kept : (items : List WithheldPacket) → AreWithheld c s k items →
        AreArrived time_of packet_of (IsWithheldAs c (next c s e)) (withheld_at c s k) items
    kept items are = stays time_of packet_of (IsWithheldAs c s) (withheld_at c s k) (IsWithheldAs c (next c s e))
        (withheld_at c s k) (λ packet. refl)
        (λ packet withheld item at stands. withheld_stays c s f e legal packet withheld item
        (withheld_is packet ∙ with_at_cases (λ v. v ≡ Some withheld) s.withheld p
        (withheld_packet s message message.packet) packet
        (λ same. absurd (none-some withheld
        (sym none_yet ∙ (sym (ap s.withheld same) ∙ (sym (at_last s packet) ∙ at)))))
        (λ ne. sym (at_last s packet) ∙ at)) stands) items are

    pub withheld_kept : message.packet ≡ None → (items : List WithheldPacket) → AreWithheld c s k items →
        AreWithheld c (next c s e) k items
    withheld_kept none items are =
        stays time_of packet_of (IsWithheldAs c (next c s e)) (withheld_at c s k) (IsWithheldAs c (next c s e))
        (withheld_at c (next c s e) k)
        (λ packet. at_last (next c s e) packet ∙ (withheld_is packet
        ∙ (with_at_cases (λ v. v ≡ s.withheld packet) s.withheld p (withheld_packet s message message.packet) packet
        (λ same. ap (withheld_packet s message) none ∙ (sym none_yet ∙ ap s.withheld (sym same))) (λ ne. refl)
        ∙ sym (at_last s packet)))) (λ packet withheld item at stands. stands) items (kept items are)

    pub withheld_gets : (bytes : List ℕ) → message.packet ≡ Some bytes → (item : WithheldPacket) →
        (items : List WithheldPacket) → packet_of item ≡ p → item.bytes ≡ bytes →
        AreNeedsOf c s p message.needs item.needs → AreWithheld c s k items →
        AreWithheld c (next c s e) k (items ++ item ∷ [])
    withheld_gets bytes has item items is bytes_are needs are =
        stays time_of packet_of (IsWithheldAs c (next c s e)) (with_at (withheld_at c s k) p (Some new))
        (IsWithheldAs c (next c s e)) (withheld_at c (next c s e) k)
        (λ packet. at_last (next c s e) packet ∙ (withheld_is packet
        ∙ (ap (λ o. with_at s.withheld p o packet) (ap (withheld_packet s message) has)
        ∙ with_at_cases (λ v. v ≡ with_at (withheld_at c s k) p (Some new) packet) s.withheld p (Some new) packet
        (λ same. with_at_cases (λ v. Some new ≡ v) (withheld_at c s k) p (Some new) packet (λ _. refl)
        (λ ne. absurd (ne same)))
        (λ ne. with_at_cases (λ v. s.withheld packet ≡ v) (withheld_at c s k) p (Some new) packet
        (λ same. absurd (ne same))
        (λ _. sym (at_last s packet))))))
        (λ packet withheld kept_item at stands. stands) (items ++ item ∷ [])
        (added time_of packet_of (IsWithheldAs c (next c s e)) (withheld_at c s k) p new item items (kept items are)
        (at_last s p ∙ none_yet) is
        (λ other old at. f.buffered.clock other old (sym (at_last s other) ∙ at))
        (record {
          packet_is = is;
          bytes = bytes_are;
          needs = needs_stay c s f e legal p message.needs item.needs
              (λ group needed. touching_some (next c s e).trace group p
              ((needing_after c s f e legal).withheld p group new here needed)) needs;
        }))
      where
        new : Withheld
        new = record { since = s.events; bytes = bytes; needs = message.needs }

        here : (next c s e).withheld p ≡ Some new
        here = withheld_is p ∙ (ap (λ o. with_at s.withheld p o p) (ap (withheld_packet s message) has)
            ∙ with_at_cases (λ v. v ≡ Some new) s.withheld p (Some new) p (λ _. refl) (λ ne. absurd (ne refl)))

-- ---- a message ends at server 0, and the forwarder carries its logs on

module _ (c : Setting) (s : ChainState) (f : IsFirmState c s) (p : ℕ) (legal : IsLegal c s (Carry p)) where
  abbrev carrying : Event
  carrying = Carry p

  abbrev carried_one : Message
  carried_one = legal.0.0

  pub held_carried : {A : Type 0} (visited by_ring : A → Bool) (sent : A → SentMessage) (before : List A) (item : A)
      (after : List A) → origin_of (sent item) ≡ p → AreHeld visited by_ring sent c s 0 (before ++ item ∷ after) →
      AreHeld visited by_ring sent c (next c s carrying) 0 (before ++ after)
  held_carried visited by_ring sent before item after is are =
      goes c s f carrying (λ x. origin_of (sent x)) (is_held_by 0)
      (λ origin message x. IsHeldAs c s 0 origin message (visited x) (by_ring x) (sent x))
      (λ origin message x. IsHeldAs c (next c s carrying) 0 origin message (visited x) (by_ring x) (sent x))
      (held_keeps c s f carrying legal 0 visited by_ring sent) before item after
      (λ origin. comes_there (is_held_by 0) s.message p None None refl origin
      ∙ ap (λ o. with_at (held_at s 0) o None origin) (sym is)) are

  pub forwarder_gets : (sent : SentMessage) (logs : List Logged) → IsSentAs c s p carried_one sent →
      AreForwarded c s 0 logs →
      AreForwarded c (next c s carrying) 0 (with_items is_earlier (onward c 0 sent.logs) logs)
  forwarder_gets sent logs is are = forwarded_stays c s f carrying legal
      (λ group packet. s.forwarder group packet || (carried_one.logs group packet && not (is_tail c group 0)))
      (next c s carrying).forwarder (with_items is_earlier (onward c 0 sent.logs) logs)
      (λ group packet. ap (λ o. s.forwarder group packet
      || (logs_of o group packet && not (is_tail c group 0))) legal.0.1)
      (λ group packet there. there)
      (logs_among c s (λ group packet. carried_one.logs group packet && not (is_tail c group 0)) s.forwarder
      (onward c 0 sent.logs) logs (logs_onward c s 0 carried_one.logs sent.logs is.logs) are)
