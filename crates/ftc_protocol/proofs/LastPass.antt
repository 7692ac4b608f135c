-- The lone message passes the last server: its packet goes to the buffer, where it has one, and nothing is sent.
use Rattle.std.proofs.Common.{◌≡◌, ◌≢◌, ◌⊎◌, ℕ, ◌+◌, ◌-◌, ◌==◌, ◌&&◌, ◌||◌, nat_lt, if◌then◌else◌, not, Bool, true}
use Rattle.std.proofs.Common.{false, List, inl, inr, refl, ap, subst, ◌∙◌, arith, eq-eqb, Option, Some, None}
use Rattle.ftc_journal.specs.declared.event.Event.TheVariants.{Pass}
use Rattle.ftc_serial.proofs.Functions.{with_at_cases, with_at_here, with_at_elsewhere}
use Rattle.ftc_protocol.specs.Setting.{Setting, servers}
use Rattle.ftc_protocol.specs.Trace.{Has}
use Rattle.ftc_protocol.specs.State.{ChainState, Held}
use Rattle.ftc_protocol.specs.Known.{knows}
use Rattle.ftc_protocol.specs.Legal.{is_sent}
use Rattle.ftc_protocol.specs.Next.{next, is_away, sent_message, withheld_of, withheld_packet}
use Rattle.ftc_protocol.specs.Quiet.{IsQuiet}
use Rattle.ftc_protocol.proofs.Premises.{IsGood}
use Rattle.ftc_protocol.proofs.Lone.{IsAt, IsBuffered, IsGone, IsThrough}
use Rattle.ftc_protocol.proofs.LonePass.{plain_then}

module _ (c : Setting) (good : IsGood c) (quiet : IsQuiet c) (alone : c.failures ≡ 0) (s : ChainState) (p k : ℕ)
    (visited : Bool) (at : IsAt c s p (Held k visited false))
    (done : (visited ≡ true) ⊎ (at.message.packet ≡ None)) (last : k + 1 ≡ servers c) where
  is_last : (k + 1 == servers c) ≡ true
  is_last = eq-eqb (k + 1) (servers c) last

  unsent : is_sent c k ≡ false
  unsent = ap (λ b. not b || nat_lt 0 c.failures) is_last ∙ ap (nat_lt 0) alone

  no_message : (origin : ℕ) → (next c s (Pass k p)).message origin ≡ None
  no_message origin = with_at_cases (λ v. v ≡ None) s.message p (if is_sent c k && not (is_away c s k false) then
      sent_message c s k (s.message p) else None) origin
      (λ same. ap (λ b. if b && not (is_away c s k false) then sent_message c s k (s.message p) else None) unsent)
      (λ other. at.others origin other)

  -- the buffer then
  withheld_then : (next c s (Pass k p)).withheld p ≡ withheld_packet s at.message at.message.packet
  withheld_then = with_at_here s.withheld p (if k + 1 == servers c then withheld_of s (s.message p) else s.withheld p)
      ∙ (ap (λ b. if b then withheld_of s (s.message p) else s.withheld p) is_last ∙ ap (withheld_of s) at.there)

  others_then : (packet : ℕ) → packet ≢ p → (next c s (Pass k p)).withheld packet ≡ None
  others_then packet other =
      with_at_elsewhere s.withheld p (if k + 1 == servers c then withheld_of s (s.message p)
      else s.withheld p) packet other ∙ at.withheld packet

  left_then : (packet : Option (List ℕ)) → at.message.packet ≡ packet → IsBuffered c (next c s (Pass k p)) p
      ⊎ IsGone c (next c s (Pass k p)) p
  left_then None none_there =
      let before = at.gone none_there in
      inr (record {
        withheld = λ packet. with_at_cases (λ v. v ≡ None) s.withheld p (if k + 1 == servers c then
            withheld_of s (s.message p) else s.withheld p) packet
            (λ same. ap (λ b. if b then withheld_of s (s.message p)
            else s.withheld p) is_last ∙
            (ap (withheld_of s) at.there ∙ ap (withheld_packet s at.message) none_there))
            (λ other. at.withheld packet);
        server = before.0;
        dropped = before.2;
      })
  left_then (Some bytes) is =
      let end : k ≡ servers c - 1 = omega (arith, last) in
      inl (record {
        withheld = record { since = s.events; bytes = bytes; needs = at.message.needs };
        there = withheld_then ∙ ap (withheld_packet s at.message) is;
        others = others_then;
        due = λ group needed. subst (λ server. Has c.partitions s.trace (knows c s server) group p) end
            (at.told group needed);
      })

  pub passed_through : IsThrough c (next c s (Pass k p)) p
  passed_through = record {
    plain = plain_then c good quiet alone s p k visited at done;
    messages = no_message;
    left = left_then at.message.packet refl;
  }
