-- The lone message passes a server.
use Rattle.std.proofs.Common.{◌≡◌, ◌≢◌, ◌⊎◌, ℕ, suc, ◌+◌, ◌<◌, ◌==◌, ◌&&◌, nat_lt, if◌then◌else◌, not, Bool, true}
use Rattle.std.proofs.Common.{false, inl, refl, sym, ap, ◌∙◌, arith, None}
use Rattle.std.proofs.lemmas.Bool.{and_right, and_parts, and_from, or_left, ne_eqb}
use Rattle.ftc_journal.specs.declared.event.Event.TheVariants.{Pass}
use Rattle.ftc_ring.specs.Ring.{next_of}
use Rattle.ftc_ring.proofs.Geometry.{next_within}
use Rattle.ftc_serial.proofs.Functions.{with_at_cases, with_at_here, with_at_elsewhere}
use Rattle.ftc_protocol.specs.Setting.{Setting, servers}
use Rattle.ftc_protocol.specs.State.{ChainState, Message, Held, Queued}
use Rattle.ftc_protocol.specs.Legal.{MayHappen, IsLegal, is_sent}
use Rattle.ftc_protocol.specs.Next.{next, is_away, sent_message, withheld_of}
use Rattle.ftc_protocol.specs.Quiet.{IsQuiet}
use Rattle.ftc_protocol.proofs.Premises.{IsGood}
use Rattle.ftc_protocol.proofs.InTransit.{after_sending}
use Rattle.ftc_protocol.proofs.Complete.{keeps_reached}
use Rattle.ftc_protocol.proofs.FaultFree.{keeps_calm}
use Rattle.ftc_protocol.proofs.Lone.{IsPlain, IsAt, behind, none_due, ready_here, server_below}

module _ (c : Setting) (good : IsGood c) (quiet : IsQuiet c) (alone : c.failures ≡ 0) (s : ChainState) (p k : ℕ)
    (visited : Bool) (at : IsAt c s p (Held k visited false))
    (done : (visited ≡ true) ⊎ (at.message.packet ≡ None)) where
  open at.plain use {reached, calm}

  pub may_pass : MayHappen c s (Pass k p)
  may_pass = (
    at.message,
    record {
      there = at.there;
      visited = visited;
      held = at.placed;
      ready = ready_here c good alone s p k visited at;
      done = done;
    },
    inl (quiet.loses k p),
  )

  pub pass_legal : IsLegal c s (Pass k p)
  pass_legal = (may_pass, none_due c s at.withheld false)

  pub plain_then : IsPlain c (next c s (Pass k p)) (suc p)
  plain_then = record {
    reached = keeps_reached c good s reached (Pass k p) may_pass;
    calm = keeps_calm c good quiet s reached calm (Pass k p) may_pass;
    entered = at.plain.entered;
    forwarder = λ group packet. and_right (not (k == 0)) (s.forwarder group packet) (at.plain.forwarder group packet);
  }

  -- where a next server is, the message is on its way there
  module _ (more : k + 1 ≢ servers c) where
    not_last : (k + 1 == servers c) ≡ false
    not_last = ne_eqb (k + 1) (servers c) more

    sends : (is_sent c k && not (is_away c s k false)) ≡ true
    sends = and_from (is_sent c k) (not (is_away c s k false))
        (or_left (not (k + 1 == servers c)) (nat_lt 0 c.failures) (ap not not_last))
        (ap (λ up. not (not up))
        (calm.up (next_of (servers c) k) (next_within (servers c) k (server_below c good alone s p k visited at))))

    sent : Message
    sent = after_sending c s k at.message

    at_most : (b : Bool) (i : ℕ) → i < behind (Held k b false) → i < k + 1
    at_most true i less = less
    at_most false i less = let own : i < k = less in omega arith

    pub sent_on_link : IsAt c (next c s (Pass k p)) p (Queued k)
    unfolding sent
    sent_on_link = record {
      plain = plain_then;
      withheld = λ packet. with_at_cases (λ v. v ≡ None) s.withheld p (if k + 1 == servers c then
          withheld_of s (s.message p) else s.withheld p) packet
          (λ same. ap (λ b. if b then withheld_of s (s.message p) else s.withheld p) not_last ∙ at.withheld p)
          (λ other. at.withheld packet);
      others = λ origin other. with_at_elsewhere s.message p _ origin other ∙ at.others origin other;
      message = sent;
      there = with_at_here s.message p (if is_sent c k && not (is_away c s k false) then
          sent_message c s k (s.message p) else None)
          ∙ (ap (λ b. if b then sent_message c s k (s.message p) else None) sends ∙ ap (sent_message c s k) at.there);
      placed = refl;
      told = λ group needed. at.told group (and_parts (not (k + 1 == servers c)) (at.message.needs group) needed).1;
      gone = λ no_packet.
          let before = at.gone (sym (ap (λ b. if b then None else at.message.packet) not_last) ∙ no_packet) in
          (before.0, at_most visited before.0 before.1, before.2);
    }
