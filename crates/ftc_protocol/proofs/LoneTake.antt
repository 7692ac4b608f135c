-- The next server takes the lone message.
use Rattle.std.proofs.Common.{◌≡◌, ◌≢◌, ℕ, suc, ◌+◌, ◌<◌, ◌≤◌, ◌==◌, ◌&&◌, if◌then◌else◌, false, sym, ap, subst, ◌∙◌}
use Rattle.std.proofs.Common.{arith, inl, inr, add-one, Some}
use Rattle.std.proofs.lemmas.Bool.{cases_eq, ne_eqb, or_left, or_right}
use Rattle.std.proofs.lemmas.Option.{none-some, same_Some}
use Rattle.ftc_journal.specs.declared.event.Event.TheVariants.{Take}
use Rattle.ftc_ring.specs.Ring.{next_of}
use Rattle.ftc_serial.proofs.Functions.{with_at_here, with_at_elsewhere}
use Rattle.ftc_protocol.specs.Setting.{Setting, servers, is_tail}
use Rattle.ftc_protocol.specs.Visits.{Visits, In, union}
use Rattle.ftc_protocol.specs.State.{ChainState, Message, Held, Queued}
use Rattle.ftc_protocol.specs.Known.{knows}
use Rattle.ftc_protocol.specs.Legal.{MayHappen, IsLegal}
use Rattle.ftc_protocol.specs.Next.{next, known_by, taken_message}
use Rattle.ftc_protocol.specs.Quiet.{IsQuiet}
use Rattle.ftc_protocol.proofs.Premises.{IsGood}
use Rattle.ftc_protocol.proofs.CarriedLogs.{has_more}
use Rattle.ftc_protocol.proofs.Complete.{keeps_reached}
use Rattle.ftc_protocol.proofs.FaultFree.{keeps_calm}
use Rattle.ftc_protocol.proofs.Lone.{IsAt, none_due}

module _ (c : Setting) (good : IsGood c) (quiet : IsQuiet c) (s : ChainState) (p k : ℕ) (more : k + 1 ≢ servers c)
    (at : IsAt c s p (Queued k)) where
  open at.plain use {reached, calm}

  -- it is the only one there, so the oldest
  oldest : (other : ℕ) (queued : Message) → s.message other ≡ Some queued → at.message.since ≤ queued.since
  oldest other queued is = elim (cases_eq other p) [
    | inl same ↦
        let equal : at.message.since ≡ queued.since =
        ap (λ (m : Message). m.since)
        (same_Some at.message queued (sym at.there ∙ (ap s.message (sym same) ∙ is))) in
        omega arith
    | inr ne ↦ absurd (none-some queued (sym (at.others other ne) ∙ is))
  ]

  may_take : MayHappen c s (Take k p)
  may_take = (at.message, at.there, at.placed, λ other queued is queued_there. oldest other queued is)

  pub take_legal : IsLegal c s (Take k p)
  take_legal = (may_take, none_due c s at.withheld false)

  taken : Message
  taken = record at.message { place = Held (next_of (servers c) k) false (k + 1 == servers c); since = s.events }

  next_is : next_of (servers c) k ≡ suc k
  next_is = ap (λ b. if b then 0 else k + 1) (ne_eqb (k + 1) (servers c) more) ∙ add-one k

  -- the server knows what the message knew
  known_then : (group q : ℕ) → In at.message.known group q → In (knows c (next c s (Take k p)) (suc k)) group q
  known_then group q is = subst (λ server. In (knows c (next c s (Take k p)) server) group q) next_is
      (or_left ((next c s (Take k p)).known (next_of (servers c) k) group q) (is_tail c group (next_of (servers c) k)
      && s.lists (next_of (servers c) k) group q)
      (subst (λ (v : Visits). In v group q)
      (sym (with_at_here s.known (next_of (servers c) k)
      (union (s.known (next_of (servers c) k)) (known_by (s.message p)))))
      (or_right (s.known (next_of (servers c) k) group q) (known_by (s.message p) group q)
      (subst (λ o. In (known_by o) group q) (sym at.there) is))))

  pub taken_there : IsAt c (next c s (Take k p)) p (Held (suc k) false false)
  unfolding taken
  taken_there = record {
    plain = record {
      reached = keeps_reached c good s reached (Take k p) may_take;
      calm = keeps_calm c good quiet s reached calm (Take k p) may_take;
      entered = at.plain.entered;
      forwarder = at.plain.forwarder;
    };
    withheld = at.withheld;
    others = λ origin other. with_at_elsewhere s.message p _ origin other ∙ at.others origin other;
    message = taken;
    there = with_at_here s.message p (taken_message c s k (s.message p)) ∙ ap (taken_message c s k) at.there;
    placed = ap (λ b. Held (if b then 0 else k + 1) false b) (ne_eqb (k + 1) (servers c) more) ∙ ap
        (λ server. Held server false false) (add-one k);
    told = λ group needed. has_more c.partitions s.trace at.message.known
        (knows c (next c s (Take k p)) (suc k)) group p (known_then group) (at.told group needed);
    gone = λ no_packet. let before =
        at.gone no_packet in (before.0, let less : before.0 < k + 1 = before.1 in omega arith, before.2);
  }
