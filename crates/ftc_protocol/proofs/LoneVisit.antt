-- The lone packet visits a middlebox.
use Rattle.std.proofs.Common.{◌≡◌, ℕ, ◌<◌, ◌==◌, ◌&&◌, true, false, List, inl, inr, sym, ap, subst, ◌∙◌}
use Rattle.std.proofs.Common.{arith, eq-eqb, eqb-true, Some, is_some}
use Rattle.std.proofs.lemmas.Bool.{cases_eq, and_parts, and_from, or_cases, or_left, or_right}
use Rattle.ftc_journal.specs.declared.event.Event.TheVariants.{Visit}
use Rattle.ftc_ring.specs.Ring.{apart}
use Rattle.ftc_serial.proofs.Functions.{with_at_here, with_at_elsewhere}
use Rattle.ftc_protocol.specs.Setting.{Setting, servers, is_tail}
use Rattle.ftc_protocol.specs.Visits.{In}
use Rattle.ftc_protocol.specs.Changes.{is_touching, is_changing}
use Rattle.ftc_protocol.specs.Trace.{Has}
use Rattle.ftc_protocol.specs.State.{ChainState, Message, Held}
use Rattle.ftc_protocol.specs.Known.{knows}
use Rattle.ftc_protocol.specs.Legal.{MayHappen, IsLegal}
use Rattle.ftc_protocol.specs.Next.{next, outcome_at, visited_at, visited_message}
use Rattle.ftc_protocol.specs.Quiet.{IsQuiet}
use Rattle.ftc_protocol.proofs.Premises.{IsGood}
use Rattle.ftc_protocol.proofs.Places.{place_after, serial_of}
use Rattle.ftc_protocol.proofs.RingDistances.{apart_cases}
use Rattle.ftc_protocol.proofs.InTransit.{after_visit}
use Rattle.ftc_protocol.proofs.Sets.{kept}
use Rattle.ftc_protocol.proofs.CarriedLogs.{has_more, has_grown}
use Rattle.ftc_protocol.proofs.HavingVisits.{head_has}
use Rattle.ftc_protocol.proofs.Complete.{IsReached, keeps_reached}
use Rattle.ftc_protocol.proofs.FaultFree.{keeps_calm}
use Rattle.ftc_protocol.proofs.Lone.{IsAt, none_due, ready_here, server_below}

module _ (c : Setting) (good : IsGood c) (quiet : IsQuiet c) (alone : c.failures ≡ 0) (s : ChainState) (p k : ℕ)
    (at : IsAt c s p (Held k false false))
    (bytes : List ℕ) (packet : at.message.packet ≡ Some bytes) (worker : ℕ) where
  open at.plain use {reached, calm}

  below : k < servers c
  below = server_below c good alone s p k false at

  may_visit : MayHappen c s (Visit k p worker)
  may_visit = (at.message, bytes, false, at.there, at.placed, packet, ready_here c good alone s p k false at)

  pub visit_legal : IsLegal c s (Visit k p worker)
  visit_legal = (may_visit, none_due c s at.withheld false)

  reached_then : IsReached c (next c s (Visit k p worker))
  reached_then = keeps_reached c good s reached (Visit k p worker) may_visit

  visited : Message
  visited = after_visit c k p (outcome_at c s k p) at.message

  -- the server's own visits it knows at once, and what it knew it knows still
  own_known : (q : ℕ) → In ((next c s (Visit k p worker)).lists k) k q →
      In (knows c (next c s (Visit k p worker)) k) k q
  own_known q is =
      let far = apart_cases (servers c) k k below below in
      let none : apart (servers c) k k ≡ c.failures = omega arith in
      or_right (s.known k k q) _ (and_from (is_tail c k k) _ (eq-eqb (apart (servers c) k k) c.failures none) is)

  known_still : (group q : ℕ) → In (knows c s k) group q → In (knows c (next c s (Visit k p worker)) k) group q
  known_still group q is = elim (or_cases (s.known k group q) (is_tail c group k && s.lists k group q) is) [
    | inl known ↦ or_left (s.known k group q) _ known
    | inr tail ↦
        let parts = and_parts (is_tail c group k) (s.lists k group q) tail in
        or_right (s.known k group q) _
        (and_from (is_tail c group k) _ parts.0
        (kept s.lists k k p (is_changing c.partitions (outcome_at c s k p)) k group q parts.1))
  ]

  told_then : (group : ℕ) → visited.needs group ≡ true →
      Has c.partitions (next c s (Visit k p worker)).trace (knows c (next c s (Visit k p worker)) k) group p
  unfolding visited
  told_then group needed = elim (cases_eq group k) [
    | inl same ↦
        let inv = reached_then.live.inv in
        let had : Has c.partitions (next c s (Visit k p worker)).trace ((next c s (Visit k p worker)).lists k) k p =
        head_has c (next c s (Visit k p worker)).trace s.up
        (next c s (Visit k p worker)).lists inv.world.lists inv.world.nest k p (calm.up k below) in
        subst (λ g. Has c.partitions (next c s (Visit k p worker)).trace (knows c (next c s (Visit k p worker)) k) g p)
        (sym same)
        (has_more c.partitions (next c s (Visit k p worker)).trace ((next c s (Visit k p worker)).lists k)
        (knows c (next c s (Visit k p worker)) k) k p own_known had)
    | inr other ↦
        let before : at.message.needs group ≡ true =
        elim (or_cases (at.message.needs group) ((group == k)
        && is_touching (outcome_at c s k p)) (and_parts (is_some (outcome_at c s k p).packet) _ needed).1) [
          | inl was ↦ was
          | inr here ↦ absurd (other
              (eqb-true group k (and_parts (group == k) (is_touching (outcome_at c s k p)) here).0))
        ] in
        has_more c.partitions (next c s (Visit k p worker)).trace (knows c s k)
        (knows c (next c s (Visit k p worker)) k) group p (known_still group)
        (has_grown c.partitions s.trace k p (outcome_at c s k p) (knows c s k) group p (λ e. other (sym e.0))
        (at.told group before))
  ]

  pub visited_here : IsAt c (next c s (Visit k p worker)) p (Held k true false)
  unfolding visited
  visited_here = record {
    plain = record {
      reached = reached_then;
      calm = keeps_calm c good quiet s reached calm (Visit k p worker) may_visit;
      entered = at.plain.entered;
      forwarder = at.plain.forwarder;
    };
    withheld = at.withheld;
    others = λ origin other. with_at_elsewhere s.message p _ origin other ∙ at.others origin other;
    message = visited;
    there = with_at_here s.message p (visited_message c k p (outcome_at c s k p) (s.message p)) ∙ ap
        (visited_message c k p (outcome_at c s k p)) at.there;
    placed = ap visited_at at.placed;
    told = told_then;
    gone = λ dropped. (
      k,
      omega arith,
      with_at_here (serial_of c s.trace).place p (place_after (servers c) k (outcome_at c s k p).packet) ∙ ap
          (place_after (servers c) k) dropped,
    );
  }
