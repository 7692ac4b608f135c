-- What stands for a message, a withheld packet, the forwarder's visits or a replica stands for it after an event that
-- leaves it.
use Rattle.std.proofs.Common.{◌≡◌, ◌<◌, ◌+◌, ◌==◌, ◌∙◌, ℕ, Bool, true, false, List, [], ◌∷◌, length, Option, Some, None}
use Rattle.std.proofs.Common.{refl, sym, subst, eq-eqb, if◌then◌else◌}
use Rattle.std.specs.List.{AllByRecursion}
use Rattle.std.proofs.lemmas.Bool.{or_left, or_right}
use Rattle.std.proofs.lemmas.Option.{none-some}
use Rattle.ftc_base.specs.declared.limits.TheConstants.{MOST_SERVERS}
use Rattle.ftc_edge.specs.declared.buffer.Withheld.{Withheld as WithheldPacket}
use Rattle.ftc_journal.specs.declared.event.Event.{Event}
use Rattle.ftc_link.specs.Queue.{Queue}
use Rattle.ftc_message.specs.declared.message.Message.{Message as SentMessage}
use Rattle.ftc_message.specs.declared.need.Need.{Need}
use Rattle.ftc_message.specs.Logged.{Logged}
use Rattle.ftc_replica.specs.Held.{Held as Replicated, pruned_by}
use Rattle.ftc_vector.specs.Commits.{vector_of}
use Rattle.ftc_protocol.specs.Setting.{Setting, servers}
use Rattle.ftc_serial.specs.Serial.{Entry}
use Rattle.ftc_protocol.specs.Visits.{Visits, no_visits}
use Rattle.ftc_protocol.specs.State.{Where, Message, Withheld, ChainState}
use Rattle.ftc_protocol.specs.Changes.{is_changing, is_touching}
use Rattle.ftc_protocol.specs.Trace.{IsSomeVisit, IsTouching, IsChanging}
use Rattle.ftc_protocol.specs.Legal.{IsLegal}
use Rattle.ftc_protocol.specs.Next.{next}
use Rattle.ftc_protocol.specs.Run.{IsRunState}
use Rattle.ftc_protocol.specs.Front.{IsFront}
use Rattle.ftc_protocol.specs.Orderly.{IsNeeding, IsWithholding}
use Rattle.ftc_protocol.proofs.RunLists.{run_next}
use Rattle.ftc_protocol.proofs.TraceLemmas.{stands_map}
use Rattle.ftc_ties.specs.Messages.{AreLogsOf, AreNeedsOf, needs_of}
use Rattle.ftc_ties.specs.Servers.{AreCommits, IsElsewhere, IsNeedIn}
use Rattle.ftc_ties.specs.Tied.{IsTied}
use Rattle.ftc_ties.proofs.Carrying.{logs_same, logs_stay}
use Rattle.ftc_ties.proofs.Informing.{commits_stay}
use Rattle.ftc_ties.proofs.Lasting.{need_lasts}
use Rattle.ftc_ties.proofs.Learning.{others_know}
use Rattle.ftc_ties.proofs.Serving.{IsSteadyState, others_stay}
use Rattle.ftc_standing.specs.Stand.{IsSentAs, IsHeldAs, IsWithheldAs, IsLink, IsReplicaSlot, AreReplicas, AreHeld}
use Rattle.ftc_standing.specs.Stand.{AreWithheld, AreForwarded, replica_of, since_of, origin_of, time_of, packet_of}
use Rattle.ftc_standing.specs.View.{is_held_by, is_queued_on, where_it, held_at, queued_on, withheld_at, forwarded_at}
use Rattle.ftc_standing.specs.View.{IsLinkAsBefore}
use Rattle.ftc_standing.proofs.Arriving.{stays}

-- what the laws of the protocol say of this state of a run and of those that follow
pub record IsFirmState (c : Setting) (s : ChainState) : Type 0 where
  pub steady : IsSteadyState c s
  pub needing : (t : ChainState) → IsRunState c t → IsNeeding t
  pub buffered : IsWithholding c s

-- a message that is at a place is there
pub of_it : (test : Where → Bool) (o : Option Message) (message : Message) → where_it test o ≡ Some message →
    o ≡ Some message
of_it test None message is = absurd (none-some message is)
of_it test (Some m) message is =
    elim (test m.place) as (λ b. (if b then Some m else None) ≡ Some message → Some m ≡ Some message) [
      | true ↦ λ e. e
      | false ↦ λ e. absurd (none-some message e)
    ] is

-- and so is a withheld packet
pub of_last : (b : Bool) (o : Option Withheld) (withheld : Withheld) → (if b then o else None) ≡ Some withheld →
    o ≡ Some withheld
of_last true o withheld is = is
of_last false o withheld is = absurd (none-some withheld is)

pub touching_some : (trace : List Entry) (group packet : ℕ) → IsTouching trace group packet →
    IsSomeVisit trace group packet
touching_some trace group packet there =
    stands_map (λ o. is_touching o ≡ true) (λ o. Unit {0}) (λ o _. tt) trace group packet there

module _ (c : Setting) (s : ChainState) (f : IsFirmState c s) (e : Event) (legal : IsLegal c s e) where
  pub run_after : IsRunState c (next c s e)
  run_after = run_next c s e f.steady.run legal

  pub tied_after : IsTied c (next c s e)
  tied_after = f.steady.laws (next c s e) run_after

  pub needing_after : IsNeeding (next c s e)
  needing_after = f.needing (next c s e) run_after

  pub needs_stay : (origin : ℕ) (groups : ℕ → Bool) (needs : List Need) →
      ((group : ℕ) → groups group ≡ true → IsSomeVisit (next c s e).trace group origin) →
      AreNeedsOf c s origin groups needs → AreNeedsOf c (next c s e) origin groups needs
  needs_stay origin groups needs standing are = record {
    each = each needs (λ group named. standing group (sym (are.names group) ∙ named)) are.each;
    names = are.names;
  }
    where
      each : (list : List Need) →
          ((group : ℕ) → needs_of list group ≡ true → IsSomeVisit (next c s e).trace group origin) →
          AllByRecursion (λ (need : Need). need.group < MOST_SERVERS
          × IsNeedIn c.partitions s.trace need.group origin need.marks) list →
          AllByRecursion (λ (need : Need). need.group < MOST_SERVERS
          × IsNeedIn c.partitions (next c s e).trace need.group origin need.marks) list
      each [] there all = tt
      each (need ∷ list) there all = (
        (
          all.0.0,
          need_lasts c s f.steady e legal need.group origin need.marks all.0.1
              (there need.group (or_left (need.group == need.group) (needs_of list need.group)
              (eq-eqb need.group need.group refl))),
        ),
        each list (λ group named. there group (or_right (need.group == group) (needs_of list group) named)) all.1,
      )

  pub changing_some : (group packet : ℕ) → IsChanging c.partitions (next c s e).trace group packet →
      IsSomeVisit (next c s e).trace group packet
  changing_some group packet there = stands_map (λ o. is_changing c.partitions o ≡ true) (λ o. Unit {0}) (λ o _. tt)
      (next c s e).trace group packet there

  -- a message that is there, made of what stood for its parts
  pub sent_made : (origin : ℕ) (new : Message) (sent : SentMessage) → (next c s e).message origin ≡ Some new →
      sent.origin ≡ origin → sent.packet ≡ new.packet → AreLogsOf c s new.logs sent.logs →
      AreNeedsOf c s origin new.needs sent.needs → length sent.commits ≡ MOST_SERVERS → IsFront c s new.known →
      AreCommits c s new.known sent.commits → IsSentAs c (next c s e) origin new sent
  sent_made origin new sent here same packet logs needs size front commits = record {
    origin_is = same;
    packet = packet;
    logs = logs_stay c s f.steady e legal new.logs sent.logs
        (λ group packet carried. touching_some (next c s e).trace group packet
        (tied_after.sound.logs origin group packet new here carried)) logs;
    needs = needs_stay origin new.needs sent.needs
        (λ group needed. touching_some (next c s e).trace group origin
        (needing_after.carried origin group new here needed).0) needs;
    size = size;
    commits = commits_stay c s f.steady e legal new.known sent.commits front
        (λ group packet told. changing_some group packet
        ((tied_after.fronts.told origin new here).there group packet told))
        commits;
  }

  -- a message that is still there, with the same packet, logs, needs and knowledge
  pub sent_stays : (origin : ℕ) (old new : Message) (sent : SentMessage) → s.message origin ≡ Some old →
      (next c s e).message origin ≡ Some new → new.packet ≡ old.packet → new.logs ≡ old.logs →
      new.needs ≡ old.needs → new.known ≡ old.known → IsSentAs c s origin old sent →
      IsSentAs c (next c s e) origin new sent
  sent_stays origin old new sent there here packet logs needs known is =
      sent_made origin new sent here is.origin_is (is.packet ∙ sym packet)
      (subst (λ v. AreLogsOf c s v sent.logs) (sym logs) is.logs)
      (subst (λ v. AreNeedsOf c s origin v sent.needs) (sym needs) is.needs) is.size
      (subst (IsFront c s) (sym known) (f.steady.tied.fronts.told origin old there))
      (subst (λ v. AreCommits c s v sent.commits) (sym known) is.commits)

  pub withheld_stays : (packet : ℕ) (withheld : Withheld) (kept : WithheldPacket) →
      (next c s e).withheld packet ≡ Some withheld → IsWithheldAs c s packet withheld kept →
      IsWithheldAs c (next c s e) packet withheld kept
  withheld_stays packet withheld kept here is = record {
    packet_is = is.packet_is;
    bytes = is.bytes;
    needs = needs_stay packet withheld.needs kept.needs
        (λ group needed. touching_some (next c s e).trace group packet
        (needing_after.withheld packet group withheld here needed)) is.needs;
  }

  -- the visits of the forwarder, where none comes
  pub forwarded_stays : (one other : Visits) (logs : List Logged) →
      ((group packet : ℕ) → other group packet ≡ one group packet) →
      ((group packet : ℕ) → other group packet ≡ true → (next c s e).forwarder group packet ≡ true) →
      AreLogsOf c s one logs → AreLogsOf c (next c s e) other logs
  forwarded_stays one other logs same inside are =
      logs_stay c s f.steady e legal other logs
      (λ group packet there. touching_some (next c s e).trace group packet
      (tied_after.order.forwarded group packet (inside group packet there)).1)
      (logs_same c s one other logs (λ group packet. sym (same group packet)) are)

  -- ---- a server whose lists and knowledge the event leaves

  module _ (server : ℕ) (out : (group : ℕ) → IsElsewhere c e server group) where
    replica_stays : (group : ℕ) (known : List (List ℕ)) (slot : Option Replicated) →
        IsReplicaSlot c s server known group slot → IsReplicaSlot c (next c s e) server known group slot
    replica_stays group known None are = are
    replica_stays group known (Some replica) are = (
      are.0,
      are.1,
      others_stay c s f.steady server group (pruned_by (vector_of known group) replica) are.2 e legal
          (out group),
    )

    pub replicas_stay : (own : Replicated) (others : List (Option Replicated)) (known : List (List ℕ)) →
        AreReplicas c s server own others known → AreReplicas c (next c s e) server own others known
    replicas_stay own others known are = record {
      own = others_stay c s f.steady server server (pruned_by (vector_of known server) own) are.own e legal
          (out server);
      others = λ group below. replica_stays group known (replica_of others group) (are.others group below);
      size = are.size;
      known = others_know c s f.steady e legal server out known are.known;
    }

  module _ (server : ℕ) where
    pub held_stay : ((origin : ℕ) → held_at (next c s e) server origin ≡ held_at s server origin) →
        {A : Type 0} (visited by_ring : A → Bool) (sent : A → SentMessage) (items : List A) →
        AreHeld visited by_ring sent c s server items → AreHeld visited by_ring sent c (next c s e) server items
    held_stay same visited by_ring sent items are =
        stays since_of (λ item. origin_of (sent item))
        (λ origin message item. IsHeldAs c s server origin message (visited item) (by_ring item) (sent item))
        (held_at s server)
        (λ origin message item. IsHeldAs c (next c s e) server origin message (visited item) (by_ring item) (sent item))
        (held_at (next c s e) server) same
        (λ origin message item there is. record {
          place = is.place;
          as_sent = sent_stays origin message message (sent item)
              (of_it (is_held_by server) (s.message origin) message there)
              (of_it (is_held_by server) ((next c s e).message origin) message (same origin ∙ there))
              refl refl refl refl is.as_sent;
        }) items are

    pub withheld_stay : ((packet : ℕ) → withheld_at c (next c s e) server packet ≡ withheld_at c s server packet) →
        (items : List WithheldPacket) → AreWithheld c s server items → AreWithheld c (next c s e) server items
    withheld_stay same items are =
        stays time_of packet_of (IsWithheldAs c s) (withheld_at c s server) (IsWithheldAs c (next c s e))
        (withheld_at c (next c s e) server) same
        (λ packet withheld kept there is. withheld_stays packet withheld kept
        (of_last (server + 1 == servers c) ((next c s e).withheld packet) withheld (same packet ∙ there)) is)
        items are

    pub forwarded_stay :
        ((group packet : ℕ) → forwarded_at (next c s e) server group packet ≡ forwarded_at s server group packet) →
        (logs : List Logged) → AreForwarded c s server logs → AreForwarded c (next c s e) server logs
    forwarded_stay same logs are = forwarded_stays (forwarded_at s server) (forwarded_at (next c s e) server) logs
        same (λ group packet there. at_first group packet there) are
      where
        never : false ≡ true → ⊥
        never e = cc

        at_first : (group packet : ℕ) → forwarded_at (next c s e) server group packet ≡ true →
            (next c s e).forwarder group packet ≡ true
        at_first group packet there = elim (server == 0) as (λ b.
            (if b then (next c s e).forwarder else no_visits) group packet ≡ true →
            (next c s e).forwarder group packet ≡ true) [
              | true ↦ λ is. is
              | false ↦ λ is. absurd (never is)
            ] there

  -- ---- a link in which the event has no part

  pub link_stays : (link : ℕ) (queue : Queue) → IsLinkAsBefore s (next c s e) link → IsLink c s link queue →
      IsLink c (next c s e) link queue
  link_stays link queue as_before is = record {
    from = is.from;
    gap = is.gap ∙ sym as_before.gap;
    queued = stays since_of origin_of (IsSentAs c s) (queued_on s link) (IsSentAs c (next c s e))
        (queued_on (next c s e) link) as_before.queued
        (λ origin message sent there stands. sent_stays origin message message sent
        (of_it (is_queued_on link) (s.message origin) message there)
        (of_it (is_queued_on link) ((next c s e).message origin) message (as_before.queued origin ∙ there))
        refl refl refl refl stands) queue.messages is.queued;
  }
