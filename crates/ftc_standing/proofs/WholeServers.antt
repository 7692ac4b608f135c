-- A whole server after each event in which it has a part.
use Rattle.std.proofs.Common.{◌≡◌, ◌≢◌, ◌<◌, ◌+◌, ◌==◌, ◌++◌, ◌∙◌, ℕ, Bool, true, false, not, List, [], ◌∷◌, filter}
use Rattle.std.proofs.Common.{length, Option, Some, None, slice_set, refl, sym, ap, subst, arith, if◌then◌else◌, eq-eqb}
use Rattle.std.proofs.Common.{le-leb}
use Rattle.std.specs.Option.{is_some}
use Rattle.std.proofs.lemmas.Bool.{ne_eqb}
use Rattle.std.proofs.lemmas.Option.{same_Some}
use Rattle.ftc_edge.specs.declared.buffer.Withheld.{Withheld as WithheldPacket}
use Rattle.ftc_journal.specs.declared.event.Event.{Event}
use Rattle.ftc_journal.specs.declared.event.Event.TheVariants.{Apply, Carry, Enter, Propagate, Pull, Recover, Release}
use Rattle.ftc_journal.specs.declared.event.Event.TheVariants.{Take, Visit}
use Rattle.ftc_journal.specs.declared.event.VisitName.{VisitName}
use Rattle.ftc_link.specs.Queue.{Queue}
use Rattle.ftc_message.specs.declared.message.Message.{Message as SentMessage}
use Rattle.ftc_message.specs.Logged.{Logged}
use Rattle.ftc_message.specs.Ordered.{with_items, is_earlier}
use Rattle.ftc_replica.specs.Held.{Held as Replicated, applied}
use Rattle.ftc_replica.specs.InTurn.{applied_all}
use Rattle.ftc_replica.specs.Kept.{missing}
use Rattle.ftc_ring.specs.Ring.{next_of, apart}
use Rattle.ftc_serial.specs.Words.{with_at}
use Rattle.ftc_txn.specs.Logs.{IsLogOf}
use Rattle.ftc_vector.specs.Commits.{all_merged, group_raised}
use Rattle.ftc_protocol.specs.Changes.{is_changing, is_touching}
use Rattle.ftc_protocol.specs.Setting.{Setting, servers, is_member, is_tail, packet_at}
use Rattle.ftc_protocol.specs.State.{Held, Message, ChainState}
use Rattle.ftc_protocol.specs.Legal.{IsLegal, MayLeave}
use Rattle.ftc_protocol.specs.Next.{next, fresh_message, outcome_at, withheld_of, visited_message, visited_at, sent_on}
use Rattle.ftc_protocol.proofs.RingDistances.{apart_cases}
use Rattle.ftc_ties.specs.Logs.{IsLogIn}
use Rattle.ftc_ties.specs.Messages.{onward}
use Rattle.ftc_ties.specs.Replica.{committed}
use Rattle.ftc_protocol.specs.Visits.{no_visits}
use Rattle.ftc_protocol.specs.Recovery.{following_live}
use Rattle.ftc_protocol.specs.Trace.{has_each}
use Rattle.ftc_ties.specs.Servers.{AreCommits, IsElsewhere, is_shared}
use Rattle.ftc_ties.proofs.Serving.{steady_next}
use Rattle.ftc_ties.proofs.Lasting.{commit_logs}
use Rattle.ftc_standing.specs.Stand.{IsSentAs, IsHeldAs, IsLink, HeldItem, item_of, AreItems, AreReplicas, AreWithheld}
use Rattle.ftc_standing.specs.Stand.{IsServerOf, IsServer, ServerContents, IsPulled, IsBegun, IsVisited, replica_kept}
use Rattle.ftc_standing.specs.Stand.{packet_of, replica_of, since_of, origin_of}
use Rattle.ftc_standing.specs.View.{IsBesideServer, is_held_by, where_it, held_at, forwarded_at, withheld_at}
use Rattle.ftc_standing.proofs.Arriving.{there_here}
use Rattle.ftc_standing.proofs.Buffering.{held_carried, forwarder_gets, withheld_released, withheld_kept, withheld_gets}
use Rattle.ftc_standing.proofs.Events.{held_begins, held_keeps, held_taken, held_leaves, oldest_stands, forwarder_left}
use Rattle.ftc_standing.proofs.Fresh.{nothing_known, nothing_size, knows_nothing, replicas_told_nothing}
use Rattle.ftc_standing.proofs.Gaining.{receiver_up, replicas_told, replicas_applied}
use Rattle.ftc_standing.proofs.Lasting.{IsFirmState, replicas_stay, held_stay, withheld_stay, forwarded_stay, of_it}
use Rattle.ftc_standing.proofs.Movements.{changes, some_go}
use Rattle.ftc_standing.proofs.Pulling.{replicas_pulled}
use Rattle.ftc_standing.proofs.SamePlaces.{elsewhere, server_as_before, none_entering, none_begun, comes_there}
use Rattle.ftc_standing.proofs.SamePlaces.{at_place, recovery_drops}
use Rattle.ftc_standing.proofs.Visiting.{replicas_unchanged, replicas_committed, visited_one, visited_stands}

-- a server heads its own group
own_member : (c : Setting) (k : ℕ) → k < servers c → is_member c k k ≡ true
own_member c k inside = le-leb (apart (servers c) k k) c.failures
    (let own = apart_cases (servers c) k k inside inside in omega arith)

module _ (c : Setting) (s : ChainState) (f : IsFirmState c s) (server : ℕ) (head : Replicated)
    (later : List (Option Replicated)) (commits : List (List ℕ)) (items : List HeldItem) (buffer : List WithheldPacket)
    (carried : List Logged) (is : IsServerOf c s server head later commits items buffer carried) where
  abbrev visited_of : HeldItem → Bool
  visited_of item = item.visited

  abbrev ring_of : HeldItem → Bool
  ring_of item = item.by_ring

  abbrev message_of : HeldItem → SentMessage
  message_of item = item.message

  -- one in which the event has no part
  pub stands_still : (e : Event) → IsLegal c s e → IsBesideServer c s e server →
      IsServerOf c (next c s e) server head later commits items buffer carried
  stands_still e legal beside =
      let before = server_as_before c s f.steady e legal server beside in
      record {
        replicas = replicas_stay c s f e legal server
            (elsewhere c s f.steady e server beside) head later commits is.replicas;
        held = held_stay c s f e legal server before.held visited_of ring_of message_of items is.held;
        withheld = withheld_stay c s f e legal server before.withheld buffer is.withheld;
        forwarded = forwarded_stay c s f e legal server before.forwarded carried is.forwarded;
      }

module _ (c : Setting) (s : ChainState) (f : IsFirmState c s) (head : Replicated)
    (later : List (Option Replicated)) (commits : List (List ℕ)) (items : List HeldItem) (buffer : List WithheldPacket)
    (carried : List Logged) (sent : SentMessage) where
  -- a message begins at server 0
  begins : (e : Event) (legal : IsLegal c s e) (p : ℕ) (packet : Option (List ℕ)) → s.up 0 ≡ true → s.message p ≡ None →
      (next c s e).message ≡ with_at s.message p (Some (fresh_message s.events packet)) →
      ((group : ℕ) → IsElsewhere c e 0 group) →
      ((packet : ℕ) → withheld_at c (next c s e) 0 packet ≡ withheld_at c s 0 packet) →
      ((group packet : ℕ) → forwarded_at (next c s e) 0 group packet ≡ forwarded_at s 0 group packet) →
      IsBegun p packet sent → IsServerOf c s 0 head later commits items buffer carried →
      IsServerOf c (next c s e) 0 head later (all_merged commits nothing_known) (items ++ item_of false false sent ∷ [])
      buffer carried
  begins e legal p packet up none now_is out withheld forwarded begun is = record {
    replicas = replicas_told_nothing c s f e legal 0 (f.steady.tied.order.inside 0 up) out
        (steady_next c s f.steady e legal) head later commits is.replicas;
    held = held_begins c s f e legal p packet none now_is (λ (item : HeldItem). item.visited)
        (λ (item : HeldItem). item.by_ring) (λ (item : HeldItem). item.message)
        (item_of false false sent) items refl refl
        begun.origin_is begun.packet_is begun.no_logs begun.no_needs (ap length begun.no_commits ∙ nothing_size)
        (subst (AreCommits c s no_visits) (sym begun.no_commits) (knows_nothing c s)) is.held;
    withheld = withheld_stay c s f e legal 0 withheld buffer is.withheld;
    forwarded = forwarded_stay c s f e legal 0 forwarded carried is.forwarded;
  }

  pub enters : (p : ℕ) → IsLegal c s (Enter p) → s.up 0 ≡ true → IsBegun p (Some (packet_at c p)) sent →
      IsServerOf c s 0 head later commits items buffer carried →
      IsServerOf c (next c s (Enter p)) 0 head later (all_merged commits nothing_known)
      (items ++ item_of false false sent ∷ []) buffer carried
  enters p legal up = begins (Enter p) legal p (Some (packet_at c p)) up (none_entering c s f.steady p legal)
      (ap (λ (b : Bool). with_at s.message p
      (if b then Some (fresh_message s.events (Some (packet_at c p))) else s.message p)) up)
      (λ group. tt) (λ packet. refl) (λ group packet. refl)

  pub propagates : (p : ℕ) → IsLegal c s (Propagate p) → IsBegun p None sent →
      IsServerOf c s 0 head later commits items buffer carried →
      IsServerOf c (next c s (Propagate p)) 0 head later (all_merged commits nothing_known)
      (items ++ item_of false false sent ∷ []) buffer carried
  propagates p legal = begins (Propagate p) legal p None
      (legal.0.1 0 (let some = f.steady.run.right.ring.some in omega arith))
      (none_begun c s f.steady p legal) refl (λ group. tt) (λ packet. refl) (λ group packet. refl)

  -- the receiver of a link takes the oldest message
  pub takes : (link p : ℕ) (legal : IsLegal c s (Take link p)) (queue : Queue) (rest : List SentMessage) →
      IsLink c s link queue → queue.messages ≡ sent ∷ rest →
      IsServerOf c s (next_of (servers c) link) head later commits items buffer carried →
      IsServerOf c (next c s (Take link p)) (next_of (servers c) link) head later (all_merged commits sent.commits)
      (items ++ item_of false (link + 1 == servers c) sent ∷ []) buffer carried
  takes link p legal queue rest link_is first is =
      let stands = oldest_stands c s f link p legal queue sent rest link_is first in
      let up = receiver_up c s f.steady link p legal legal.0.0 legal.0.1 legal.0.2 in
      record {
        replicas = replicas_told c s f.steady link p legal legal.0.0 legal.0.1 legal.0.2 head later commits sent.commits
            (own_member c (next_of (servers c) link) (f.steady.tied.order.inside (next_of (servers c) link) up))
            stands.commits is.replicas;
        held = held_taken c s f link p legal (λ (item : HeldItem). item.visited) (λ (item : HeldItem). item.by_ring)
            (λ (item : HeldItem). item.message)
            (item_of false (link + 1 == servers c) sent) items refl refl stands is.held;
        withheld = withheld_stay c s f (Take link p) legal (next_of (servers c) link)
            (λ packet. refl) buffer is.withheld;
        forwarded = forwarded_stay c s f (Take link p) legal (next_of (servers c) link) (λ group packet. refl) carried
            is.forwarded;
      }

-- a log of a held message is applied
module _ (c : Setting) (s : ChainState) (f : IsFirmState c s) (server origin group packet : ℕ)
    (legal : IsLegal c s (Apply server origin group packet)) (up : s.up server ≡ true) (below : group < servers c)
    (log : Logged) (log_of : IsLogIn c.partitions s.trace log) (group_is : log.group ≡ group)
    (origin_is : log.origin ≡ packet) (head : Replicated) (later : List (Option Replicated)) (commits : List (List ℕ))
    (items : List HeldItem) (buffer : List WithheldPacket) (carried : List Logged) (replica : Replicated)
    (there : replica_of later group
    ≡ Some replica) (is : IsServerOf c s server head later commits items buffer carried) where
  abbrev applying : Event
  applying = Apply server origin group packet

  pub applies : IsServerOf c (next c s applying) server head (slice_set later group (Some (applied log replica)))
      (if is_tail c group server then group_raised commits group (applied log replica).vector else commits) items buffer
      carried
  applies = record {
    replicas = replicas_applied c s f.steady server origin group packet legal up below log log_of group_is origin_is
        head later commits replica there is.replicas;
    held = held_stay c s f applying legal server (λ origin. refl) (λ (item : HeldItem). item.visited)
        (λ (item : HeldItem). item.by_ring) (λ (item : HeldItem). item.message) items is.held;
    withheld = withheld_stay c s f applying legal server (λ packet. refl) buffer is.withheld;
    forwarded = forwarded_stay c s f applying legal server (λ group packet. refl) carried is.forwarded;
  }

-- the visit of a held message is made
module _ (c : Setting) (s : ChainState) (f : IsFirmState c s) (k p w : ℕ) (legal : IsLegal c s (Visit k p w))
    (up : s.up k ≡ true) (head : Replicated) (later : List (Option Replicated)) (commits : List (List ℕ))
    (before : List HeldItem) (item : HeldItem) (after : List HeldItem) (buffer : List WithheldPacket)
    (carried : List Logged) (sent : SentMessage) (log : Option Logged) (origin : origin_of item.message ≡ p)
    (touched : is_some log ≡ is_touching (outcome_at c s k p))
    (made : (one : Logged) → log ≡ Some one →
    IsLogOf k c.partitions head.vector p (outcome_at c s k p).answers (outcome_at c s k p).writes one)
    (visited : IsVisited c.failures (outcome_at c s k p) log item.message sent)
    (is : IsServerOf c s k head later commits (before ++ item ∷ after) buffer carried) where
  abbrev visiting : Event
  visiting = Visit k p w

  abbrev message : Message
  message = legal.0.0

  stands_at : AreItems c s k (before ++ item ∷ after)
  stands_at = is.held

  its : (m : Message) × (held_at s k (origin_of item.message) ≡ Some m)
      × IsHeldAs c s k (origin_of item.message) m item.visited item.by_ring item.message
  its = there_here since_of (λ (one : HeldItem). origin_of one.message)
      (λ origin message (one : HeldItem). IsHeldAs c s k origin message one.visited one.by_ring one.message)
      (held_at s k)
      before item after stands_at

  held_there : held_at s k p ≡ Some message
  held_there = at_place (is_held_by k) (s.message p) message (Held k false legal.0.2) true legal.0.3 legal.0.4
      (eq-eqb k k refl)

  same : its.0 ≡ message
  same = same_Some its.0 message (sym its.1 ∙ (ap (held_at s k) origin ∙ held_there))

  was : IsHeldAs c s k p message item.visited item.by_ring item.message
  was = subst (λ m. IsHeldAs c s k p m item.visited item.by_ring item.message) same
      (subst (λ o. IsHeldAs c s k o its.0 item.visited item.by_ring item.message) origin its.2)

  abbrev new : Message
  new = visited_one c s f k p w legal message legal.0.3 item.message sent was.as_sent

  logged : (one : Logged) → log ≡ Some one →
      IsLogIn c.partitions (next c s visiting).trace one × (one.group ≡ k) × (one.origin ≡ p)
  logged one one_is = (
    commit_logs c s f.steady k p w legal up _ is.replicas.own one (made one one_is),
    (made one one_is).group,
    (made one one_is).origin,
  )

  sent_stands : IsSentAs c (next c s visiting) p new sent
  sent_stands = visited_stands c s f k p w legal message legal.0.3 item.message sent was.as_sent log touched logged
      (visited.origin_is ∙ was.as_sent.origin_is) visited.packet_is visited.logs_are visited.needs_are
      visited.commits_are

  new_place : new.place ≡ Held k true item.by_ring
  new_place = ap visited_at was.place

  held_after : AreItems c (next c s visiting) k (before ++ item_of true item.by_ring sent ∷ after)
  unfolding its
  held_after = changes c s f visiting (λ (one : HeldItem). origin_of one.message) (is_held_by k)
      (λ origin message (one : HeldItem). IsHeldAs c s k origin message one.visited one.by_ring one.message)
      (λ origin message (one : HeldItem). IsHeldAs c
      (next c s visiting) k origin message one.visited one.by_ring one.message)
      (held_keeps c s f visiting legal k (λ (one : HeldItem). one.visited) (λ (one : HeldItem). one.by_ring)
      (λ (one : HeldItem). one.message)) before item (item_of true item.by_ring sent) after new stands_at
      (visited.origin_is ∙ refl) (ap (λ (m : Message). m.since) (sym same))
      (λ at. comes_there (is_held_by k) s.message p (visited_message c k p (outcome_at c s k p) (s.message p))
      (Some new)
      (ap (λ o. where_it (is_held_by k) (visited_message c k p (outcome_at c s k p) o)) legal.0.3
      ∙ (ap (λ place. if is_held_by k place then Some new else None) new_place
      ∙ ap (λ (b : Bool). if b then Some new else None) (eq-eqb k k refl))) at
      ∙ ap (λ o. with_at (held_at s k) o (Some new) at) (sym origin))
      (subst (λ o. IsHeldAs c (next c s visiting) k o new true item.by_ring sent) (sym origin)
      (record { place = new_place; as_sent = sent_stands }))

  with_replicas_of : (own : Replicated) (known : List (List ℕ)) →
      AreReplicas c (next c s visiting) k own later known →
      IsServerOf c (next c s visiting) k own later known (before ++ item_of true item.by_ring sent
      ∷ after) buffer carried
  with_replicas_of own known are = record {
    replicas = are;
    held = held_after;
    withheld = withheld_stay c s f visiting legal k (λ packet. refl) buffer is.withheld;
    forwarded = forwarded_stay c s f visiting legal k (λ group packet. refl) carried is.forwarded;
  }

  member : is_member c k k ≡ true
  member = own_member c k (f.steady.tied.order.inside k up)

  pub visits_only : is_changing c.partitions (outcome_at c s k p) ≡ false →
      IsServerOf c (next c s visiting) k head later
      commits (before ++ item_of true item.by_ring sent ∷ after) buffer carried
  visits_only unchanging = with_replicas_of head commits
      (replicas_unchanged c s f.steady k p w legal up member head later commits is.replicas unchanging)

  pub visits : is_changing c.partitions (outcome_at c s k p) ≡ true → (one : Logged) → log ≡ Some one →
      IsServerOf c (next c s visiting) k (committed c.partitions (outcome_at c s k p) one head) later
      (if is_tail c k k then group_raised commits k (committed c.partitions (outcome_at c s k p) one head).vector
      else commits) (before ++ item_of true item.by_ring sent ∷ after) buffer carried
  visits changing one one_is =
      let own = committed c.partitions (outcome_at c s k p) one head in
      with_replicas_of own (if is_tail c k k then group_raised commits k own.vector else commits)
      (replicas_committed c s f.steady k p w legal up member head later commits is.replicas changing one
      (made one one_is))

-- a message leaves its server, or ends
module _ (c : Setting) (s : ChainState) (f : IsFirmState c s) (head : Replicated) (later : List (Option Replicated))
    (commits : List (List ℕ)) (before : List HeldItem) (item : HeldItem) (after : List HeldItem)
    (buffer : List WithheldPacket) (carried : List Logged) where
  module _ (k p : ℕ) (lost : Bool) (e : Event) (legal : IsLegal c s e)
      (after_is : next c s e ≡ record (sent_on c s k p lost) { events = s.events + 1 })
      (out : (group : ℕ) → IsElsewhere c e k group)
      (message : Message) (leaves : MayLeave c s k p message) (origin : origin_of item.message ≡ p)
      (is : IsServerOf c s k head later commits (before ++ item ∷ after) buffer carried) where
    stands_before : AreItems c s k (before ++ item ∷ after)
    stands_before = is.held

    pub leaving_is : IsSentAs c s p message item.message
    leaving_is =
        let its = there_here since_of (λ (one : HeldItem). origin_of one.message)
        (λ origin message (one : HeldItem). IsHeldAs c s k origin message one.visited one.by_ring one.message)
        (held_at s k)
        before item after stands_before in
        let held_there : held_at s k p ≡ Some message = at_place (is_held_by k) (s.message p) message
        (Held k leaves.visited false) true leaves.there leaves.held (eq-eqb k k refl) in
        let same : its.0 ≡ message = same_Some its.0 message (sym its.1 ∙ (ap (held_at s k) origin ∙ held_there)) in
        (subst (λ m. IsHeldAs c s k p m item.visited item.by_ring item.message) same
        (subst (λ o. IsHeldAs c s k o its.0 item.visited item.by_ring item.message) origin its.2)).as_sent

    with_buffer : (packets : List WithheldPacket) → AreWithheld c (next c s e) k packets →
        IsServerOf c (next c s e) k head later commits (before ++ after) packets (if k == 0 then [] else carried)
    with_buffer packets are = record {
      replicas = replicas_stay c s f e legal k out head later commits is.replicas;
      held = held_leaves c s f e legal k p lost
          (ap (λ (state : ChainState). state.message) after_is) message leaves.visited
          leaves.there leaves.held (λ (one : HeldItem). one.visited) (λ (one : HeldItem). one.by_ring)
          (λ (one : HeldItem). one.message) before item after origin is.held;
      withheld = are;
      forwarded = forwarder_left c s f e legal k p lost (ap (λ (state : ChainState). state.message) after_is) message
          leaves.visited leaves.there leaves.held
          (λ group packet. ap (λ (state : ChainState). state.forwarder group packet) after_is) carried is.forwarded;
    }

    withheld_now : k + 1 ≡ servers c → (next c s e).withheld ≡ with_at s.withheld p (withheld_of s (s.message p))
    withheld_now last = ap (λ (state : ChainState). state.withheld) after_is
        ∙ ap (λ (b : Bool). with_at s.withheld p (if b then withheld_of s (s.message p) else s.withheld p))
        (eq-eqb (k + 1) (servers c) last)

    -- from a server that isn't the last
    pub leaves_on : (k + 1 ≡ servers c → ⊥) → IsServerOf c (next c s e) k head later commits (before ++ after) buffer
        (if k == 0 then [] else carried)
    leaves_on isnt = with_buffer buffer (withheld_stay c s f e legal k
        (λ packet. ap (λ (b : Bool). if b then (next c s e).withheld packet else None) (ne_eqb (k + 1) (servers c) isnt)
        ∙ sym (ap (λ (b : Bool). if b then s.withheld packet
        else None) (ne_eqb (k + 1) (servers c) isnt))) buffer is.withheld)

    -- from the last server, without a packet, or with one
    pub leaves_empty : k + 1 ≡ servers c → item.message.packet ≡ None → IsServerOf c (next c s e) k head later commits
        (before ++ after) buffer (if k == 0 then [] else carried)
    leaves_empty last none = with_buffer buffer
        (withheld_kept c s f k last e legal p message leaves.visited leaves.there
        leaves.held (withheld_now last) (sym leaving_is.packet ∙ none) buffer is.withheld)

    pub leaves_packet : k + 1 ≡ servers c → (bytes : List ℕ) → item.message.packet ≡ Some bytes →
        IsServerOf c (next c s e) k head later commits (before ++ after)
        (buffer ++ record { packet = p; bytes = bytes; needs = item.message.needs } ∷ []) (if k == 0 then []
        else carried)
    leaves_packet last bytes has =
        with_buffer (buffer ++ record { packet = p; bytes = bytes; needs = item.message.needs } ∷ [])
        (withheld_gets c s f k last e legal p message leaves.visited leaves.there leaves.held (withheld_now last) bytes
        (sym leaving_is.packet ∙ has) (record {
          packet = p;
          bytes = bytes;
          needs = item.message.needs;
        }) buffer refl refl
        leaving_is.needs is.withheld)

  -- the forwarder takes the message's logs on
  pub carries : (p : ℕ) (legal : IsLegal c s (Carry p)) → origin_of item.message ≡ p →
      IsServerOf c s 0 head later commits (before ++ item ∷ after) buffer carried →
      IsServerOf c (next c s (Carry p)) 0 head later commits (before ++ after) buffer
      (with_items is_earlier (onward c 0 item.message.logs) carried)
  carries p legal origin is =
      let message : Message = legal.0.0 in
      let its = there_here since_of (λ (one : HeldItem). origin_of one.message)
      (λ origin message (one : HeldItem). IsHeldAs c s 0 origin message one.visited one.by_ring one.message)
      (held_at s 0)
      before item after is.held in
      let held_there : held_at s 0 p ≡ Some message = at_place (is_held_by 0) (s.message p) message
      (Held 0 legal.0.2 true) true legal.0.1 legal.0.3 refl in
      let same : its.0 ≡ message = same_Some its.0 message (sym its.1 ∙ (ap (held_at s 0) origin ∙ held_there)) in
      let stands = (subst (λ m. IsHeldAs c s 0 p m item.visited item.by_ring item.message) same
      (subst (λ o. IsHeldAs c s 0 o its.0 item.visited item.by_ring item.message) origin its.2)).as_sent in
      record {
        replicas = replicas_stay c s f (Carry p) legal 0 (λ group. tt) head later commits is.replicas;
        held = held_carried c s f p legal (λ (one : HeldItem). one.visited) (λ (one : HeldItem). one.by_ring)
            (λ (one : HeldItem). one.message) before item after origin is.held;
        withheld = withheld_stay c s f (Carry p) legal 0 (λ packet. refl) buffer is.withheld;
        forwarded = forwarder_gets c s f p legal item.message carried stands is.forwarded;
      }

-- a packet is released
pub releases : (c : Setting) (s : ChainState) (f : IsFirmState c s) (k : ℕ) → k + 1 ≡ servers c → (p : ℕ) →
    IsLegal c s (Release p) → (head : Replicated) (later : List (Option Replicated)) (commits : List (List ℕ))
    (items : List HeldItem) (before : List WithheldPacket) (item : WithheldPacket) (after : List WithheldPacket)
    (carried : List Logged) → packet_of item ≡ p →
    IsServerOf c s k head later commits items (before ++ item ∷ after) carried →
    IsServerOf c (next c s (Release p)) k head later commits items (before ++ after) carried
releases c s f k last p legal head later commits items before item after carried packet is = record {
  replicas = replicas_stay c s f (Release p) legal k (λ group. tt) head later commits is.replicas;
  held = held_stay c s f (Release p) legal k (λ origin. refl) (λ (one : HeldItem). one.visited)
      (λ (one : HeldItem). one.by_ring) (λ (one : HeldItem). one.message) items is.held;
  withheld = withheld_released c s f k last p legal before item after packet is.withheld;
  forwarded = forwarded_stay c s f (Release p) legal k (λ group packet. refl) carried is.forwarded;
}

-- the receiver of a link pulls
pub pulls_all : (c : Setting) (s : ChainState) (f : IsFirmState c s) (link tail : ℕ) (legal : IsLegal c s (Pull link))
    (contents from : ServerContents) (later : List (Option Replicated)) (mine theirs : Replicated) → tail < servers c →
    is_tail c tail (next_of (servers c) link) ≡ true → is_shared c tail link (next_of (servers c) link) ≡ true →
    IsPulled c link contents from later → replica_of contents.later tail ≡ Some mine →
    replica_kept link from tail ≡ Some theirs → IsServer c s (next_of (servers c) link) contents →
    IsServer c s link from → IsServer c (next c s (Pull link)) (next_of (servers c) link) (record contents {
      later = later;
      known = group_raised contents.known tail (applied_all (missing mine.vector theirs.kept) mine).vector;
    })
pulls_all c s f link tail legal contents from later mine theirs inside tail_is shared pulls mine_is theirs_is is
    sender = record {
      replicas = replicas_pulled c s f.steady link legal contents from is sender later tail inside tail_is shared pulls
          mine
          theirs
          mine_is theirs_is;
      held = held_stay c s f (Pull link) legal (next_of (servers c) link) (λ origin. refl)
          (λ (one : HeldItem). one.visited)
          (λ (one : HeldItem). one.by_ring) (λ (one : HeldItem). one.message) contents.held is.held;
      withheld = withheld_stay c s f (Pull link) legal (next_of (servers c) link)
          (λ packet. refl) contents.withheld is.withheld;
      forwarded = forwarded_stay c s f (Pull link) legal (next_of (servers c) link)
          (λ group packet. refl) contents.forwarded
          is.forwarded;
    }

-- the live server after one that is replaced drops what lacks a visit
pub drops_unready : (c : Setting) (s : ChainState) (f : IsFirmState c s) (k : ℕ) (undone : List VisitName)
    (legal : IsLegal c s (Recover k undone)) (contents : ServerContents) (stays : HeldItem → Bool) →
    following_live c s k ≢ k →
    ((message : Message) (item : HeldItem) → s.message item.message.origin ≡ Some message →
    stays item ≡ has_each c.partitions s.trace (s.lists (following_live c s k)) message.logs) →
    IsServer c s (following_live c s k) contents →
    IsServer c (next c s (Recover k undone)) (following_live c s k)
    (record contents { held = filter stays contents.held })
drops_unready c s f k undone legal contents stays differs meaning is = record {
  replicas = replicas_stay c s f (Recover k undone) legal (following_live c s k) (λ group. differs) contents.head
      contents.later contents.known is.replicas;
  held = some_go c s f (Recover k undone) (λ (one : HeldItem). origin_of one.message)
      (is_held_by (following_live c s k))
      (λ origin message (one : HeldItem). IsHeldAs c s
      (following_live c s k) origin message one.visited one.by_ring one.message)
      (λ origin message (one : HeldItem). IsHeldAs c (next c s (Recover k undone)) (following_live c s k) origin message
      one.visited one.by_ring one.message)
      (held_keeps c s f (Recover k undone) legal (following_live c s k) (λ (one : HeldItem). one.visited)
      (λ (one : HeldItem). one.by_ring) (λ (one : HeldItem). one.message))
      (λ message. not (has_each c.partitions s.trace (s.lists (following_live c s k)) message.logs)) stays
      (λ origin message item there same stands. meaning message item
      (ap s.message same ∙ of_it (is_held_by (following_live c s k)) (s.message origin) message there)
      ∙ sym (not_twice (has_each c.partitions s.trace (s.lists (following_live c s k)) message.logs)))
      (recovery_drops c s k undone) contents.held is.held;
  withheld = withheld_stay c s f (Recover k undone) legal (following_live c s k)
      (λ packet. refl) contents.withheld is.withheld;
  forwarded = forwarded_stay c s f (Recover k undone) legal (following_live c s k)
      (λ group packet. refl) contents.forwarded
      is.forwarded;
}
  where
    not_twice : (b : Bool) → not (not b) ≡ b
    not_twice true = refl
    not_twice false = refl
