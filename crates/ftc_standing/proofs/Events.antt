-- What stands for a server or a link after each event in which it has a part: what it holds, withholds, forwards or
-- queues.
use Rattle.std.proofs.Common.{◌≡◌, ◌+◌, ◌==◌, ◌&&◌, ◌++◌, ◌∙◌, ℕ, Bool, true, false, not, List, [], ◌∷◌, length, Option}
use Rattle.std.proofs.Common.{Some, None, refl, sym, ap, subst, if◌then◌else◌, eq-eqb}
use Rattle.std.proofs.lemmas.Bool.{true≢false}
use Rattle.std.proofs.lemmas.Option.{none-some, same_Some}
use Rattle.ftc_base.specs.declared.limits.TheConstants.{MOST_SERVERS}
use Rattle.ftc_journal.specs.declared.event.Event.{Event}
use Rattle.ftc_journal.specs.declared.event.Event.TheVariants.{Take}
use Rattle.ftc_link.specs.Queue.{Queue}
use Rattle.ftc_message.specs.declared.message.Message.{Message as SentMessage}
use Rattle.ftc_message.specs.Logged.{Logged}
use Rattle.ftc_message.specs.Ordered.{with_items, is_earlier}
use Rattle.ftc_ring.specs.Ring.{next_of}
use Rattle.ftc_serial.specs.Words.{with_at}
use Rattle.ftc_serial.proofs.Functions.{with_at_cases}
use Rattle.ftc_protocol.specs.Setting.{Setting, servers}
use Rattle.ftc_protocol.specs.Visits.{no_visits}
use Rattle.ftc_protocol.specs.State.{Where, Held, Queued, Message, ChainState}
use Rattle.ftc_protocol.specs.Front.{IsFront}
use Rattle.ftc_protocol.specs.Known.{knows}
use Rattle.ftc_protocol.specs.Legal.{IsLegal, is_sent}
use Rattle.ftc_protocol.specs.Next.{next, fresh_message, taken_message, sent_message, is_away, logs_sent}
use Rattle.ftc_protocol.proofs.Fronts.{none_front}
use Rattle.ftc_ties.specs.Messages.{AreLogsOf, AreNeedsOf, onward}
use Rattle.ftc_ties.specs.Servers.{AreCommits}
use Rattle.ftc_standing.specs.Arrivals.{AreArrived}
use Rattle.ftc_standing.specs.Stand.{IsSentAs, IsHeldAs, IsLink, AreHeld, AreForwarded, since_of, origin_of}
use Rattle.ftc_standing.specs.View.{is_held_by, is_queued_on, where_it, held_at, queued_on}
use Rattle.ftc_standing.proofs.Arriving.{there_here, first_is}
use Rattle.ftc_standing.proofs.Lasting.{IsFirmState, sent_made, sent_stays, forwarded_stays}
use Rattle.ftc_standing.proofs.Leaving.{logs_leaving, needs_leaving}
use Rattle.ftc_standing.proofs.Movements.{comes, goes, remain, all_go}
use Rattle.ftc_standing.proofs.SamePlaces.{comes_there, not_there, at_place, leaving_elsewhere, link_is}

module _ (c : Setting) (s : ChainState) (f : IsFirmState c s) (e : Event) (legal : IsLegal c s e) where
  -- what a server holds keeps standing, as long as it is there
  pub held_keeps : (server : ℕ) {A : Type 0} (visited by_ring : A → Bool) (sent : A → SentMessage) (origin : ℕ)
      (message : Message) (item : A) → s.message origin ≡ Some message → (next c s e).message origin ≡ Some message →
      IsHeldAs c s server origin message (visited item) (by_ring item) (sent item) →
      IsHeldAs c (next c s e) server origin message (visited item) (by_ring item) (sent item)
  held_keeps server visited by_ring sent origin message item there here is = record {
    place = is.place;
    as_sent = sent_stays c s f e legal origin message message (sent item) there here refl refl refl refl is.as_sent;
  }

  -- and so does what is queued on a link
  queued_keeps : (origin : ℕ) (message : Message) (item : SentMessage) → s.message origin ≡ Some message →
      (next c s e).message origin ≡ Some message → IsSentAs c s origin message item →
      IsSentAs c (next c s e) origin message item
  queued_keeps origin message item there here is =
      sent_stays c s f e legal origin message message item there here refl refl refl refl is

  -- a message that begins at server 0
  module _ (p : ℕ) (packet : Option (List ℕ)) (none : s.message p ≡ None)
      (now_is : (next c s e).message ≡ with_at s.message p (Some (fresh_message s.events packet)))
      {A : Type 0} (visited by_ring : A → Bool) (sent : A → SentMessage) (item : A) (items : List A)
      (fresh_visited : visited item ≡ false) (fresh_ring : by_ring item ≡ false)
      (origin_is : (sent item).origin ≡ p) (packet_is : (sent item).packet ≡ packet) (no_logs : (sent item).logs ≡ [])
      (no_needs : (sent item).needs ≡ []) (size : length (sent item).commits ≡ MOST_SERVERS)
      (no_commits : AreCommits c s no_visits (sent item).commits) where
    abbrev fresh : Message
    fresh = fresh_message s.events packet

    here : (next c s e).message p ≡ Some fresh
    here = ap (λ message. message p) now_is ∙ with_at_cases (λ v. v ≡ Some fresh) s.message p (Some fresh) p
        (λ _. refl) (λ ne. absurd (ne refl))

    pub held_begins : AreHeld visited by_ring sent c s 0 items →
        AreHeld visited by_ring sent c (next c s e) 0 (items ++ item ∷ [])
    held_begins are =
        comes c s f e (λ x. origin_of (sent x)) (is_held_by 0)
        (λ origin message x. IsHeldAs c s 0 origin message (visited x) (by_ring x) (sent x))
        (λ origin message x. IsHeldAs c (next c s e) 0 origin message (visited x) (by_ring x) (sent x))
        (held_keeps 0 visited by_ring sent)
        p fresh item items (ap (where_it (is_held_by 0)) none)
        (λ origin. ap (λ message. where_it (is_held_by 0) (message origin)) now_is
        ∙ comes_there (is_held_by 0) s.message p (Some fresh) (Some fresh) refl origin)
        refl origin_is
        (record {
          place = ap (λ v. Held 0 v false) (sym fresh_visited) ∙ ap (λ r. Held 0 (visited item) r) (sym fresh_ring);
          as_sent = sent_made c s f e legal p fresh (sent item) here origin_is packet_is
              (subst (AreLogsOf c s no_visits) (sym no_logs) (record { each = tt; names = λ group packet. refl }))
              (subst (AreNeedsOf c s p (λ group. false)) (sym no_needs) (record { each = tt; names = λ group. refl }))
              size (none_front c s) no_commits;
        }) are

  -- ---- a message leaves a server: it is passed on, or lost

  module _ (k p : ℕ) (lost : Bool)
      (now_is : (next c s e).message ≡ with_at s.message p
      (if is_sent c k && not (is_away c s k lost) then sent_message c s k (s.message p) else None))
      (message : Message) (visited : Bool) (there : s.message p ≡ Some message)
      (place : message.place ≡ Held k visited false) where
    -- those that stay at the server
    pub held_leaves : {A : Type 0} (visited by_ring : A → Bool) (sent : A → SentMessage) (before : List A) (item : A)
        (after : List A) → origin_of (sent item) ≡ p → AreHeld visited by_ring sent c s k (before ++ item ∷ after) →
        AreHeld visited by_ring sent c (next c s e) k (before ++ after)
    held_leaves visited by_ring sent before item after is are =
        goes c s f e (λ x. origin_of (sent x)) (is_held_by k)
        (λ origin message x. IsHeldAs c s k origin message (visited x) (by_ring x) (sent x))
        (λ origin message x. IsHeldAs c (next c s e) k origin message (visited x) (by_ring x) (sent x))
        (held_keeps k visited by_ring sent) before item after
        (λ origin. ap (λ messages. where_it (is_held_by k) (messages origin)) now_is
        ∙ (comes_there (is_held_by k) s.message p _ None (leaving_elsewhere c s f.steady k p lost k) origin
        ∙ ap (λ o. with_at (held_at s k) o None origin) (sym is))) are

    -- the message on the link, where it is sent and not lost
    abbrev leaving : Message
    leaving = record {
      place = Queued k;
      since = s.events;
      packet = if k + 1 == servers c then None else message.packet;
      logs = logs_sent c s k message;
      needs = λ group. not (k + 1 == servers c) && message.needs group;
      known = knows c s k;
    }

    pub link_gets : is_sent c k && not (is_away c s k lost) ≡ true → (queue : Queue) (old new : SentMessage)
        (carried : List Logged) (known : List (List ℕ)) → (next c s e).gap k ≡ s.gap k →
        IsSentAs c s p message old → AreForwarded c s k carried → length known ≡ MOST_SERVERS →
        AreCommits c s (knows c s k) known → new.origin ≡ p →
        new.packet ≡ (if k + 1 == servers c then None else old.packet) →
        new.logs ≡ with_items is_earlier carried (onward c k old.logs) →
        new.needs ≡ (if k + 1 == servers c then [] else old.needs) → new.commits ≡ known → IsLink c s k queue →
        IsLink c (next c s e) k (record queue { messages = queue.messages ++ new ∷ [] })
    link_gets sends queue old new carried known same_gap is forwarded size knowing origin packet logs needs commits
        link_is =
        record {
          from = link_is.from;
          gap = link_is.gap ∙ sym same_gap;
          queued = comes c s f e origin_of (is_queued_on k) (IsSentAs c s) (IsSentAs c (next c s e)) queued_keeps
              p leaving new queue.messages
              (at_place (is_queued_on k) (s.message p) message (Held k visited false) false there place refl)
              (λ at. ap (λ messages. where_it (is_queued_on k) (messages at)) now_is
              ∙ comes_there (is_queued_on k) s.message p _ (Some leaving)
              (ap (where_it (is_queued_on k)) sent_is
              ∙ ap (λ (b : Bool). if b then Some leaving else None) (eq-eqb k k refl)) at)
              refl origin as_sent link_is.queued;
        }
      where
        sent_is : (if is_sent c k && not (is_away c s k lost) then sent_message c s k (s.message p) else None)
            ≡ Some leaving
        sent_is = ap (λ (b : Bool). if b then sent_message c s k (s.message p) else None) sends
            ∙ ap (sent_message c s k) there

        here : (next c s e).message p ≡ Some leaving
        here = ap (λ messages. messages p) now_is
            ∙ with_at_cases (λ v. v ≡ Some leaving) s.message p _ p (λ _. sent_is) (λ ne. absurd (ne refl))

        as_sent : IsSentAs c (next c s e) p leaving new
        as_sent = sent_made c s f e legal p leaving new here origin
            (packet ∙ ap (λ o. if k + 1 == servers c then None else o) is.packet)
            (subst (AreLogsOf c s (logs_sent c s k message)) (sym logs)
            (logs_leaving c s k message carried old.logs forwarded is.logs))
            (subst (AreNeedsOf c s p (λ group. not (k + 1 == servers c) && message.needs group)) (sym needs)
            (needs_leaving c s p (k + 1 == servers c) message.needs old.needs is.needs))
            (ap length commits ∙ size) (f.steady.tied.fronts.knows k)
            (subst (AreCommits c s (knows c s k)) (sym commits) knowing)

    -- where it isn't sent, or goes away, the link has the same messages
    pub link_keeps : is_sent c k && not (is_away c s k lost) ≡ false → (queue : Queue) (gap : Bool) →
        gap ≡ (next c s e).gap k → IsLink c s k queue → IsLink c (next c s e) k (record queue { gap = gap })
    link_keeps sends queue gap is_gap link_is = record {
      from = link_is.from;
      gap = is_gap;
      queued = remain c s f e origin_of (is_queued_on k) (IsSentAs c s) (IsSentAs c (next c s e)) queued_keeps
          (λ at. ap (λ messages. where_it (is_queued_on k) (messages at)) now_is
          ∙ not_there (is_queued_on k) s.message p _
          (at_place (is_queued_on k) (s.message p) message (Held k visited false) false there place refl)
          (ap (λ (b : Bool). where_it (is_queued_on k) (if b then sent_message c s k (s.message p)
          else None)) sends) at)
          queue.messages link_is.queued;
    }

    -- the forwarder of server 0 is empty then, and others have none
    pub forwarder_left : ((group packet : ℕ) →
        (next c s e).forwarder group packet ≡ (not (k == 0) && s.forwarder group packet)) →
        (logs : List Logged) → AreForwarded c s k logs → AreForwarded c (next c s e) k (if k == 0 then [] else logs)
    forwarder_left forwarder_is logs are = elim (k == 0) as (λ b. k == 0 ≡ b →
        AreLogsOf c (next c s e) (if b then (next c s e).forwarder else no_visits) (if b then [] else logs)) [
          | true ↦ λ first. record {
            each = tt;
            names = λ group packet. sym (forwarder_is group packet
                ∙ ap (λ (b : Bool). not b && s.forwarder group packet) first);
          }
          | false ↦ λ other. forwarded_stays c s f e legal no_visits no_visits logs (λ group packet. refl)
              (λ group packet never. absurd (true≢false (sym never)))
              (subst (λ (b : Bool). AreLogsOf c s (if b then s.forwarder else no_visits) logs) other are)
        ] refl

  -- ---- a link whose messages stay, with another gap perhaps

  pub link_moved : (link : ℕ) (queue : Queue) (gap : Bool) →
      ((origin : ℕ) → queued_on (next c s e) link origin ≡ queued_on s link origin) → gap ≡ (next c s e).gap link →
      IsLink c s link queue → IsLink c (next c s e) link (record queue { gap = gap })
  link_moved link queue gap same is_gap link_is = record {
    from = link_is.from;
    gap = is_gap;
    queued = remain c s f e origin_of (is_queued_on link) (IsSentAs c s) (IsSentAs c (next c s e)) queued_keeps same
        queue.messages link_is.queued;
  }

  -- ---- what is queued to a server that crashes goes away

  pub link_emptied : (link : ℕ) → ((origin : ℕ) → queued_on (next c s e) link origin ≡ None) →
      (queue : Queue) (gap : Bool) →
      gap ≡ (next c s e).gap link → queue.from ≡ link →
      IsLink c (next c s e) link (record queue { messages = []; gap = gap })
  link_emptied link none queue gap is_gap from = record {
    from = from;
    gap = is_gap;
    queued = all_go c s f e origin_of (is_queued_on link) (IsSentAs c s) (IsSentAs c (next c s e)) queued_keeps none;
  }

-- a message that is at a place is there, and its place is one
at_it : (test : Where → Bool) (o : Option Message) (message : Message) → where_it test o ≡ Some message →
    (o ≡ Some message) × (test message.place ≡ true)
at_it test None message is = absurd (none-some message is)
at_it test (Some m) message is =
    elim (test m.place) as (λ b. test m.place ≡ b → (if b then Some m else None) ≡ Some message →
    (Some m ≡ Some message) × (test message.place ≡ true)) [
      | true ↦ λ e same. (same, subst (λ (x : Message). test x.place ≡ true) (same_Some m message same) e)
      | false ↦ λ e none. absurd (none-some message none)
    ] refl is

-- ---- a message is taken from a link

module _ (c : Setting) (s : ChainState) (f : IsFirmState c s) (link p : ℕ) (legal : IsLegal c s (Take link p)) where
  abbrev taking : Event
  taking = Take link p

  abbrev receiver : ℕ
  receiver = next_of (servers c) link

  abbrev message : Message
  message = legal.0.0

  abbrev taken : Message
  taken = record message { place = Held receiver false (link + 1 == servers c); since = s.events }

  taken_is : taken_message c s link (s.message p) ≡ Some taken
  taken_is = ap (taken_message c s link) legal.0.1

  taken_here : (next c s taking).message p ≡ Some taken
  taken_here = with_at_cases (λ v. v ≡ Some taken) s.message p (taken_message c s link (s.message p)) p
      (λ _. taken_is) (λ ne. absurd (ne refl))

  taken_stands : (sent : SentMessage) → IsSentAs c s p message sent → IsSentAs c (next c s taking) p taken sent
  taken_stands sent is = sent_stays c s f taking legal p message taken sent legal.0.1 taken_here refl refl refl refl is

  queued_there : queued_on s link p ≡ Some message
  queued_there = at_place (is_queued_on link) (s.message p) message (Queued link) true legal.0.1 legal.0.2
      (eq-eqb link link refl)

  -- what the oldest message on the link is, and what stays there
  module _ (queue : Queue) (sent : SentMessage) (rest : List SentMessage) (link_was : IsLink c s link queue)
      (first : queue.messages ≡ sent ∷ rest) where
    are : AreArrived since_of origin_of (IsSentAs c s) (queued_on s link) (sent ∷ rest)
    are = subst (AreArrived since_of origin_of (IsSentAs c s) (queued_on s link)) first link_was.queued

    pub oldest_is : sent.origin ≡ p
    oldest_is = first_is since_of origin_of (IsSentAs c s) (queued_on s link) sent rest are p message queued_there
        (λ other old at.
        let both = at_it (is_queued_on link) (s.message other) old at in
        legal.0.3 other old both.0 (link_is link old.place both.1))

    pub oldest_stands : IsSentAs c s p message sent
    oldest_stands =
        let its = there_here since_of origin_of (IsSentAs c s) (queued_on s link) [] sent rest are in
        let same : its.0 ≡ message =
        same_Some its.0 message (sym its.1 ∙ (ap (queued_on s link) oldest_is ∙ queued_there)) in
        subst (λ m. IsSentAs c s p m sent) same (subst (λ o. IsSentAs c s o its.0 sent) oldest_is its.2)

    pub link_taken : IsLink c (next c s taking) link (record queue { messages = rest })
    link_taken = record {
      from = link_was.from;
      gap = link_was.gap;
      queued = goes c s f taking origin_of (is_queued_on link) (IsSentAs c s) (IsSentAs c (next c s taking))
          (queued_keeps c s f taking legal) [] sent rest
          (λ origin. comes_there (is_queued_on link) s.message p (taken_message c s link (s.message p)) None
          (ap (where_it (is_queued_on link)) taken_is) origin
          ∙ ap (λ o. with_at (queued_on s link) o None origin) (sym oldest_is)) are;
    }

  -- the receiver holds it behind the others
  pub held_taken : {A : Type 0} (visited by_ring : A → Bool) (sent : A → SentMessage) (item : A) (items : List A) →
      visited item ≡ false → by_ring item ≡ (link + 1 == servers c) → IsSentAs c s p message (sent item) →
      AreHeld visited by_ring sent c s receiver items →
      AreHeld visited by_ring sent c (next c s taking) receiver (items ++ item ∷ [])
  held_taken visited by_ring sent item items fresh ring is held =
      comes c s f taking (λ x. origin_of (sent x)) (is_held_by receiver)
      (λ origin m x. IsHeldAs c s receiver origin m (visited x) (by_ring x) (sent x))
      (λ origin m x. IsHeldAs c (next c s taking) receiver origin m (visited x) (by_ring x) (sent x))
      (held_keeps c s f taking legal receiver visited by_ring sent) p taken item items
      (at_place (is_held_by receiver) (s.message p) message (Queued link) false legal.0.1 legal.0.2 refl)
      (λ origin. comes_there (is_held_by receiver) s.message p (taken_message c s link (s.message p)) (Some taken)
      (ap (where_it (is_held_by receiver)) taken_is
      ∙ ap (λ (b : Bool). if b then Some taken else None) (eq-eqb receiver receiver refl)) origin)
      refl is.origin_is
      (record {
        place = ap (λ v. Held receiver v (link + 1 == servers c)) (sym fresh) ∙ ap (Held receiver (visited item))
            (sym ring);
        as_sent = taken_stands (sent item) is;
      }) held
