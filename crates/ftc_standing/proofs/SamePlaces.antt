-- What an event leaves as it was at the servers and on the links in which it has no part.
use Rattle.std.proofs.Common.{◌≡◌, ◌≢◌, ◌+◌, ◌==◌, ◌||◌, ◌&&◌, ◌∙◌, ℕ, Bool, true, false, not, List, length, Option}
use Rattle.std.proofs.Common.{Some, None, refl, sym, ap, arith, if◌then◌else◌, eq-eqb, eqb-true, inl, inr}
use Rattle.std.specs.List.{list_any}
use Rattle.std.proofs.lemmas.Bool.{ne_eqb, true≢false}
use Rattle.ftc_journal.specs.declared.event.Event.{Event}
use Rattle.ftc_journal.specs.declared.event.Event.TheVariants.{Apply, Carry, Crash, Enter, Lose, Pass, Propagate, Pull}
use Rattle.ftc_journal.specs.declared.event.Event.TheVariants.{Recover, Release, Take, Visit}
use Rattle.ftc_ring.specs.Ring.{next_of}
use Rattle.ftc_serial.specs.Words.{with_at}
use Rattle.ftc_serial.proofs.Functions.{with_at_cases}
use Rattle.ftc_protocol.specs.Setting.{Setting, servers, packet_at}
use Rattle.ftc_protocol.specs.Visits.{no_visits}
use Rattle.ftc_protocol.specs.State.{Where, Held, Queued, Message, Withheld, ChainState}
use Rattle.ftc_protocol.specs.Trace.{has_each}
use Rattle.ftc_protocol.specs.Recovery.{following_live, is_dropped, is_dropped_at, gaps_at}
use Rattle.ftc_protocol.specs.Legal.{IsLegal, is_sent}
use Rattle.ftc_protocol.specs.Next.{next, fresh_message, taken_message, visited_message, visited_at, sent_message}
use Rattle.ftc_protocol.specs.Next.{drop_if, is_at, is_away, withheld_of, outcome_at, is_news}
use Rattle.ftc_ties.specs.Servers.{IsElsewhere}
use Rattle.ftc_ties.proofs.Serving.{IsSteadyState}
use Rattle.ftc_journal.specs.declared.event.VisitName.{VisitName}
use Rattle.ftc_standing.proofs.Arriving.{without_it, is_none}
use Rattle.ftc_standing.specs.View.{is_held_by, is_queued_on, where_it, held_at, queued_on, withheld_at, forwarded_at}
use Rattle.ftc_standing.specs.View.{IsBesideServer, IsBesideLink, IsAsBefore, IsLinkAsBefore}

-- of the messages at a place, where one is changed that isn't and wasn't there
pub not_there : (test : Where → Bool) (message : ℕ → Option Message) (origin : ℕ) (o : Option Message) →
    where_it test (message origin) ≡ None → where_it test o ≡ None → (other : ℕ) →
    where_it test (with_at message origin o other) ≡ where_it test (message other)
not_there test message origin o was is other =
    with_at_cases (λ v. where_it test v ≡ where_it test (message other)) message origin o other
    (λ e. is ∙ sym (ap (λ place. where_it test (message place)) e ∙ was)) (λ ne. refl)

-- where one comes there, or goes
pub comes_there : (test : Where → Bool) (message : ℕ → Option Message) (origin : ℕ) (o v : Option Message) →
    where_it test o ≡ v → (other : ℕ) →
    where_it test (with_at message origin o other)
    ≡ with_at (λ (other : ℕ). where_it test (message other)) origin v other
comes_there test message origin o v is other =
    elim (other == origin) as (λ b. where_it test (if b then o else message other)
    ≡ (if b then v else where_it test (message other))) [
      | true ↦ is
      | false ↦ refl
    ]

-- a message at a place, by the test of its place
pub at_place : (test : Where → Bool) (o : Option Message) (message : Message) (place : Where) (b : Bool) →
    o ≡ Some message → message.place ≡ place → test place ≡ b →
    where_it test o ≡ (if b then Some message else None)
at_place test o message place b there at is =
    ap (where_it test) there
    ∙ (ap (λ (w : Where). if test w then Some message else None) at ∙ ap (λ (x : Bool). if x then Some message
    else None) is)

-- where a test of what goes away says nothing of the place, it makes no difference there
pub drops_none : (test : Where → Bool) (gone : Message → Bool) (o : Option Message) →
    ((message : Message) → test message.place ≡ true → gone message ≡ false) →
    where_it test (drop_if gone o) ≡ where_it test o
drops_none test gone None apart = refl
drops_none test gone (Some message) apart =
    elim (test message.place) as (λ b. test message.place ≡ b →
    where_it test (if gone message then None else Some message) ≡ (if b then Some message else None)) [
      | true ↦ λ e. ap (λ (g : Bool). where_it test (if g then None else Some message)) (apart message e)
          ∙ ap (λ (b : Bool). if b then Some message else None) e
      | false ↦ λ e. elim (gone message) as (λ g. where_it test (if g then None else Some message) ≡ None) [
        | true ↦ refl
        | false ↦ ap (λ (b : Bool). if b then Some message else None) e
      ]
    ] refl

and_not : (b a : Bool) → b ≡ false → (not b && a) ≡ a
and_not b a is = ap (λ x. not x && a) is

pub holder_is : (server : ℕ) (place : Where) → is_held_by server place ≡ true →
    (visited : Bool) × (by_ring : Bool) × (place ≡ Held server visited by_ring)
holder_is server (Held holder visited by_ring) is =
    (visited, by_ring, ap (λ k. Held k visited by_ring) (eqb-true holder server is))
holder_is server (Queued link) is = absurd (never is)
  where
    never : false ≡ true → ⊥
    never e = cc

pub link_is : (link : ℕ) (place : Where) → is_queued_on link place ≡ true → place ≡ Queued link
link_is link (Held holder visited by_ring) is = absurd (never is)
  where
    never : false ≡ true → ⊥
    never e = cc
link_is link (Queued other) is = ap Queued (eqb-true other link is)

module _ (c : Setting) (s : ChainState) (h : IsSteadyState c s) where
  -- a message of a new number isn't there yet
  pub none_entering : (p : ℕ) → IsLegal c s (Enter p) → s.message p ≡ None
  none_entering p legal = is_none (s.message p) (λ m is.
      let own : p ≡ s.entered = legal.0.0 in
      let entered = h.tied.order.entered in
      elim (h.tied.order.numbered p m is) [
        | inl less ↦ omega arith
        | inr both ↦ let first = both.0 in let below = legal.0.1 in omega arith
      ])

  pub none_begun : (p : ℕ) → IsLegal c s (Propagate p) → s.message p ≡ None
  none_begun p legal = is_none (s.message p) (λ m is.
      let own : p ≡ length c.packets + s.propagates = legal.0.4 in
      let entered = h.tied.order.entered in
      elim (h.tied.order.numbered p m is) [
        | inl less ↦ omega arith
        | inr both ↦ let second = both.1 in omega arith
      ])

  -- the event has no part in the server's lists
  pub elsewhere : (e : Event) (server : ℕ) → IsBesideServer c s e server → (group : ℕ) → IsElsewhere c e server group
  elsewhere (Enter p) server beside group = tt
  elsewhere (Take l p) server beside group = beside
  elsewhere (Apply k p j q) server beside group = λ both. beside both.0
  elsewhere (Visit k p w) server beside group = λ both. beside both.0
  elsewhere (Pass k p) server beside group = tt
  elsewhere (Lose k p) server beside group = tt
  elsewhere (Carry p) server beside group = tt
  elsewhere (Crash k) server beside group = beside
  elsewhere (Recover k undone) server beside group = beside.0
  elsewhere (Pull l) server beside group = λ both. beside both.0
  elsewhere (Propagate p) server beside group = tt
  elsewhere (Release p) server beside group = tt

  -- ---- which servers are up

  pub same_up : (e : Event) (server : ℕ) → IsBesideServer c s e server → (next c s e).up server ≡ s.up server
  same_up (Enter p) server beside = refl
  same_up (Take l p) server beside = refl
  same_up (Apply k p j q) server beside = refl
  same_up (Visit k p w) server beside = refl
  same_up (Pass k p) server beside = refl
  same_up (Lose k p) server beside = refl
  same_up (Carry p) server beside = refl
  same_up (Crash k) server beside =
      with_at_cases (λ (b : Bool). b ≡ s.up server) s.up k false server (λ e. absurd (beside e)) (λ ne. refl)
  same_up (Recover k undone) server beside =
      with_at_cases (λ (b : Bool). b ≡ s.up server) s.up k true server (λ e. absurd (beside.0 e)) (λ ne. refl)
  same_up (Pull l) server beside = refl
  same_up (Propagate p) server beside = refl
  same_up (Release p) server beside = refl

  -- ---- held messages

  fresh_elsewhere : (server : ℕ) → server ≢ 0 → (packet : Option (List ℕ)) →
      where_it (is_held_by server) (Some (fresh_message s.events packet)) ≡ None
  fresh_elsewhere server beside packet = ap (λ (b : Bool).
      if b then Some (fresh_message s.events packet) else None) (ne_eqb 0 server (λ e. beside (sym e)))

  pub sent_elsewhere : (k server : ℕ) (o : Option Message) → where_it (is_held_by server) (sent_message c s k o) ≡ None
  sent_elsewhere k server None = refl
  sent_elsewhere k server (Some message) = refl

  pub leaving_elsewhere : (k p : ℕ) (lost : Bool) (server : ℕ) → where_it (is_held_by server)
      (if is_sent c k && not (is_away c s k lost) then sent_message c s k (s.message p) else None) ≡ None
  leaving_elsewhere k p lost server = elim (is_sent c k && not (is_away c s k lost)) as (λ b.
      where_it (is_held_by server) (if b then sent_message c s k (s.message p) else None) ≡ None) [
        | true ↦ sent_elsewhere k server (s.message p)
        | false ↦ refl
      ]

  held_by_other : (server k p : ℕ) (message : Message) (visited by_ring : Bool) → server ≢ k →
      s.message p ≡ Some message → message.place ≡ Held k visited by_ring →
      where_it (is_held_by server) (s.message p) ≡ None
  held_by_other server k p message visited by_ring differs there place =
      at_place (is_held_by server) (s.message p) message (Held k visited by_ring) false there place
      (ne_eqb k server (λ e. differs (sym e)))

  visited_elsewhere : (server k p : ℕ) (message : Message) (by_ring : Bool) → server ≢ k →
      message.place ≡ Held k false by_ring →
      where_it (is_held_by server) (visited_message c k p (outcome_at c s k p) (Some message)) ≡ None
  visited_elsewhere server k p message by_ring differs place =
      ap (λ (w : Where). if is_held_by server (visited_at w) then
      visited_message c k p (outcome_at c s k p) (Some message)
      else None) place
      ∙ ap (λ (b : Bool). if b then visited_message c k p (outcome_at c s k p) (Some message) else None)
      (ne_eqb k server (λ e. differs (sym e)))

  pub same_held : (e : Event) → IsLegal c s e → (server : ℕ) → IsBesideServer c s e server → (origin : ℕ) →
      held_at (next c s e) server origin ≡ held_at s server origin
  same_held (Enter p) legal server beside origin =
      not_there (is_held_by server) s.message p
      (if s.up 0 then Some (fresh_message s.events (Some (packet_at c p))) else s.message p)
      (ap (where_it (is_held_by server)) (none_entering p legal))
      (elim (s.up 0) as (λ b. where_it (is_held_by server)
      (if b then Some (fresh_message s.events (Some (packet_at c p))) else s.message p) ≡ None) [
        | true ↦ fresh_elsewhere server beside (Some (packet_at c p))
        | false ↦ ap (where_it (is_held_by server)) (none_entering p legal)
      ]) origin
  same_held (Take l p) legal server beside origin =
      not_there (is_held_by server) s.message p (taken_message c s l (s.message p))
      (at_place (is_held_by server) (s.message p) legal.0.0 (Queued l) false legal.0.1 legal.0.2 refl)
      (ap (λ o. where_it (is_held_by server) (taken_message c s l o)) legal.0.1
      ∙ ap (λ (b : Bool). if b then taken_message c s l (Some legal.0.0) else None)
      (ne_eqb (next_of (servers c) l) server (λ e. beside (sym e)))) origin
  same_held (Apply k p j q) legal server beside origin = refl
  same_held (Visit k p w) legal server beside origin =
      not_there (is_held_by server) s.message p (visited_message c k p (outcome_at c s k p) (s.message p))
      (held_by_other server k p legal.0.0 false legal.0.2 beside legal.0.3 legal.0.4)
      (ap (λ o. where_it (is_held_by server) (visited_message c k p (outcome_at c s k p) o)) legal.0.3
      ∙ visited_elsewhere server k p legal.0.0 legal.0.2 beside legal.0.4) origin
  same_held (Pass k p) legal server beside origin =
      not_there (is_held_by server) s.message p _
      (held_by_other server k p legal.0.0 legal.0.1.visited false beside legal.0.1.there legal.0.1.held)
      (leaving_elsewhere k p false server) origin
  same_held (Lose k p) legal server beside origin =
      not_there (is_held_by server) s.message p _
      (held_by_other server k p legal.0.0 legal.0.1.visited false beside legal.0.1.there legal.0.1.held)
      (leaving_elsewhere k p true server) origin
  same_held (Carry p) legal server beside origin =
      not_there (is_held_by server) s.message p None
      (held_by_other server 0 p legal.0.0 legal.0.2 true beside legal.0.1 legal.0.3) refl origin
  same_held (Crash k) legal server beside origin =
      drops_none (is_held_by server) (λ message. is_at c k message.place) (s.message origin) (λ message held.
      let at = holder_is server message.place held in
      ap (is_at c k) at.2 ∙ ne_eqb server k beside)
  same_held (Recover k undone) legal server beside origin =
      drops_none (is_held_by server) (is_dropped c s (following_live c s k)) (s.message origin) (λ message held.
      let at = holder_is server message.place held in
      ap (is_dropped_at c s (following_live c s k) message.logs) at.2
      ∙ ap (λ b. b && not (has_each c.partitions s.trace (s.lists (following_live c s k)) message.logs))
      (ne_eqb server (following_live c s k) beside.1))
  same_held (Pull l) legal server beside origin = refl
  same_held (Propagate p) legal server beside origin =
      not_there (is_held_by server) s.message p (Some (fresh_message s.events None))
      (ap (where_it (is_held_by server)) (none_begun p legal)) (fresh_elsewhere server beside None) origin
  same_held (Release p) legal server beside origin = refl

  -- ---- withheld packets

  leaving_buffer : (k p server : ℕ) → server ≢ k → (o : Option Withheld) (packet : ℕ) →
      (if server + 1 == servers c
      then with_at s.withheld p (if k + 1 == servers c then o else s.withheld p) packet else None)
      ≡ withheld_at c s server packet
  leaving_buffer k p server differs o packet =
      elim (server + 1 == servers c) as (λ b. server + 1 == servers c ≡ b →
      (if b then with_at s.withheld p (if k + 1 == servers c then o else s.withheld p) packet else None)
      ≡ (if b then s.withheld packet else None)) [
        | true ↦ λ e.
            let last : server + 1 ≡ servers c = eqb-true (server + 1) (servers c) e in
            with_at_cases (λ v. v ≡ s.withheld packet) s.withheld p
            (if k + 1 == servers c then o else s.withheld p) packet
            (λ same. ap (λ (b : Bool). if b then o else s.withheld p)
            (ne_eqb (k + 1) (servers c) (λ f. differs (omega (arith, f, last)))) ∙ ap s.withheld (sym same))
            (λ ne. refl)
        | false ↦ λ e. refl
      ] refl

  pub same_withheld : (e : Event) → (server : ℕ) → IsBesideServer c s e server → (packet : ℕ) →
      withheld_at c (next c s e) server packet ≡ withheld_at c s server packet
  same_withheld (Enter p) server beside packet = refl
  same_withheld (Take l p) server beside packet = refl
  same_withheld (Apply k p j q) server beside packet = refl
  same_withheld (Visit k p w) server beside packet = refl
  same_withheld (Pass k p) server beside packet =
      leaving_buffer k p server beside (withheld_of s (s.message p)) packet
  same_withheld (Lose k p) server beside packet =
      leaving_buffer k p server beside (withheld_of s (s.message p)) packet
  same_withheld (Carry p) server beside packet = refl
  same_withheld (Crash k) server beside packet =
      elim (server + 1 == servers c) as (λ b. server + 1 == servers c ≡ b →
      (if b then (if k + 1 == servers c then None else s.withheld packet) else None)
      ≡ (if b then s.withheld packet else None)) [
        | true ↦ λ e.
            let last : server + 1 ≡ servers c = eqb-true (server + 1) (servers c) e in
            ap (λ (b : Bool). if b then None else s.withheld packet)
            (ne_eqb (k + 1) (servers c) (λ f. beside (omega (arith, f, last))))
        | false ↦ λ e. refl
      ] refl
  same_withheld (Recover k undone) server beside packet = refl
  same_withheld (Pull l) server beside packet = refl
  same_withheld (Propagate p) server beside packet = refl
  same_withheld (Release p) server beside packet =
      ap (λ (b : Bool). if b then with_at s.withheld p None packet else None) not_last
      ∙ sym (ap (λ (b : Bool). if b then s.withheld packet else None) not_last)
    where
      not_last : server + 1 == servers c ≡ false
      not_last = ne_eqb (server + 1) (servers c) (λ e. beside (omega (arith, e)))

  -- ---- the forwarder

  leaving_forwarder : (k server : ℕ) → server ≢ k → (group packet : ℕ) →
      (if server == 0 then (λ group packet. not (k == 0) && s.forwarder group packet) else no_visits) group packet
      ≡ forwarded_at s server group packet
  leaving_forwarder k server differs group packet =
      elim (server == 0) as (λ b. server == 0 ≡ b →
      (if b then (λ group packet. not (k == 0) && s.forwarder group packet) else no_visits) group packet
      ≡ (if b then s.forwarder else no_visits) group packet) [
        | true ↦ λ e. and_not (k == 0) (s.forwarder group packet)
            (ne_eqb k 0 (λ f. differs (eqb-true server 0 e ∙ sym f)))
        | false ↦ λ e. refl
      ] refl

  pub same_forwarded : (e : Event) → (server : ℕ) → IsBesideServer c s e server → (group packet : ℕ) →
      forwarded_at (next c s e) server group packet ≡ forwarded_at s server group packet
  same_forwarded (Enter p) server beside group packet = refl
  same_forwarded (Take l p) server beside group packet = refl
  same_forwarded (Apply k p j q) server beside group packet = refl
  same_forwarded (Visit k p w) server beside group packet = refl
  same_forwarded (Pass k p) server beside group packet = leaving_forwarder k server beside group packet
  same_forwarded (Lose k p) server beside group packet = leaving_forwarder k server beside group packet
  same_forwarded (Carry p) server beside group packet =
      ap (λ (b : Bool). (if b then (next c s (Carry p)).forwarder else no_visits) group packet) (ne_eqb server 0 beside)
      ∙ sym (ap (λ (b : Bool). (if b then s.forwarder else no_visits) group packet) (ne_eqb server 0 beside))
  same_forwarded (Crash k) server beside group packet = leaving_forwarder k server beside group packet
  same_forwarded (Recover k undone) server beside group packet = refl
  same_forwarded (Pull l) server beside group packet = refl
  same_forwarded (Propagate p) server beside group packet = refl
  same_forwarded (Release p) server beside group packet = refl

  pub server_as_before : (e : Event) → IsLegal c s e → (server : ℕ) → IsBesideServer c s e server →
      IsAsBefore c s (next c s e) server
  server_as_before e legal server beside = record {
    up = same_up e server beside;
    held = same_held e legal server beside;
    withheld = same_withheld e server beside;
    forwarded = same_forwarded e server beside;
  }

  -- ---- links

  fresh_unqueued : (link : ℕ) (packet : Option (List ℕ)) →
      where_it (is_queued_on link) (Some (fresh_message s.events packet)) ≡ None
  fresh_unqueued link packet = refl

  held_unqueued : (link k p : ℕ) (message : Message) (visited by_ring : Bool) → s.message p ≡ Some message →
      message.place ≡ Held k visited by_ring → where_it (is_queued_on link) (s.message p) ≡ None
  held_unqueued link k p message visited by_ring there place =
      at_place (is_queued_on link) (s.message p) message (Held k visited by_ring) false there place refl

  visited_unqueued : (link k p : ℕ) (message : Message) (by_ring : Bool) → message.place ≡ Held k false by_ring →
      where_it (is_queued_on link) (visited_message c k p (outcome_at c s k p) (Some message)) ≡ None
  visited_unqueued link k p message by_ring place =
      ap (λ (w : Where). if is_queued_on link (visited_at w) then
      visited_message c k p (outcome_at c s k p) (Some message)
      else None) place

  sent_unqueued : (k link : ℕ) → link ≢ k → (o : Option Message) →
      where_it (is_queued_on link) (sent_message c s k o) ≡ None
  sent_unqueued k link differs None = refl
  sent_unqueued k link differs (Some message) =
      ap (λ (b : Bool). if b then sent_message c s k (Some message) else None) (ne_eqb k link (λ e. differs (sym e)))

  leaving_unqueued : (k p : ℕ) (lost : Bool) (link : ℕ) → link ≢ k → where_it (is_queued_on link)
      (if is_sent c k && not (is_away c s k lost) then sent_message c s k (s.message p) else None) ≡ None
  leaving_unqueued k p lost link differs = elim (is_sent c k && not (is_away c s k lost)) as (λ b.
      where_it (is_queued_on link) (if b then sent_message c s k (s.message p) else None) ≡ None) [
        | true ↦ sent_unqueued k link differs (s.message p)
        | false ↦ refl
      ]

  pub same_queued : (e : Event) → IsLegal c s e → (link : ℕ) → IsBesideLink c s e link → (origin : ℕ) →
      queued_on (next c s e) link origin ≡ queued_on s link origin
  same_queued (Enter p) legal link beside origin =
      not_there (is_queued_on link) s.message p
      (if s.up 0 then Some (fresh_message s.events (Some (packet_at c p))) else s.message p)
      (ap (where_it (is_queued_on link)) (none_entering p legal))
      (elim (s.up 0) as (λ b. where_it (is_queued_on link)
      (if b then Some (fresh_message s.events (Some (packet_at c p))) else s.message p) ≡ None) [
        | true ↦ refl
        | false ↦ ap (where_it (is_queued_on link)) (none_entering p legal)
      ]) origin
  same_queued (Take l p) legal link beside origin =
      not_there (is_queued_on link) s.message p (taken_message c s l (s.message p))
      (at_place (is_queued_on link) (s.message p) legal.0.0 (Queued l) false legal.0.1 legal.0.2
      (ne_eqb l link (λ e. beside (sym e))))
      (ap (λ o. where_it (is_queued_on link) (taken_message c s l o)) legal.0.1) origin
  same_queued (Apply k p j q) legal link beside origin = refl
  same_queued (Visit k p w) legal link beside origin =
      not_there (is_queued_on link) s.message p (visited_message c k p (outcome_at c s k p) (s.message p))
      (held_unqueued link k p legal.0.0 false legal.0.2 legal.0.3 legal.0.4)
      (ap (λ o. where_it (is_queued_on link) (visited_message c k p (outcome_at c s k p) o)) legal.0.3
      ∙ visited_unqueued link k p legal.0.0 legal.0.2 legal.0.4) origin
  same_queued (Pass k p) legal link beside origin =
      not_there (is_queued_on link) s.message p _
      (held_unqueued link k p legal.0.0 legal.0.1.visited false legal.0.1.there legal.0.1.held)
      (leaving_unqueued k p false link beside) origin
  same_queued (Lose k p) legal link beside origin =
      not_there (is_queued_on link) s.message p _
      (held_unqueued link k p legal.0.0 legal.0.1.visited false legal.0.1.there legal.0.1.held)
      (leaving_unqueued k p true link beside) origin
  same_queued (Carry p) legal link beside origin =
      not_there (is_queued_on link) s.message p None
      (held_unqueued link 0 p legal.0.0 legal.0.2 true legal.0.1 legal.0.3) refl origin
  same_queued (Crash k) legal link beside origin =
      drops_none (is_queued_on link) (λ message. is_at c k message.place) (s.message origin) (λ message queued.
      ap (is_at c k) (link_is link message.place queued) ∙ ne_eqb (next_of (servers c) link) k beside)
  same_queued (Recover k undone) legal link beside origin =
      drops_none (is_queued_on link) (is_dropped c s (following_live c s k)) (s.message origin) (λ message queued.
      ap (is_dropped_at c s (following_live c s k) message.logs) (link_is link message.place queued)
      ∙ ne_eqb (next_of (servers c) link) (following_live c s k) beside.3)
  same_queued (Pull l) legal link beside origin = refl
  same_queued (Propagate p) legal link beside origin =
      not_there (is_queued_on link) s.message p (Some (fresh_message s.events None))
      (ap (where_it (is_queued_on link)) (none_begun p legal)) refl origin
  same_queued (Release p) legal link beside origin = refl

  or_three : (a b d : Bool) → b ≡ false → d ≡ false → (a || b || d) ≡ a
  or_three true b d first second = refl
  or_three false b d first second = ap (λ x. x || d) first ∙ second

  pub same_gap : (e : Event) → (link : ℕ) → IsBesideLink c s e link → (next c s e).gap link ≡ s.gap link
  same_gap (Enter p) link beside = refl
  same_gap (Take l p) link beside = refl
  same_gap (Apply k p j q) link beside = refl
  same_gap (Visit k p w) link beside = refl
  same_gap (Pass k p) link beside =
      with_at_cases (λ (b : Bool). b ≡ s.gap link) s.gap k _ link (λ e. absurd (beside e)) (λ ne. refl)
  same_gap (Lose k p) link beside =
      with_at_cases (λ (b : Bool). b ≡ s.gap link) s.gap k _ link (λ e. absurd (beside e)) (λ ne. refl)
  same_gap (Carry p) link beside = refl
  same_gap (Crash k) link beside = refl
  same_gap (Recover k undone) link beside =
      or_three (gaps_at c s.gap k link) (link == following_live c s k)
      (next_of (servers c) link == following_live c s k) (ne_eqb link (following_live c s k) beside.2)
      (ne_eqb (next_of (servers c) link) (following_live c s k) beside.3)
      ∙ or_three (s.gap link) (link == k) (next_of (servers c) link == k) (ne_eqb link k beside.0)
      (ne_eqb (next_of (servers c) link) k beside.1)
  same_gap (Pull l) link beside =
      ap (λ (b : Bool). if b then false else (if link == next_of (servers c) l then news l else s.gap link))
      (ne_eqb link l beside.0)
      ∙ ap (λ (b : Bool). if b then news l else s.gap link) (ne_eqb link (next_of (servers c) l) beside.1)
    where
      news : ℕ → Bool
      news l = s.gap (next_of (servers c) l)
          || list_any (is_news c s l (next_of (servers c) l)) s.trace
  same_gap (Propagate p) link beside = refl
  same_gap (Release p) link beside = refl

  pub link_as_before : (e : Event) → IsLegal c s e → (link : ℕ) → IsBesideLink c s e link →
      IsLinkAsBefore s (next c s e) link
  link_as_before e legal link beside = record {
    queued = same_queued e legal link beside;
    gap = same_gap e link beside;
  }

-- what is queued to a server that crashes goes away
pub crash_empties : (c : Setting) (s : ChainState) (k link : ℕ) → next_of (servers c) link ≡ k → (origin : ℕ) →
    queued_on (next c s (Crash k)) link origin ≡ None
crash_empties c s k link ends origin = gone (s.message origin)
  where
    gone : (o : Option Message) →
        where_it (is_queued_on link) (drop_if (λ message. is_at c k message.place) o) ≡ None
    gone None = refl
    gone (Some message) = elim (is_at c k message.place) as (λ b. is_at c k message.place ≡ b →
        where_it (is_queued_on link) (if b then None else Some message) ≡ None) [
          | true ↦ λ e. refl
          | false ↦ λ e. elim (is_queued_on link message.place) as (λ b. is_queued_on link message.place ≡ b →
              (if b then Some message else None) ≡ None) [
                | true ↦ λ queued. absurd (true≢false (sym (eq-eqb (next_of (servers c) link) k ends)
                    ∙ (sym (ap (is_at c k) (link_is link message.place queued)) ∙ e)))
                | false ↦ λ _. refl
              ] refl
        ] refl

-- what is queued to the live server after one that is replaced goes away
pub recovery_empties : (c : Setting) (s : ChainState) (k : ℕ) (undone : List VisitName) (link : ℕ) →
    next_of (servers c) link ≡ following_live c s k → (origin : ℕ) →
    queued_on (next c s (Recover k undone)) link origin ≡ None
recovery_empties c s k undone link ends origin = gone (s.message origin)
  where
    gone : (o : Option Message) →
        where_it (is_queued_on link) (drop_if (is_dropped c s (following_live c s k)) o) ≡ None
    gone None = refl
    gone (Some message) = elim (is_dropped c s (following_live c s k) message) as (λ b.
        is_dropped c s (following_live c s k) message ≡ b →
        where_it (is_queued_on link) (if b then None else Some message) ≡ None) [
          | true ↦ λ e. refl
          | false ↦ λ e. elim (is_queued_on link message.place) as (λ b. is_queued_on link message.place ≡ b →
              (if b then Some message else None) ≡ None) [
                | true ↦ λ queued. absurd
                    (true≢false (sym (eq-eqb (next_of (servers c) link) (following_live c s k) ends)
                    ∙ (sym (ap (is_dropped_at c s (following_live c s k) message.logs)
                    (link_is link message.place queued)) ∙ e)))
                | false ↦ λ _. refl
              ] refl
        ] refl

-- and what is queued to another stays
pub recovery_keeps : (c : Setting) (s : ChainState) (k : ℕ) (undone : List VisitName) (link : ℕ) →
    next_of (servers c) link ≢ following_live c s k → (origin : ℕ) →
    queued_on (next c s (Recover k undone)) link origin ≡ queued_on s link origin
recovery_keeps c s k undone link differs origin =
    drops_none (is_queued_on link) (is_dropped c s (following_live c s k)) (s.message origin) (λ message queued.
    ap (is_dropped_at c s (following_live c s k) message.logs) (link_is link message.place queued)
    ∙ ne_eqb (next_of (servers c) link) (following_live c s k) differs)

-- of what the live server after holds, what isn't ready goes away
pub recovery_drops : (c : Setting) (s : ChainState) (k : ℕ) (undone : List VisitName) (origin : ℕ) →
    held_at (next c s (Recover k undone)) (following_live c s k) origin
    ≡ without_it (λ message. not (has_each c.partitions s.trace (s.lists (following_live c s k)) message.logs))
    (held_at s (following_live c s k) origin)
recovery_drops c s k undone origin = left (s.message origin)
  where
    left : (o : Option Message) →
        where_it (is_held_by (following_live c s k)) (drop_if (is_dropped c s (following_live c s k)) o)
        ≡ without_it (λ message. not (has_each c.partitions s.trace (s.lists (following_live c s k)) message.logs))
        (where_it (is_held_by (following_live c s k)) o)
    left None = refl
    left (Some message) = elim (is_held_by (following_live c s k) message.place) as (λ b.
        is_held_by (following_live c s k) message.place ≡ b →
        where_it (is_held_by (following_live c s k))
        (if is_dropped c s (following_live c s k) message then None else Some message)
        ≡ without_it (λ message. not (has_each c.partitions s.trace (s.lists (following_live c s k)) message.logs))
        (if b then Some message else None)) [
          | true ↦ λ held.
              let at = holder_is (following_live c s k) message.place held in
              let dropped : is_dropped c s (following_live c s k) message
              ≡ not (has_each c.partitions s.trace (s.lists (following_live c s k)) message.logs) =
              ap (is_dropped_at c s (following_live c s k) message.logs) at.2
              ∙ ap (λ (b : Bool). b && not
              (has_each c.partitions s.trace (s.lists (following_live c s k)) message.logs))
              (eq-eqb (following_live c s k) (following_live c s k) refl) in
              ap (λ (b : Bool). where_it (is_held_by (following_live c s k)) (if b then None else Some message)) dropped
              ∙ kept_where (not (has_each c.partitions s.trace (s.lists (following_live c s k)) message.logs)) held
          | false ↦ λ other. elim (is_dropped c s (following_live c s k) message) as (λ d.
              where_it (is_held_by (following_live c s k)) (if d then None else Some message) ≡ None) [
                | true ↦ refl
                | false ↦ ap (λ (b : Bool). if b then Some message else None) other
              ]
        ] refl
      where
        kept_where : (d : Bool) → is_held_by (following_live c s k) message.place ≡ true →
            where_it (is_held_by (following_live c s k)) (if d then None else Some message)
            ≡ (if d then None else Some message)
        kept_where true held = refl
        kept_where false held = ap (λ (b : Bool). if b then Some message else None) held
