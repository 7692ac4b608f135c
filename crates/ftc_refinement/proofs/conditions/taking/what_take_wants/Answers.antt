use Rattle.std.proofs.Common.{◌≡◌, ◌≢◌, ◌∙◌, ◌+◌, ◌==◌, ◌<◌, ◌≤◌, ◌⊎◌, ℕ, Bool, false, sym, ap, subst, arith, inl, inr}
use Rattle.std.specs.List.{AllByRecursion}
use Rattle.ftc_message.specs.declared.need.Need.{Need}
use Rattle.ftc_message.specs.Logged.{Logged}
use Rattle.ftc_ring.specs.Ring.{next_of}
use Rattle.ftc_protocol.specs.Setting.{servers, count}
use Rattle.ftc_protocol.specs.State.{Message, Held, Queued}
use Rattle.ftc_server.specs.Holding.{is_held}
use Rattle.ftc_standing.specs.Arrivals.{AreArrived}
use Rattle.ftc_standing.specs.View.{queued_on}
use Rattle.ftc_standing.specs.Stand.{IsSentAs, since_of, origin_of}
use Rattle.ftc_refinement.proofs.TakenMessages.{not_held, begun_open, open_to, of_logs, of_needs, some_oldest}
use Rattle.ftc_refinement.proofs.TakenMessages.{oldest_is}
use Rattle.ftc_refinement.proofs.conditions.taking.what_take_wants.Goals as goal

not_new : (packet entered count more : ℕ) → packet ≡ entered → packet < count →
    (packet < entered) ⊎ ((count ≤ packet) × (packet < count + more)) → ⊥
not_new packet entered count more is few (inl old) = omega (arith, is, old)
not_new packet entered count more is few (inr behind) = omega (arith, few, behind.0)

not_behind : (origin entered count more : ℕ) → origin ≡ count + more → entered ≤ count →
    (origin < entered) ⊎ ((count ≤ origin) × (origin < count + more)) → ⊥
not_behind origin entered count more is most (inl old) = omega (arith, is, most, old)
not_behind origin entered count more is most (inr behind) = omega (arith, is, behind.1)

pub returns-clause-entered : goal.returns-clause-entered
returns-clause-entered c setting state packet old sent run legal begun is =
    let order = c.order_of_a_state.ensures setting state run in (
      subst (λ origin. is_held origin old.held.items ≡ false) (sym begun.origin_is)
          (not_held setting state 0 packet old.held.items is.stands.held (λ message visited by_ring there place.
          not_new packet state.entered (count setting) state.propagates legal.0.0 legal.0.1
          (order.numbered packet message there))),
      begun_open old.id sent false begun.no_logs begun.no_needs,
    )

pub returns-clause-propagated : goal.returns-clause-propagated
returns-clause-propagated c setting state origin old sent run legal begun is =
    let order = c.order_of_a_state.ensures setting state run in (
      subst (λ number. is_held number old.held.items ≡ false) (sym begun.origin_is)
          (not_held setting state 0 origin old.held.items is.stands.held (λ message visited by_ring there place.
          not_behind origin state.entered (count setting) state.propagates legal.0.4 order.entered
          (order.numbered origin message there))),
      begun_open old.id sent false begun.no_logs begun.no_needs,
    )

pub returns-clause-oldest : goal.returns-clause-oldest
returns-clause-oldest c setting state link origin queue run legal linked =
    let some = some_oldest setting state link origin legal.0.0 queue.messages legal.0.1 legal.0.2 linked.queued in (
      some.0,
      some.1,
      some.2,
      c.a_message_is_taken.ensures.origin setting state link origin queue some.0 some.1 run legal
          linked some.2,
    )

not_both : (server link : ℕ) (visited by_ring : Bool) (message other : Message) → message ≡ other →
    message.place ≡ Held server visited by_ring → other.place ≡ Queued link → ⊥
not_both server link visited by_ring message other same held queued =
    absurd (apart (sym held ∙ (ap (λ (m : Message). m.place) same ∙ queued)))
  where
    apart : Held server visited by_ring ≡ Queued link → ⊥
    apart is = absurd cc

less_differs : (a b : ℕ) → a < b → a ≢ b
less_differs a b less same = omega (arith, less, same)

pub returns-clause-received : goal.returns-clause-received
returns-clause-received c setting state link origin queue sent rest old run legal linked first is =
    let message = legal.0.0 in
    let there = legal.0.1 in
    let place = legal.0.2 in
    let receiver = next_of (servers setting) link in
    let named = c.a_message_is_taken.ensures.origin setting state link origin queue sent rest run legal linked first in
    let stands = oldest_is setting state link origin message sent rest there place named
    (subst (AreArrived since_of origin_of (IsSentAs setting state) (queued_on state link)) first linked.queued) in (
      subst (λ number. is_held number old.held.items ≡ false) (sym named)
          (not_held setting state receiver origin old.held.items is.stands.held
          (λ other visited by_ring other_there held.
          let same : other ≡ message = cc in
          not_both receiver link visited by_ring other message same held place)),
      open_to old.id sent (link + 1 == servers setting)
          (subst (λ group. AllByRecursion (λ (log : Logged). log.group ≢ group) sent.logs) (sym is.number_is)
          (of_logs setting state origin message sent (λ group packet. group ≢ receiver) stands
          (c.what_is_queued.ensures.head setting state origin link message run there place)))
          (subst (λ group. AllByRecursion (λ (need : Need). need.group ≢ group) sent.needs) (sym is.number_is)
          (of_needs setting state origin message sent (λ group. group ≢ receiver) stands
          (λ group needs. less_differs group receiver
          (c.what_is_queued.ensures.need setting state origin link message run there place group needs)))),
    )
