use Rattle.std.proofs.Common.{◌∙◌, ◌&&◌, not, sym, ap, ℕ, false, length, arith}
use Rattle.std.proofs.lemmas.Bool.{not-true, not-false}
use Rattle.std.specs.Prelude.{◌==◌, nat_eq}
use Rattle.std.specs.Map.{lookup}
use Rattle.ftc_server.specs.declared.tickets.Ticket.{Ticket}
use Rattle.ftc_server.specs.Holding.{rests}
use Rattle.ftc_server.specs.Tickets.{Ticketing, is_among, resting_origins}
use Rattle.ftc_server.proofs.Ticketing.{agree, none_resting, rising_awake, position_none}
use Rattle.ftc_server.proofs.Resting.{roused_tickets, roused_there, none_roused, origins_stay, still_room, place_within}
use Rattle.ftc_server.proofs.Resting.{changed_of, agrees_at, ticket_of, not_awake, fewer_awake, found_there}
use Rattle.ftc_server.proofs.tickets.Tickets.rouse.Goals as goal

pub returns-in_default-clause-resting : goal.returns-in_default-clause-resting
returns-in_default-clause-resting c = λ other.
    let origin = c.args.origin in
    let isnt = ap (λ (view : Ticketing). is_among origin view.origins) c.self.view_is
    ∙ position_none c.args.self.now.origins origin (sym c.place_of.ensures.place ∙ c.in_default.is) in
    none_roused c.args.self.now.resting origin other
    (sym (ap (λ (view : Ticketing). rests origin view.resting) c.self.view_is)
    ∙ none_resting c.self.inside.list.items origin isnt)

pub index-ticket-requires : goal.index-ticket-requires
index-ticket-requires c =
    let there = found_there c.args.origin c.self.view_is c.place_of.ensures.place c.in-Some.is in
    let within = place_within c.self.inside.list.items c.in-Some.place c.args.origin there in
    omega (arith, c.self.inside.list.ok)

pub returns-then-not-ticket-clause-resting : goal.returns-then-not-ticket-clause-resting
returns-then-not-ticket-clause-resting c = λ other.
    let tickets = c.self.inside.list.items in
    let origin = c.args.origin in
    let ticket = c.index-ticket.result.now in
    let there = found_there c.args.origin c.self.view_is c.place_of.ensures.place c.in-Some.is in
    let of = ticket_of tickets c.in-Some.place ticket origin there c.index-ticket.ensures in
    none_roused c.args.self.now.resting origin other
    (sym (ap (λ (view : Ticketing). rests origin view.resting) c.self.view_is)
    ∙ sym (ap (λ (o : ℕ). rests o (resting_origins tickets)) of.same)
    ∙ agrees_at (resting_origins tickets) tickets c.in-Some.place ticket (agree tickets c.self.invariant.0.distinct)
    of.within of.is
    ∙ not-true ticket.rests c.if-not-ticket.true)

pub index_mut-requires : goal.index_mut-requires
index_mut-requires c =
    let there = found_there c.args.origin c.self.view_is c.place_of.ensures.place c.in-Some.is in
    let within = place_within c.self.inside.list.items c.in-Some.place c.args.origin there in
    omega (arith, c.self.inside.list.ok)

pub put_number-requires-clause-rising : goal.put_number-requires-clause-rising
put_number-requires-clause-rising c =
    rw c.self.invariant.0.awake (rising_awake 0 c.self.inside.list.items c.self.invariant.0.rising)

pub put_number-requires-clause-new : goal.put_number-requires-clause-new
put_number-requires-clause-new c =
    let tickets = c.self.inside.list.items in
    let ticket = c.index-ticket.result.now in
    let there = found_there c.args.origin c.self.view_is c.place_of.ensures.place c.in-Some.is in
    let within = place_within tickets c.in-Some.place c.args.origin there in
    ap (is_among ticket.number) c.self.invariant.0.awake
    ∙ not_awake 0 tickets c.in-Some.place ticket c.self.invariant.0.rising within c.index-ticket.ensures
    (not-false ticket.rests c.if-not-ticket.false)

pub put_number-requires-clause-room : goal.put_number-requires-clause-room
put_number-requires-clause-room c =
    let tickets = c.self.inside.list.items in
    let ticket = c.index-ticket.result.now in
    let there = found_there c.args.origin c.self.view_is c.place_of.ensures.place c.in-Some.is in
    let within = place_within tickets c.in-Some.place c.args.origin there in
    let fewer = fewer_awake tickets c.in-Some.place ticket within c.index-ticket.ensures
    (not-false ticket.rests c.if-not-ticket.false) in
    omega (
      arith,
      fewer,
      ap length c.self.invariant.0.awake,
      c.self.inside.list.ok,
      c.self.inside.awake.ok,
      c.self.invariant.1.awake,
    )

pub invariant_of-self : goal.invariant_of-self
invariant_of-self c =
    let tickets = c.self.inside.list.items in
    let lent = c.index_mut.result.now in
    let there = found_there c.args.origin c.self.view_is c.place_of.ensures.place c.in-Some.is in
    let changed = changed_of tickets c.in-Some.place c.index-ticket.result.now lent c.args.origin there
    c.index-ticket.ensures c.index_mut.ensures.value in (
      rw (c.put_number.ensures.items, ← ap (λ (t : Ticket). t.number) changed.same)
          (roused_tickets tickets c.in-Some.place lent
          (λ origin. lookup (nat_eq origin) c.self.inside.by_origin.entries)
          c.self.inside.awake.items c.self.inside.next
          c.self.invariant.0 changed.of.within c.index_mut.ensures.value
          (ap (λ (t : Ticket). t.rests) changed.same
          ∙ not-false c.index-ticket.result.now.rests c.if-not-ticket.false)),
      still_room c.self.invariant.1 c.put_number.ensures.capacity,
    )

pub returns-clause-origins : goal.returns-clause-origins
returns-clause-origins c =
    origins_stay false c.self.inside.list.items c.in-Some.place c.args.origin c.index_mut.result.now
    (found_there c.args.origin c.self.view_is c.place_of.ensures.place c.in-Some.is) c.index_mut.ensures.value
    ∙ ap (λ (view : Ticketing). view.origins) c.self.view_is

pub returns-clause-resting : goal.returns-clause-resting
returns-clause-resting c = λ other.
    let tickets = c.self.inside.list.items in
    let lent = c.index_mut.result.now in
    let there = found_there c.args.origin c.self.view_is c.place_of.ensures.place c.in-Some.is in
    let changed = changed_of tickets c.in-Some.place c.index-ticket.result.now lent c.args.origin there
    c.index-ticket.ensures c.index_mut.ensures.value in
    roused_there tickets c.in-Some.place c.args.origin other lent there c.index_mut.ensures.value
    c.self.invariant.0.distinct
    (ap (λ (t : Ticket). t.rests) changed.same ∙ not-false c.index-ticket.result.now.rests c.if-not-ticket.false)
    ∙ ap (λ (view : Ticketing). rests other view.resting && not (other == c.args.origin)) c.self.view_is
