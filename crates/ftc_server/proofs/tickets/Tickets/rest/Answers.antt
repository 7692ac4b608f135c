use Rattle.std.proofs.Common.{◌∙◌, ◌&&◌, ◌||◌, sym, ap, Bool, true, arith}
use Rattle.std.specs.Prelude.{◌==◌, nat_eq}
use Rattle.std.specs.Map.{lookup}
use Rattle.ftc_server.specs.declared.tickets.Ticket.{Ticket}
use Rattle.ftc_server.specs.Holding.{rests}
use Rattle.ftc_server.specs.Tickets.{Ticketing}
use Rattle.ftc_server.proofs.Ticketing.{rising_awake, position_none}
use Rattle.ftc_server.proofs.Resting.{rested_tickets, rested_there, none_rested, origins_stay, still_room, place_within}
use Rattle.ftc_server.proofs.Resting.{changed_of, now_rests, and_true, found_there}
use Rattle.ftc_server.proofs.tickets.Tickets.rest.Goals as goal

pub returns-in_default-clause-resting : goal.returns-in_default-clause-resting
returns-in_default-clause-resting c = λ other.
    let isnt = position_none c.args.self.now.origins c.args.origin (sym c.place_of.ensures.place ∙ c.in_default.is) in
    none_rested (rests other c.args.self.now.resting) (other == c.args.origin)
    ∙ ap (λ (t : Bool). rests other c.args.self.now.resting || ((other == c.args.origin) && t)) (sym isnt)

pub index-requires : goal.index-requires
index-requires c =
    let there = found_there c.args.origin c.self.view_is c.place_of.ensures.place c.in-Some.is in
    let within = place_within c.self.inside.list.items c.in-Some.place c.args.origin there in
    omega (arith, c.self.inside.list.ok)

pub index_mut-requires : goal.index_mut-requires
index_mut-requires c =
    let there = found_there c.args.origin c.self.view_is c.place_of.ensures.place c.in-Some.is in
    let within = place_within c.self.inside.list.items c.in-Some.place c.args.origin there in
    omega (arith, c.self.inside.list.ok)

pub take_number-requires : goal.take_number-requires
take_number-requires c = rw c.self.invariant.0.awake (rising_awake 0 c.self.inside.list.items c.self.invariant.0.rising)

pub invariant_of-self : goal.invariant_of-self
invariant_of-self c =
    let tickets = c.self.inside.list.items in
    let lent = c.index_mut.result.now in
    let there = found_there c.args.origin c.self.view_is c.place_of.ensures.place c.in-Some.is in
    let changed = changed_of tickets c.in-Some.place c.index.result.now lent c.args.origin there c.index.ensures
    c.index_mut.ensures.value in (
      rw (c.take_number.ensures.items, ← ap (λ (t : Ticket). t.number) changed.same)
          (rested_tickets tickets c.in-Some.place lent
          (λ origin. lookup (nat_eq origin) c.self.inside.by_origin.entries)
          c.self.inside.awake.items c.self.inside.next
          c.self.invariant.0 changed.of.within c.index_mut.ensures.value),
      still_room c.self.invariant.1 (omega (arith, c.take_number.ensures.capacity)),
    )

pub returns-clause-origins : goal.returns-clause-origins
returns-clause-origins c =
    origins_stay true c.self.inside.list.items c.in-Some.place c.args.origin c.index_mut.result.now
    (found_there c.args.origin c.self.view_is c.place_of.ensures.place c.in-Some.is) c.index_mut.ensures.value
    ∙ ap (λ (view : Ticketing). view.origins) c.self.view_is

pub returns-clause-resting : goal.returns-clause-resting
returns-clause-resting c = λ other.
    let old = c.args.self.now in
    rested_there c.self.inside.list.items c.in-Some.place c.args.origin other c.index_mut.result.now
    (found_there c.args.origin c.self.view_is c.place_of.ensures.place c.in-Some.is) c.index_mut.ensures.value
    ∙ ap (λ (view : Ticketing). rests other view.resting || (other == c.args.origin)) c.self.view_is
    ∙ ap (λ (t : Bool). rests other old.resting || t) (and_true (other == c.args.origin))
    ∙ ap (λ (t : Bool). rests other old.resting || ((other == c.args.origin) && t))
    (sym (now_rests old.origins c.in-Some.place c.args.origin (sym c.place_of.ensures.place ∙ c.in-Some.is)))
