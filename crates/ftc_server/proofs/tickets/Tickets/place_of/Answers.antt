use Rattle.std.proofs.Common.{◌∙◌, sym, ap}
use Rattle.std.specs.List.{position}
use Rattle.ftc_server.specs.Holding.{rests}
use Rattle.ftc_server.specs.Tickets.{Ticketing, is_same}
use Rattle.ftc_server.proofs.Ticketing.{none_placed_of, placed_of, absent}
use Rattle.ftc_server.proofs.tickets.Tickets.place_of.Goals as goal

pub returns-in_err-number-clause-place : goal.returns-in_err-number-clause-place
returns-in_err-number-clause-place c =
    let none = sym (c.self.invariant.0.numbers c.args.origin) ∙ sym c.in_err-number.ensures.value in
    c.from_residual-in_err-number.ensures ∙ sym (none_placed_of c.self.inside.list.items c.args.origin none)
    ∙ ap (λ (tickets : Ticketing). position (is_same c.args.origin) tickets.origins) c.self.view_is

pub returns-in_err-number-clause-none : goal.returns-in_err-number-clause-none
returns-in_err-number-clause-none c = λ none.
    let is = sym (c.self.invariant.0.numbers c.args.origin) ∙ sym c.in_err-number.ensures.value in
    sym (ap (λ (tickets : Ticketing). rests c.args.origin tickets.resting) c.self.view_is)
    ∙ absent c.self.inside.list.items c.args.origin c.from_residual-in_err-number.result
    (c.from_residual-in_err-number.ensures ∙ sym (none_placed_of c.self.inside.list.items c.args.origin is)) none

pub returns-clause-place : goal.returns-clause-place
returns-clause-place c =
    let number = c.in_ok-number.field-0.now in
    let there = sym (c.self.invariant.0.numbers c.args.origin) ∙ sym c.in_ok-number.ensures.value in
    c.place_of_number.ensures
    ∙ placed_of 0 c.self.inside.list.items c.args.origin number c.self.invariant.0.rising there
    ∙ ap (λ (tickets : Ticketing). position (is_same c.args.origin) tickets.origins) c.self.view_is

pub returns-clause-none : goal.returns-clause-none
returns-clause-none c = λ none.
    let number = c.in_ok-number.field-0.now in
    let there = sym (c.self.invariant.0.numbers c.args.origin) ∙ sym c.in_ok-number.ensures.value in
    sym (ap (λ (tickets : Ticketing). rests c.args.origin tickets.resting) c.self.view_is)
    ∙ absent c.self.inside.list.items c.args.origin c.place_of_number.result
    (c.place_of_number.ensures
    ∙ placed_of 0 c.self.inside.list.items c.args.origin number c.self.invariant.0.rising there) none
