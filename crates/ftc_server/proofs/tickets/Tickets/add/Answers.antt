use Rattle.std.proofs.Common.{◌≡◌, ◌∙◌, sym, ap, length, false, arith, refl, ◌++◌, ◌∷◌, []}
use Rattle.std.specs.Map.{lookup}
use Rattle.std.specs.Prelude.{nat_eq}
use Rattle.ftc_server.specs.declared.tickets.Ticket.{Ticket}
use Rattle.ftc_server.specs.Holding.{rests}
use Rattle.ftc_server.specs.Tickets.{Ticketing, is_among, ticket_origins, resting_origins}
use Rattle.ftc_server.proofs.Ascending.{few_awake}
use Rattle.ftc_server.proofs.Ticketing.{none_resting, more_tickets, origins_behind, resting_behind}
use Rattle.ftc_server.proofs.tickets.Tickets.add.Goals as goal

pub push_back_reserved-requires-2 : goal.push_back_reserved-requires-2
push_back_reserved-requires-2 c =
    let few = few_awake c.self.inside.list.items in
    let spare = ap (λ (view : Ticketing). view.spare) c.self.view_is in
    omega (
      arith,
      few,
      spare,
      c.self.invariant.1.awake,
      ap length c.self.invariant.0.awake,
      c.self.inside.list.ok,
      c.self.inside.awake.ok,
    )

pub invariant_of-self : goal.invariant_of-self
invariant_of-self c =
    let tickets = c.self.inside.list.items in
    let ticket : Ticket = record { number = c.self.inside.next; origin = c.args.origin; rests = false } in
    let new = ap (λ (view : Ticketing). is_among c.args.origin view.origins) c.self.view_is ∙ c.requires.new in
    let put = rw c.unwrap.ensures at c.insert-put.ensures.updates in
    let spare = ap (λ (view : Ticketing). view.spare) c.self.view_is in (
      rw (c.push_back_reserved.ensures.items, c.push_back_reserved-2.ensures.items)
          (more_tickets tickets ticket (λ origin. lookup (nat_eq origin) c.self.inside.by_origin.entries)
          (λ origin. lookup (nat_eq origin) c.insert-put.new.self.entries)
          c.self.inside.awake.items c.self.invariant.0 new
          refl put.0),
      record {
        list = omega (arith, spare, c.self.invariant.1.list);
        awake = omega (arith, spare, c.self.invariant.1.awake);
        map = omega (arith, spare, c.self.invariant.1.map, c.insert-put.ensures.spare);
        left = omega (arith, spare, c.self.invariant.1.left);
      },
    )

pub returns-clause-origins : goal.returns-clause-origins
returns-clause-origins c =
    let ticket : Ticket = record { number = c.self.inside.next; origin = c.args.origin; rests = false } in
    ap ticket_origins c.push_back_reserved.ensures.items ∙ origins_behind c.self.inside.list.items ticket
    ∙ ap (λ (view : Ticketing). view.origins ++ c.args.origin ∷ []) c.self.view_is

pub returns-clause-resting : goal.returns-clause-resting
returns-clause-resting c =
    let ticket : Ticket = record { number = c.self.inside.next; origin = c.args.origin; rests = false } in
    ap resting_origins c.push_back_reserved.ensures.items ∙ resting_behind c.self.inside.list.items ticket refl
    ∙ ap (λ (view : Ticketing). view.resting) c.self.view_is

pub returns-clause-awake : goal.returns-clause-awake
returns-clause-awake c =
    let origin = c.args.origin in
    let none : is_among origin (ticket_origins c.self.inside.list.items) ≡ false =
    ap (λ (tickets : Ticketing). is_among origin tickets.origins) c.self.view_is ∙ c.requires.new in
    ap (rests origin) (returns-clause-resting c)
    ∙ (sym (ap (λ (tickets : Ticketing). rests origin tickets.resting) c.self.view_is)
    ∙ none_resting c.self.inside.list.items origin none)
