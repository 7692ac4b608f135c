use Rattle.std.proofs.Common.{◌≡◌, ◌∙◌, ◌<◌, ◌&&◌, not, ap, length, ℕ, true, false, arith}
use Rattle.std.specs.Prelude.{◌==◌, slice_index, nat_eq}
use Rattle.std.specs.Map.{lookup}
use Rattle.std.specs.List.{remove}
use Rattle.ftc_server.specs.Holding.{rests}
use Rattle.ftc_server.specs.Tickets.{Ticketing, ticket_origins, resting_origins}
use Rattle.ftc_server.proofs.Ticketing.{rising_awake}
use Rattle.ftc_server.proofs.Leaving.{fewer_tickets, origins_removed, rests_removed, origin_is, count_origins}
use Rattle.ftc_server.proofs.tickets.Tickets.take_out.Goals as goal

pub unreachable-requires : goal.unreachable-requires
unreachable-requires c =
    let size = ap (λ (view : Ticketing). length view.origins) c.self.view_is in
    let some : false ≡ true = c.in_default.ensures.variant.1
    (omega (arith, size, count_origins c.self.inside.list.items, c.requires, c.self.inside.list.ok)) in
    absurd cc

pub take_number-requires : goal.take_number-requires
take_number-requires c = rw c.self.invariant.0.awake (rising_awake 0 c.self.inside.list.items c.self.invariant.0.rising)

pub invariant_of-self : goal.invariant_of-self
invariant_of-self c =
    let tickets = c.self.inside.list.items in
    let size = ap (λ (view : Ticketing). length view.origins) c.self.view_is in
    let within : c.args.place < length tickets = omega (arith, size, count_origins tickets, c.requires) in (
      rw (c.in-Some.ensures.items, c.take_number.ensures.items)
          (fewer_tickets tickets c.args.place c.in-Some.ticket
          (λ origin. lookup (nat_eq origin) c.self.inside.by_origin.entries)
          (λ origin. lookup (nat_eq origin) c.remove-2.new.self.entries) c.self.inside.awake.items c.self.inside.next
          c.self.invariant.0 within c.in-Some.ensures.value c.remove-2.ensures.updates.0),
      record {
        list = omega (arith, c.self.invariant.1.list, c.in-Some.ensures.len, c.remove.ensures.capacity);
        awake = omega (arith, c.self.invariant.1.awake, c.in-Some.ensures.len, c.take_number.ensures.capacity);
        map = omega (arith, c.self.invariant.1.map, c.remove-2.ensures.spare);
        left = c.self.invariant.1.left;
      },
    )

pub returns-clause-origins : goal.returns-clause-origins
returns-clause-origins c =
    let tickets = c.self.inside.list.items in
    let size = ap (λ (view : Ticketing). length view.origins) c.self.view_is in
    let within : c.args.place < length tickets = omega (arith, size, count_origins tickets, c.requires) in
    ap ticket_origins c.in-Some.ensures.items ∙ origins_removed tickets c.args.place within
    ∙ ap (λ (view : Ticketing). remove view.origins c.args.place) c.self.view_is

pub returns-clause-resting : goal.returns-clause-resting
returns-clause-resting c = λ other.
    let tickets = c.self.inside.list.items in
    let size = ap (λ (view : Ticketing). length view.origins) c.self.view_is in
    let within : c.args.place < length tickets = omega (arith, size, count_origins tickets, c.requires) in
    ap (λ (items : _). rests other (resting_origins items)) c.in-Some.ensures.items
    ∙ rests_removed tickets c.args.place c.in-Some.ticket other c.self.invariant.0.distinct within
    c.in-Some.ensures.value
    ∙ ap (λ (origin : ℕ). rests other (resting_origins tickets) && not (other == origin))
    (origin_is tickets c.args.place c.in-Some.ticket within c.in-Some.ensures.value)
    ∙ ap (λ (view : Ticketing). rests other view.resting && not (other == slice_index view.origins c.args.place))
    c.self.view_is
