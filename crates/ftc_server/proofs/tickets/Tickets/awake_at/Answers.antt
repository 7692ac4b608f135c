use Rattle.std.proofs.Common.{◌<◌, ◌∙◌, sym, ap, length, arith}
use Rattle.std.specs.Prelude.{slice_get}
use Rattle.ftc_server.specs.Tickets.{Ticketing, awake_places}
use Rattle.ftc_server.proofs.Ticketing.{awake_is, awake_size, none_within}
use Rattle.ftc_server.proofs.tickets.Tickets.awake_at.Goals as goal

pub index-requires : goal.index-requires
index-requires c =
    let are = c.self.invariant.0 in
    let size = awake_size c.self.inside.list.items c.self.inside.awake.items are.distinct are.awake in
    let same = ap (λ (view : Ticketing). length (awake_places view)) c.self.view_is in
    omega (arith, size, same, c.requires, c.self.inside.awake.ok)

pub unreachable-requires : goal.unreachable-requires
unreachable-requires c =
    let are = c.self.invariant.0 in
    let size = awake_size c.self.inside.list.items c.self.inside.awake.items are.distinct are.awake in
    let same = ap (λ (view : Ticketing). length (awake_places view)) c.self.view_is in
    let within : c.args.nth < length c.self.inside.awake.items = omega (arith, size, same, c.requires) in
    none_within (awake_places c.args.self.now) c.args.nth c.requires
    (sym (ap (λ (view : Ticketing). slice_get (awake_places view) c.args.nth) c.self.view_is)
    ∙ awake_is c.self.inside.list.items c.self.inside.awake.items c.args.nth c.index.result.now
    c.place_of_number.result are.rising are.distinct are.awake within c.index.ensures c.place_of_number.ensures
    ∙ c.in-None.is)

pub returns : goal.returns
returns c =
    let are = c.self.invariant.0 in
    let size = awake_size c.self.inside.list.items c.self.inside.awake.items are.distinct are.awake in
    let same = ap (λ (view : Ticketing). length (awake_places view)) c.self.view_is in
    let within : c.args.nth < length c.self.inside.awake.items = omega (arith, size, same, c.requires) in
    sym (ap (λ (view : Ticketing). slice_get (awake_places view) c.args.nth) c.self.view_is)
    ∙ awake_is c.self.inside.list.items c.self.inside.awake.items c.args.nth c.index.result.now
    c.place_of_number.result are.rising are.distinct are.awake within c.index.ensures c.place_of_number.ensures
    ∙ c.in-Some.is
