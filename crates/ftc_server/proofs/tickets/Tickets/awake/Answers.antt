use Rattle.std.proofs.Common.{◌∙◌, sym, ap, length}
use Rattle.ftc_server.specs.Tickets.{Ticketing, awake_places}
use Rattle.ftc_server.proofs.Ticketing.{awake_size}
use Rattle.ftc_server.proofs.tickets.Tickets.awake.Goals as goal

pub returns : goal.returns
returns c =
    let are = c.self.invariant.0 in
    c.len.ensures ∙ c.self.inside.awake.ok.0
    ∙ sym (awake_size c.self.inside.list.items c.self.inside.awake.items are.distinct are.awake)
    ∙ ap (λ (view : Ticketing). length (awake_places view)) c.self.view_is
