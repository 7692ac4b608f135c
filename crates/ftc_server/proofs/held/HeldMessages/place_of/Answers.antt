use Rattle.std.proofs.Common.{◌∙◌, ap}
use Rattle.std.specs.List.{position}
use Rattle.ftc_server.specs.Holding.{Holding, is_of}
use Rattle.ftc_server.specs.Tickets.{is_same}
use Rattle.ftc_server.proofs.Ticketed.{same_position}
use Rattle.ftc_server.proofs.held.HeldMessages.place_of.Goals as goal

pub returns-clause-place : goal.returns-clause-place
returns-clause-place c =
    c.place_of.ensures.place
    ∙ ap (position (is_same c.args.origin)) c.self.invariant.origins
    ∙ same_position c.args.origin c.self.inside.list.items
    ∙ ap (λ (held : Holding). position (is_of c.args.origin) held.items) c.self.view_is
