use Rattle.std.proofs.Common.{◌∙◌, sym, ap, subst, length}
use Rattle.ftc_server.specs.Tickets.{Ticketing, AreDistinct}
use Rattle.ftc_server.proofs.Leaving.{count_origins}
use Rattle.ftc_server.proofs.tickets.Tickets.len.Goals as goal

pub returns-clause-size : goal.returns-clause-size
returns-clause-size c =
    c.len.ensures ∙ c.self.inside.list.ok.0 ∙ sym (count_origins c.self.inside.list.items)
    ∙ ap (λ (view : Ticketing). length view.origins) c.self.view_is

pub returns-clause-distinct : goal.returns-clause-distinct
returns-clause-distinct c =
    subst AreDistinct (ap (λ (view : Ticketing). view.origins) c.self.view_is) c.self.invariant.0.distinct
