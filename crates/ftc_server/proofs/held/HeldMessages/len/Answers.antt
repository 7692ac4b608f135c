use Rattle.std.proofs.Common.{◌∙◌, ap, subst, length}
use Rattle.ftc_server.specs.Holding.{Holding, origins_of}
use Rattle.ftc_server.specs.Tickets.{AreDistinct}
use Rattle.ftc_server.proofs.Ticketed.{count_held}
use Rattle.ftc_server.proofs.held.HeldMessages.len.Goals as goal

pub returns-clause-size : goal.returns-clause-size
returns-clause-size c =
    c.len.ensures.size ∙ ap length c.self.invariant.origins ∙ count_held c.self.inside.list.items
    ∙ ap (λ (view : Holding). length view.items) c.self.view_is

pub returns-clause-distinct : goal.returns-clause-distinct
returns-clause-distinct c =
    subst AreDistinct
    (c.self.invariant.origins ∙ ap (λ (view : Holding). origins_of view.items) c.self.view_is) c.len.ensures.distinct
