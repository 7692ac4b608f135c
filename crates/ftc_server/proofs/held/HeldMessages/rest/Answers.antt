use Rattle.std.proofs.Common.{◌∙◌, ◌&&◌, ◌||◌, sym, ap, Bool, ℕ, List}
use Rattle.std.specs.Prelude.{◌==◌}
use Rattle.ftc_server.specs.Holding.{Holding, is_held, rests}
use Rattle.ftc_server.specs.Tickets.{is_among}
use Rattle.ftc_server.proofs.Keeping.{held_among}
use Rattle.ftc_server.proofs.held.HeldMessages.rest.Goals as goal

pub returns-clause-resting : goal.returns-clause-resting
returns-clause-resting c = λ other.
    let origin = c.args.origin in
    let resting = c.self.inside.tickets.resting in
    c.rest.ensures.resting other
    ∙ ap (λ (origins : List ℕ). rests other resting || ((other == origin) && is_among origin origins))
    c.self.invariant.origins
    ∙ ap (λ (t : Bool). rests other resting || ((other == origin) && t))
    (sym (held_among c.self.inside.list.items origin))
    ∙ ap (λ (held : Holding). rests other held.resting || ((other == origin) && is_held origin held.items))
    c.self.view_is
