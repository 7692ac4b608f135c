use Rattle.std.proofs.Common.{◌≡◌, ◌∙◌, arith}
use Rattle.ftc_vector.proofs.Held.{raised_is}
use Rattle.ftc_vector.proofs.commits.Commits.raise.Goals as goal

pub returns : goal.returns
returns c =
    let place : c.from.result ≡ c.args.group = c.from.ensures ∙ c.number.ensures.same in
    rw (← c.self.view_is)
    (raised_is c.self.inside.vectors.items c.raise.new.vectors.items c.args.group c.args.vector.now
    (omega (arith, c.number.ensures.same, c.number.ensures.within))
    (rw place at c.raise.ensures.own) (rw place at c.raise.ensures.others))
