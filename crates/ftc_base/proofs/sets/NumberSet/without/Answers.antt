use Rattle.ftc_base.proofs.Members.{has-without}
use Rattle.ftc_base.proofs.sets.NumberSet.without.Goals as goal

pub returns : goal.returns
returns c = rw (← c.self.view_is)
    (λ member. has-without c.self.inside.bits c.args.number member c.requires c.self.invariant)
