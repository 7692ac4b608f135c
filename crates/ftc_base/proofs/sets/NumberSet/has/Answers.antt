use Rattle.ftc_base.proofs.Members.{has-bit}
use Rattle.ftc_base.proofs.sets.NumberSet.has.Goals as goal

pub returns : goal.returns
returns c = rw (← c.self.view_is) (has-bit c.self.inside.bits c.args.number)
