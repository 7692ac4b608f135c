use Rattle.ftc_base.proofs.Members.{has-zero}
use Rattle.ftc_base.proofs.sets.NumberSet.new.Goals as goal

pub returns : goal.returns
returns c = has-zero
