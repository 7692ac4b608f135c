use Rattle.ftc_base.proofs.Members.{same}
use Rattle.ftc_base.proofs.sets.same_members.Goals as goal

pub returns : goal.returns
returns c = same
