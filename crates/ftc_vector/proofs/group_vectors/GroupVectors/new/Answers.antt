use Rattle.std.proofs.Common.{refl}
use Rattle.ftc_vector.specs.Commits.{by_group}
use Rattle.ftc_vector.proofs.group_vectors.GroupVectors.new.Goals as goal

pub returns : goal.returns
unfolding by_group
returns c = rw c.zero.ensures refl
