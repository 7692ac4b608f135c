use Rattle.std.proofs.Common.{refl}
use Rattle.ftc_vector.specs.Vector.{by_partition}
use Rattle.ftc_vector.proofs.MarkFields.{none_marked}
use Rattle.ftc_vector.proofs.marks.Marks.new.Goals as goal

pub invariant_of-result : goal.invariant_of-result
invariant_of-result c = none_marked

pub returns : goal.returns
unfolding by_partition
returns c = refl
