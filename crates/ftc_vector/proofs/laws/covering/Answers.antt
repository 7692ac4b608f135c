use Rattle.ftc_vector.specs.Vector.{merged, raised}
use Rattle.ftc_vector.proofs.Bounds.{above_first}
use Rattle.ftc_vector.proofs.Needs.{covered_above, below_raised}
use Rattle.ftc_vector.proofs.laws.covering.Goals as goal

pub returns : goal.returns
returns c = record {
  above = covered_above;
  merged = λ a b need. covered_above a (merged a b) need (above_first a b);
  raised = λ a changed need. covered_above a (raised a changed) need (below_raised a changed);
}
