use Rattle.ftc_vector.proofs.Needs.{own_ready, applied_covered, covered_once}
use Rattle.ftc_vector.proofs.laws.applying.Goals as goal

pub returns : goal.returns
returns c = record { own = own_ready; applied = applied_covered; once = covered_once }
