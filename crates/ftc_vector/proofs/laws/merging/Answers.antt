use Rattle.ftc_vector.proofs.Bounds.{above_first, above_second, least, merged_comm, merged_assoc, merged_same}
use Rattle.ftc_vector.proofs.laws.merging.Goals as goal

pub returns : goal.returns
returns c = record {
  above_first = above_first;
  above_second = above_second;
  least = least;
  commutative = merged_comm;
  associative = merged_assoc;
  idempotent = merged_same;
}
