use Rattle.ftc_vector.proofs.Partitions.{length-by_partition}
use Rattle.ftc_vector.proofs.Bounds.{number_at-merged, same_numbers}
use Rattle.ftc_vector.proofs.Needs.{number_at-raised, mark_at-marks_of, mark_at-need_of}
use Rattle.ftc_vector.proofs.laws.numbers.Goals as goal

pub returns : goal.returns
returns c = record {
  merged = number_at-merged;
  raised = number_at-raised;
  marks = mark_at-marks_of;
  need = mark_at-need_of;
  lengths = λ f. length-by_partition f;
  same = same_numbers;
}
