use Rattle.ftc_vector.proofs.GroupLists.{vector_of-all_merged, vector_of-raised, vector_of-other, same_groups}
use Rattle.ftc_vector.proofs.laws.groups.Goals as goal

pub returns : goal.returns
returns c = record {
  merged = vector_of-all_merged;
  raised = vector_of-raised;
  others = vector_of-other;
  same = same_groups;
}
