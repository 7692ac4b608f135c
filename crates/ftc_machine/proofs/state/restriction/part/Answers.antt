use Rattle.std.proofs.Common.{◌∙◌, ℕ, List, [], length, if◌then◌else◌, ap, arith}
use Rattle.ftc_base.specs.Sets.{has}
use Rattle.ftc_vector.specs.Vector.{by_partition, merged}
use Rattle.ftc_vector.specs.Commits.{vector_of}
use Rattle.ftc_vector.proofs.GroupLists.{by_group-from}
use Rattle.ftc_vector.proofs.Held.{length-by_group, vector_of-by_group}
use Rattle.ftc_machine.proofs.state.restriction.part.Goals as goal

pub loop-number-init : goal.loop-number-init
loop-number-init c = record {
  size = ap length c.new-part.ensures ∙ length-by_group (λ _. by_partition (λ _. 0));
  below = λ k none. absurd (omega arith);
  rest = λ k least less. ap (λ (reach : List (List ℕ)). vector_of reach k) c.new-part.ensures ∙ vector_of-by_group
      (λ _. by_partition (λ _. 0)) k less;
}

pub returns : goal.returns
returns c =
    by_group-from (λ group. if has c.args.groups group then
    merged (by_partition (λ _. 0)) (vector_of c.args.reach.now group)
    else by_partition (λ _. 0)) c.loop-number.part [] c.loop-number.invariant.size
    (λ k less. let end = c.loop-number-test.false in c.loop-number.invariant.below k (omega arith))
