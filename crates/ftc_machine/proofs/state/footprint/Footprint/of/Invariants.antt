-- what is kept of the answers so far
use Rattle.std.proofs.Common.{◌≡◌, length, take, map}
use Rattle.std.specs.List.{AllByRecursion}
use Rattle.ftc_base.specs.Partition.{partition_of}
use Rattle.ftc_base.specs.declared.ask.Answer.{Answer}
use Rattle.ftc_machine.specs.declared.state.footprint.Touched.{Touched}
use Rattle.ftc_machine.specs.FootprintMaking.{IsTouched}
use Rattle.ftc_machine.proofs.state.footprint.Footprint.of.Given as goal

abbrev pub invariant-loop-answer : goal.invariant-loop-answer
invariant-loop-answer l = record {
  touched : map (λ (touched : Touched). touched.partition) l.touched.items
      ≡ map (λ (answer : Answer). partition_of l.partitions answer.key) (take l.answer-index l.answer-items);
  each : AllByRecursion (IsTouched l.partitions l.writes.items l.vector) l.touched.items;
  count : length l.touched.items ≡ l.answer-index;
}
