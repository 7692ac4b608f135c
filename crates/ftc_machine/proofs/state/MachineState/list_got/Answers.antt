use Rattle.std.proofs.Common.{◌∙◌, ℕ, length, List, ap, arith}
use Rattle.ftc_vector.specs.Commits.{vector_of}
use Rattle.ftc_machine.proofs.AfterCrash.{none_length, none_row}
use Rattle.ftc_machine.proofs.state.MachineState.list_got.Goals as goal

pub loop-number-init : goal.loop-number-init
loop-number-init c = record {
  size = ap length c.new-list.ensures ∙ none_length;
  got = λ group less. absurd (omega arith);
  left = λ group _ within. ap
      (λ (rows : List (List ℕ)). vector_of rows group) c.new-list.ensures ∙ none_row group within;
}
