-- those of the visits before this one
use Rattle.std.proofs.Common.{◌≡◌, filter, take}
use Rattle.ftc_machine.specs.RecoveryEffect.{is_left}
use Rattle.ftc_machine.proofs.state.MachineState.order_left.Given as goal

abbrev pub invariant-loop-name : goal.invariant-loop-name
invariant-loop-name l = record {
  same : l.name-items ≡ l.self.order;
  so_far : l.left ≡ filter (is_left l.undone) (take l.name-index l.self.order);
}
