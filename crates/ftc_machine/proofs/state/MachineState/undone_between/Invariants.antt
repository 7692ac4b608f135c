-- those of the visits before this one
use Rattle.std.proofs.Common.{◌≡◌, filter, take}
use Rattle.ftc_machine.specs.RecoveryEffect.{is_undone_kept}
use Rattle.ftc_machine.proofs.state.MachineState.undone_between.Given as goal

abbrev pub invariant-loop-name : goal.invariant-loop-name
invariant-loop-name l = record {
  same : l.name-items ≡ l.self.order;
  so_far : l.undone ≡ filter (is_undone_kept l.self l.previous l.following) (take l.name-index l.self.order);
}
