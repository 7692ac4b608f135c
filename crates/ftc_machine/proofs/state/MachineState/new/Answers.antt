use Rattle.std.proofs.Common.{sym, refl}
use Rattle.ftc_machine.proofs.OpeningState.{opened}
use Rattle.ftc_machine.proofs.state.MachineState.new.Goals as goal

pub returns : goal.returns
returns c setting shape_is partitions_are =
    opened setting _ c.in_ok-empty_sets.ensures.empty c.in_ok-empty_sets-2.ensures.empty
    c.in_ok-empty_stores.ensures.empty c.new.ensures c.new-6.ensures
    (sym shape_is) (sym partitions_are) c.new-2.ensures c.new-3.ensures c.new-4.ensures c.new-5.ensures refl refl refl
    c.new-7.ensures
