use Rattle.std.proofs.Common.{◌≡◌, ◌++◌, drop}
use Rattle.ftc_machine.proofs.trace.add_undone.Given as goal

abbrev pub invariant-loop-name : goal.invariant-loop-name
invariant-loop-name l = l.undone ++ drop l.name-index l.name-items ≡ l.initial.undone ++ l.name-items
