-- the writes of the visits before this one
use Rattle.std.proofs.Common.{◌≡◌, take}
use Rattle.std.specs.Prelude.{fold}
use Rattle.std.specs.FinMap.{empty}
use Rattle.ftc_machine.specs.RecoveryEffect.{rewritten}
use Rattle.ftc_machine.specs.LegalityTests.{footprints_of}
use Rattle.ftc_machine.proofs.state.MachineState.rebuilt.Given as goal

abbrev pub invariant-loop-name : goal.invariant-loop-name
invariant-loop-name l = record {
  so_far : l.store.content ≡ fold (rewritten (footprints_of l.self) l.server) empty (take l.name-index l.order);
}
