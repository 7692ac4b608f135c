-- the logs so far were ready in turn and are applied
use Rattle.std.proofs.Common.{◌≡◌, take}
use Rattle.ftc_recover.specs.Pulled.{applied_all, AreReadyInTurn}
use Rattle.ftc_recover.proofs.tests.vector_after.Given as goal

abbrev pub invariant-loop-log : goal.invariant-loop-log
invariant-loop-log l = record {
  copy : l.copy ≡ applied_all (take l.log-index l.logs) l.to;
  ready : AreReadyInTurn 18446744073709551614 l.to.vector (take l.log-index l.logs);
}
