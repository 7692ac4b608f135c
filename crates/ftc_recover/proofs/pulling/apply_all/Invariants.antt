-- the logs so far are applied
use Rattle.std.proofs.Common.{◌≡◌, take}
use Rattle.ftc_recover.specs.Pulled.{applied_all}
use Rattle.ftc_recover.proofs.pulling.apply_all.Given as goal

abbrev pub invariant-loop-log : goal.invariant-loop-log
invariant-loop-log l = l.to ≡ applied_all (take l.log-index l.logs) l.fn.to
