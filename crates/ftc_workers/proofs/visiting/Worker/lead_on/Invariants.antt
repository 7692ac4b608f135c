-- the leader has its part of the ledger
use Rattle.std.proofs.Common.{◌≡◌}
use Rattle.ftc_workers.proofs.visiting.Worker.lead_on.Given as goal

abbrev pub invariant-loop : goal.invariant-loop
invariant-loop g l = l.mine.share.parts ≡ 1
