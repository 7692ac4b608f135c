-- a call of the closure lies between the call that makes it and the next
use Rattle.std.proofs.Common.{◌+◌, ◌*◌}
use Rattle.ftc_workers.proofs.spreading.+fn-spread-others+spread.Given as goal

abbrev pub decreases-others : goal.decreases-others
decreases-others g l = 2 * l.rest + 1

abbrev pub decreases-spread : goal.decreases-spread
decreases-spread g l = 2 * l.count
