use Rattle.std.proofs.Common.{sym, arith}
use Rattle.ftc_network.proofs.RunningPacket.{no_worker_runs}
use Rattle.ftc_network.proofs.reading.runs.Goals as goal

pub returns : goal.returns
returns c within =
    sym (no_worker_runs c.args.packet c.args.live.now.head.slots within
    (λ worker below. c.loop-number.invariant worker (omega (arith, below))))
