use Rattle.std.proofs.Common.{length, ap, arith}
use Rattle.ftc_workers.proofs.Counts.{visits_within}
use Rattle.ftc_workers.proofs.calls.few.Goals as goal

pub returns : goal.returns
returns c =
    let within = visits_within c.args.chain.now.journal in
    omega (arith, within, c.len.ensures, ap length c.journal.ensures.same)
