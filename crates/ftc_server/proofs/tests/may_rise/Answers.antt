use Rattle.std.proofs.Common.{◌≤◌, arith}
use Rattle.ftc_vector.specs.Vector.{number_at}
use Rattle.ftc_server.proofs.tests.may_rise.Goals as goal

pub returns : goal.returns
returns c = λ _. c.rising.ensures c.args.vector.now c.at.ensures.bounds.size (λ p within.
    let below : number_at c.args.vector.now p ≤ 18446744073709551614 =
    c.loop-partition.invariant p (omega (arith, within)) in
    omega (arith, below))
