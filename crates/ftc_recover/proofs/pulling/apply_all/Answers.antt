use Rattle.std.proofs.Common.{arith}
use Rattle.ftc_recover.proofs.Turns.{turn_here, applied_here}
use Rattle.ftc_recover.proofs.pulling.apply_all.Goals as goal

pub apply-requires-clause-ready : goal.apply-requires-clause-ready
apply-requires-clause-ready c =
    (turn_here 18446744073709551614 c.args.logs.now c.args.to.now c.loop-log.to c.loop-log.log-index c.log-item.result
    c.loop-log-test.true c.log-item.is c.loop-log.invariant c.requires).ready

pub apply-requires-clause-numbers : goal.apply-requires-clause-numbers
apply-requires-clause-numbers c partition within changed =
    let below = (turn_here 18446744073709551614 c.args.logs.now c.args.to.now c.loop-log.to c.loop-log.log-index
    c.log-item.result c.loop-log-test.true c.log-item.is c.loop-log.invariant c.requires).bound partition within in
    omega (arith, below)

pub loop-log-preserved : goal.loop-log-preserved
loop-log-preserved c =
    applied_here c.args.logs.now c.args.to.now c.loop-log.to c.apply.new.self c.loop-log.log-index c.log-item.result
    c.loop-log-test.true c.log-item.is c.loop-log.invariant c.in_ok-apply.ensures.applied
