use Rattle.std.proofs.Common.{List, arith, subst, take_all}
use Rattle.ftc_message.specs.Logged.{Logged}
use Rattle.ftc_jobs.specs.All.{is_running_by, HasJobsOf, IsOfLogs}
use Rattle.ftc_jobs.proofs.JobKinds.{one_log}
use Rattle.ftc_jobs.proofs.all.add_applies.Goals as goal

pub loop-log-preserved : goal.loop-log-preserved
loop-log-preserved c setting state rest =
    one_log (is_running_by c.args.network.now) setting state c.args.server c.args.origin c.args.logs.now
    c.loop-log.log-index c.log-item.result c.args.jobs.now c.loop-log.jobs c.add_if.new.jobs c.may_apply-legal.result
    c.group-group.result c.origin-packet.result c.requires c.loop-log-test.true c.log-item.is
    c.group-group.ensures.same c.origin-packet.ensures
    (c.may_apply-legal.ensures setting state rest) c.in_ok-add_if.ensures (c.loop-log.invariant setting state rest)

pub returns : goal.returns
returns c setting state rest =
    subst (λ (logs : List Logged). HasJobsOf (IsOfLogs c.args.server c.args.origin logs)
    (is_running_by c.args.network.now) setting state c.args.jobs.now c.loop-log.jobs)
    (take_all c.loop-log.log-index c.args.logs.now (omega arith)) (c.loop-log.invariant setting state rest)
