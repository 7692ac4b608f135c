use Rattle.std.proofs.Common.{arith}
use Rattle.ftc_protocol.specs.Setting.{servers}
use Rattle.ftc_jobs.specs.All.{is_running_by, IsOfServer}
use Rattle.ftc_jobs.proofs.AllJobs.{adds_every, adds_next}
use Rattle.ftc_jobs.proofs.JobKinds.{same_server, server_below}
use Rattle.ftc_jobs.proofs.Sizes.{size_of}
use Rattle.ftc_jobs.proofs.all.add_servers.Goals as goal

pub loop-number-preserved : goal.loop-number-preserved
loop-number-preserved c setting state packets rest =
    adds_next (is_running_by c.args.network.now) setting state IsOfServer same_server c.loop-number.number
    c.server_of.result _ c.server_of.ensures (omega arith) c.args.jobs.now c.loop-number.jobs c.add_server.new.jobs
    (c.loop-number.invariant setting state packets rest)
    (c.in_ok-add_server.ensures setting state packets rest)

pub returns : goal.returns
returns c setting state packets rest =
    let size = size_of setting state c.args.network.now rest.resting in
    let order = c.order_of_a_state.ensures setting state rest.resting.run in
    adds_every (is_running_by c.args.network.now) setting state IsOfServer c.loop-number.number
    (λ server job legal of.
    let below = server_below setting state (servers setting)
    (λ s crash. order.crashes state.entered s crash.0)
    (λ s recover. (order.recoveries state.entered s recover.0.0).0)
    (λ s origin message held. (c.held_in_turn.ensures.holder setting state s origin message rest.resting.run held).0)
    server job legal.0 of in
    omega (arith, below, size))
    c.args.jobs.now c.loop-number.jobs (c.loop-number.invariant setting state packets rest)
