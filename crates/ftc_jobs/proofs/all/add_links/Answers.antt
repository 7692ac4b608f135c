use Rattle.std.proofs.Common.{arith}
use Rattle.ftc_protocol.specs.Setting.{servers}
use Rattle.ftc_jobs.specs.All.{is_running_by, IsOfLink}
use Rattle.ftc_jobs.proofs.AllJobs.{adds_every, adds_next}
use Rattle.ftc_jobs.proofs.JobKinds.{link_below, same_link}
use Rattle.ftc_jobs.proofs.Sizes.{size_of}
use Rattle.ftc_jobs.proofs.all.add_links.Goals as goal

pub loop-number-preserved : goal.loop-number-preserved
loop-number-preserved c setting state rest =
    adds_next (is_running_by c.args.network.now) setting state IsOfLink same_link c.loop-number.number
    c.server_of.result _ c.server_of.ensures (omega arith) c.args.jobs.now c.loop-number.jobs c.add_link.new.jobs
    (c.loop-number.invariant setting state rest)
    (c.in_ok-add_link.ensures setting state rest)

pub returns : goal.returns
returns c setting state rest =
    let size = size_of setting state c.args.network.now rest in
    adds_every (is_running_by c.args.network.now) setting state IsOfLink c.loop-number.number
    (λ link job legal of.
    let below = link_below setting state (servers setting)
    (λ l outside. c.which_pulls.ensures.outside setting state l rest.run outside)
    (λ l origin outside. c.what_a_link_offers.ensures.outside setting state l origin rest.run outside)
    link job legal.0 of in
    omega (arith, below, size))
    c.args.jobs.now c.loop-number.jobs (c.loop-number.invariant setting state rest)
