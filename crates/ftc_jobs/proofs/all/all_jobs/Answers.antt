use Rattle.ftc_jobs.specs.All.{is_running_by}
use Rattle.ftc_jobs.proofs.JobKinds.{all_are}
use Rattle.ftc_jobs.proofs.all.all_jobs.Goals as goal

pub returns : goal.returns
returns c setting state rest =
    all_are (is_running_by c.args.network.now) setting state c.new-jobs.result c.add_links.new.jobs
    c.add_servers.new.jobs c.add_enter.new.jobs c.add_propagate.new.jobs c.new-jobs.ensures
    (c.in_ok-add_links.ensures setting state rest.resting)
    (c.in_ok-add_servers.ensures setting state c.args.packets rest) (c.in_ok-add_enter.ensures setting state rest)
    (c.in_ok-add_propagate.ensures setting state rest)
