use Rattle.std.proofs.Common.{◌∙◌, sym}
use Rattle.ftc_journal.specs.declared.job.Job.TheVariants as job
use Rattle.ftc_protocol.specs.Jobs.{IsLegalJob}
use Rattle.ftc_server.specs.declared.work.Work.TheVariants.{Visit}
use Rattle.ftc_network.specs.Parts.{server_in}
use Rattle.ftc_jobs.specs.Works.{work_at}
use Rattle.ftc_jobs.proofs.Chosen.{found_none}
use Rattle.ftc_jobs.proofs.WorkAt.{tested}
use Rattle.ftc_jobs.proofs.tasks.may_visit.Goals as goal

pub returns-in-Some : goal.returns-in-Some
returns-in-Some c setting state rest =
    let network = c.args.network.now in
    tested (IsLegalJob setting state (job.Visit c.args.server c.args.packet))
    (work_at (server_in network.servers.items c.args.server) c.args.packet) c.in-Some.work Visit
    c.is_visit.result (sym c.work_at.ensures ∙ c.in-Some.is) c.is_visit.ensures
    (c.which_tasks.ensures.visit setting state network c.args.server c.args.packet rest)

pub returns-in-None : goal.returns-in-None
returns-in-None c setting state rest =
    let network = c.args.network.now in
    found_none (IsLegalJob setting state (job.Visit c.args.server c.args.packet))
    (work_at (server_in network.servers.items c.args.server) c.args.packet) Visit
    (sym c.work_at.ensures ∙ c.in-None.is)
    (c.which_tasks.ensures.visit setting state network c.args.server c.args.packet rest)
