use Rattle.std.proofs.Common.{◌∙◌, sym}
use Rattle.ftc_protocol.specs.Legal.{MayLeave}
use Rattle.ftc_protocol.specs.State.{Message}
use Rattle.ftc_server.specs.declared.work.Work.TheVariants.{Send}
use Rattle.ftc_network.specs.Parts.{server_in}
use Rattle.ftc_jobs.specs.Works.{work_at}
use Rattle.ftc_jobs.proofs.Chosen.{found_none}
use Rattle.ftc_jobs.proofs.WorkAt.{tested}
use Rattle.ftc_jobs.proofs.tasks.may_leave.Goals as goal

pub returns-in-Some : goal.returns-in-Some
returns-in-Some c setting state rest =
    let network = c.args.network.now in
    tested ((message : Message) × MayLeave setting state c.args.server c.args.origin message)
    (work_at (server_in network.servers.items c.args.server) c.args.origin) c.in-Some.work Send
    c.is_send.result (sym c.work_at.ensures ∙ c.in-Some.is) c.is_send.ensures
    (c.which_tasks.ensures.send setting state network c.args.server c.args.origin rest)

pub returns-in-None : goal.returns-in-None
returns-in-None c setting state rest =
    let network = c.args.network.now in
    found_none ((message : Message) × MayLeave setting state c.args.server c.args.origin message)
    (work_at (server_in network.servers.items c.args.server) c.args.origin) Send
    (sym c.work_at.ensures ∙ c.in-None.is)
    (c.which_tasks.ensures.send setting state network c.args.server c.args.origin rest)
