use Rattle.std.proofs.Common.{◌∙◌, ℕ, ap, sym}
use Rattle.ftc_journal.specs.declared.job.Job.TheVariants as job
use Rattle.ftc_protocol.specs.Jobs.{IsLegalJob}
use Rattle.ftc_server.specs.declared.work.Work.TheVariants.{Carry}
use Rattle.ftc_network.specs.Parts.{server_in}
use Rattle.ftc_jobs.specs.Works.{work_at}
use Rattle.ftc_jobs.proofs.Chosen.{found_none}
use Rattle.ftc_jobs.proofs.WorkAt.{tested}
use Rattle.ftc_jobs.proofs.tasks.may_carry.Goals as goal

pub returns-in-Some : goal.returns-in-Some
returns-in-Some c setting state rest =
    let network = c.args.network.now in
    tested (IsLegalJob setting state (job.Carry c.args.origin))
    (work_at (server_in network.servers.items 0) c.args.origin) c.in-Some.work Carry
    c.is_carry.result (sym (c.work_at.ensures ∙ ap
    (λ (n : ℕ). work_at (server_in network.servers.items n) c.args.origin) c.server_of.ensures) ∙ c.in-Some.is)
    c.is_carry.ensures
    (c.which_tasks.ensures.carry setting state network c.args.origin rest)

pub returns-in-None : goal.returns-in-None
returns-in-None c setting state rest =
    let network = c.args.network.now in
    found_none (IsLegalJob setting state (job.Carry c.args.origin))
    (work_at (server_in network.servers.items 0) c.args.origin) Carry
    (sym (c.work_at.ensures ∙ ap
    (λ (n : ℕ). work_at (server_in network.servers.items n) c.args.origin) c.server_of.ensures) ∙ c.in-None.is)
    (c.which_tasks.ensures.carry setting state network c.args.origin rest)
