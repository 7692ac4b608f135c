use Rattle.std.proofs.Common.{◌≡◌, ◌∙◌, false, sym, subst, arith}
use Rattle.std.proofs.Math.Bool.{Bool-set}
use Rattle.std.proofs.Math.Logic.{∥∥₁_elim}
use Rattle.ftc_journal.specs.declared.job.Job.{Job}
use Rattle.ftc_journal.specs.declared.job.Job.TheVariants.{Visit}
use Rattle.ftc_network.specs.Parts.{server_in}
use Rattle.ftc_jobs.specs.All.{is_running_by}
use Rattle.ftc_jobs.specs.Beside.{is_sought}
use Rattle.ftc_jobs.proofs.RunVisit.{run_visit}
use Rattle.ftc_jobs.proofs.Sizes.{size_of}
use Rattle.ftc_jobs.proofs.Wanted.{legal_work, not_work, taken_is_unwanted, untaken_work}
use Rattle.ftc_jobs.proofs.beside.wanted_of.Goals as goal

pub returns-then-is_running-clause-none : goal.returns-then-is_running-clause-none
returns-then-is_running-clause-none c none setting state packets held rest up there rising job work =
    let network = c.args.network.now in
    let server = c.args.server in
    let origin = c.args.origin in
    let run = rest.resting.run in
    let runs = sym (c.is_running.ensures setting state rest.resting.stands) ∙ c.if-is_running.true in
    let size = size_of setting state network rest.resting in
    let slot = rest.resting.stands.servers_are server (omega (arith, size, c.requires)) in
    let legal = run_visit setting state server (λ worker live running is at.
    c.what_runs_may_be_visited.ensures setting state server worker live running run is rest.resting.none_due at)
    origin (server_in network.servers.items server) slot runs in
    ∥∥₁_elim legal (Bool-set _ _) (λ visit.
    subst (λ (j : Job). is_sought c.args.visits (is_running_by network) j ≡ false)
    (c.work.ensures.single setting state server origin (Visit server origin) job
    (c.work.ensures.visit setting state server origin visit) work)
    (taken_is_unwanted c.args.visits (is_running_by network) server origin runs))

pub returns-in_err-work-clause-none : goal.returns-in_err-work-clause-none
returns-in_err-work-clause-none c none setting state packets held rest up there rising job work =
    absurd (not_work setting state c.args.server c.args.origin
    (c.what_work_is.ensures.none setting state c.args.server c.args.origin held c.args.live.now rest.resting.run
    rest.resting.none_due up there rising (sym c.work_of.ensures.work ∙ c.in_err-work.was)) job work)

pub returns-then-is_sought-clause-some : goal.returns-then-is_sought-clause-some
returns-then-is_sought-clause-some c setting state packets held rest up there rising =
    let job = c.job_of_work-job.result in
    let work = c.job_of_work-job.ensures setting state packets held c.args.live.now rest up there rising
    (sym c.work_of.ensures.work ∙ c.in_ok-work.was) in
    let runs = is_running_by c.args.network.now in
    let free = sym (c.is_running.ensures setting state rest.resting.stands) ∙ c.if-is_running.false in
    let untaken = untaken_work setting state runs c.args.server c.args.origin job work free in
    record {
      legal = legal_work setting state c.args.server c.args.origin job work;
      wanted = sym (c.is_sought.ensures runs untaken) ∙ c.if-is_sought.true;
    }

pub returns-else-is_sought-clause-none : goal.returns-else-is_sought-clause-none
returns-else-is_sought-clause-none c none setting state packets held rest up there rising other also =
    let job = c.job_of_work-job.result in
    let work = c.job_of_work-job.ensures setting state packets held c.args.live.now rest up there rising
    (sym c.work_of.ensures.work ∙ c.in_ok-work.was) in
    let runs = is_running_by c.args.network.now in
    let free = sym (c.is_running.ensures setting state rest.resting.stands) ∙ c.if-is_running.false in
    let untaken = untaken_work setting state runs c.args.server c.args.origin job work free in
    subst (λ (j : Job). is_sought c.args.visits runs j ≡ false)
    (c.work.ensures.single setting state c.args.server c.args.origin job other work also)
    (sym (c.is_sought.ensures runs untaken) ∙ c.if-is_sought.false)
