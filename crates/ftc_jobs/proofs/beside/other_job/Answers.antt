use Rattle.std.proofs.Common.{◌⊎◌, refl, subst}
use Rattle.std.proofs.lemmas.Option.{IfSome_then}
use Rattle.ftc_journal.specs.declared.job.Job.{Job}
use Rattle.ftc_journal.specs.declared.job.Job.TheVariants.{Carry}
use Rattle.ftc_protocol.specs.Jobs.{IsLegalJob, IsWork, IsNoWork}
use Rattle.ftc_protocol.specs.State.{ChainState}
use Rattle.ftc_jobs.specs.All.{is_running_by}
use Rattle.ftc_jobs.proofs.Wanted.{no_other_job, wanted_other}
use Rattle.ftc_jobs.proofs.beside.other_job.Goals as goal

pub returns-in-Some-clause-some : goal.returns-in-Some-clause-some
returns-in-Some-clause-some c setting state rest =
    wanted_other setting state (is_running_by c.args.network.now) c.in-Some.job
    (c.in-Some.ensures.other setting state rest.resting)

pub returns-in-Some-wanted_work-clause-some : goal.returns-in-Some-wanted_work-clause-some
returns-in-Some-wanted_work-clause-some c setting state rest =
    c.in-Some-wanted_work.ensures.some setting state c.args.packets rest

pub returns-in-Some-first_take-clause-some : goal.returns-in-Some-first_take-clause-some
returns-in-Some-first_take-clause-some c setting state rest =
    wanted_other setting state (is_running_by c.args.network.now) c.in-Some-first_take.job
    (c.in-Some-first_take.ensures.other setting state rest.resting)

pub returns-clause-some : goal.returns-clause-some
returns-clause-some c =
    IfSome_then c.from_outside.result c.from_outside.ensures.other (λ job other setting state rest.
    wanted_other setting state (is_running_by c.args.network.now) job (other setting state rest))

pub returns-clause-none : goal.returns-clause-none
returns-clause-none c none setting state rest =
    let run = rest.resting.run in
    no_other_job setting state (is_running_by c.args.network.now)
    (c.in_default-wanted_work.ensures.none refl setting state c.args.packets rest)
    (λ server origin. subst (λ (s : ChainState).
    ((job : Job) × IsWork setting s server origin job) ⊎ IsNoWork setting s server origin) run.reaches
    (c.work.ensures.exists setting run.right run.journal run.run server origin))
    (c.work.ensures.pass setting state) (c.work.ensures.lose setting state)
    (λ origin. subst (λ (s : ChainState). IsLegalJob setting s (Carry origin) →
    IsWork setting s 0 origin (Carry origin)) run.reaches
    (c.work.ensures.carry setting run.right run.journal run.run origin))
    (c.in_default.ensures.none refl setting state rest.resting)
    (c.in_default-first_take.ensures.none refl setting state rest.resting)
    (c.from_outside.ensures.none none setting state rest)
