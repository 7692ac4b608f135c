use Rattle.std.proofs.lemmas.Result.{on_ok_weaker}
use Rattle.ftc_journal.specs.declared.job.Job.TheVariants as job
use Rattle.ftc_chain.specs.Doing.{setting_by}
use Rattle.ftc_chain.proofs.Permitted.{allowed_where}
use Rattle.ftc_chain.proofs.given.Given.visit.Goals as goal

pub visit-requires : goal.visit-requires
visit-requires c =
    let setting = setting_by c.args.self.now in
    let job = job.Visit c.args.server c.args.packet in
    allowed_where c.requires (λ state. (c.jobs_of_events.ensures.slots setting state c.args.worker job).1)

pub returns-clause-ok : goal.returns-clause-ok
returns-clause-ok c =
    let setting = setting_by c.args.self.now in
    let job = job.Visit c.args.server c.args.packet in
    on_ok_weaker c.visit.result (λ follows state run legal is. follows setting state run
    ((c.jobs_of_events.ensures.slots setting state c.args.worker job).1 legal) is) c.visit.ensures.ok
