use Rattle.std.proofs.Common.{◌∙◌, not, sym, ap}
use Rattle.std.proofs.lemmas.Bool.{not-true}
use Rattle.ftc_journal.specs.declared.job.Job.TheVariants as job
use Rattle.ftc_protocol.specs.Jobs.{IsLegalJob}
use Rattle.ftc_protocol.specs.Legal.{is_sent}
use Rattle.ftc_jobs.proofs.Chosen.{needed}
use Rattle.ftc_jobs.proofs.TwoParts.{either, neither}
use Rattle.ftc_jobs.proofs.tasks.may_pass.Goals as goal

pub returns-then-may_leave : goal.returns-then-may_leave
returns-then-may_leave c setting state packets rest =
    let sent = is_sent setting c.args.server in
    let loses = setting.loses c.args.server c.args.origin in
    let leaves = c.may_leave.ensures setting state rest.resting in
    let lost = c.is_lost.ensures setting state packets rest in (
      (λ test.
          let may = leaves.0 c.if-may_leave.true in (
            (may.0, may.1, either sent loses (sym lost ∙ not-true c.is_lost.result test)),
            λ other. rest.resting.none_due,
          )),
      (λ legal. ap not (lost ∙ neither sent loses legal.0.2)),
    )

pub returns-else-may_leave : goal.returns-else-may_leave
returns-else-may_leave c setting state packets rest =
    needed (IsLegalJob setting state (job.Pass c.args.server c.args.origin)) _ c.may_leave.result
    (c.may_leave.ensures setting state rest.resting) c.if-may_leave.false (λ legal. (legal.0.0, legal.0.1))
