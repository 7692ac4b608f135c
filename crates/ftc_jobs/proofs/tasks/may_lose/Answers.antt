use Rattle.std.proofs.Common.{◌∙◌, sym}
use Rattle.std.proofs.lemmas.Bool.{and_from, and_parts}
use Rattle.ftc_journal.specs.declared.job.Job.TheVariants as job
use Rattle.ftc_protocol.specs.Jobs.{IsLegalJob}
use Rattle.ftc_protocol.specs.Legal.{is_sent}
use Rattle.ftc_jobs.proofs.Chosen.{needed}
use Rattle.ftc_jobs.proofs.tasks.may_lose.Goals as goal

pub returns-then-may_leave : goal.returns-then-may_leave
returns-then-may_leave c setting state packets rest =
    let sent = is_sent setting c.args.server in
    let loses = setting.loses c.args.server c.args.origin in
    let leaves = c.may_leave.ensures setting state rest.resting in
    let lost = c.is_lost.ensures setting state packets rest in (
      (λ test.
          let may = leaves.0 c.if-may_leave.true in
          let parts = and_parts sent loses (sym lost ∙ test) in
          ((may.0, may.1, parts.0, parts.1), λ other. rest.resting.none_due)),
      (λ legal. lost ∙ and_from sent loses legal.0.2 legal.0.3),
    )

pub returns-else-may_leave : goal.returns-else-may_leave
returns-else-may_leave c setting state packets rest =
    needed (IsLegalJob setting state (job.Lose c.args.server c.args.origin)) _ c.may_leave.result
    (c.may_leave.ensures setting state rest.resting) c.if-may_leave.false (λ legal. (legal.0.0, legal.0.1))
