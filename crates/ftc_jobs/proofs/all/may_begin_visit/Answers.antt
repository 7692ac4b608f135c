use Rattle.std.proofs.Common.{◌≡◌, ◌∙◌, false, sym}
use Rattle.std.proofs.lemmas.Bool.{true≢false}
use Rattle.ftc_journal.specs.declared.job.Job.TheVariants.{Visit}
use Rattle.ftc_protocol.specs.Jobs.{IsLegalJob}
use Rattle.ftc_jobs.specs.All.{is_running_by}
use Rattle.ftc_jobs.proofs.Chosen.{never}
use Rattle.ftc_jobs.proofs.all.may_begin_visit.Goals as goal

pub returns-then-is_running : goal.returns-then-is_running
returns-then-is_running c setting state rest =
    never (IsLegalJob setting state (Visit c.args.server c.args.packet)
    × (is_running_by c.args.network.now c.args.server c.args.packet ≡ false))
    (λ both. true≢false (sym c.if-is_running.true ∙ (c.is_running.ensures setting state rest.stands ∙ both.1)))

pub returns : goal.returns
returns c setting state rest =
    let may = c.may_visit.ensures setting state rest in (
      (λ test. (may.0 test, sym (c.is_running.ensures setting state rest.stands) ∙ c.if-is_running.false)),
      (λ both. may.1 both.0),
    )
