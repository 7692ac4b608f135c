use Rattle.std.proofs.Common.{ℕ, refl}
use Rattle.ftc_journal.specs.declared.job.Job.TheVariants as job
use Rattle.ftc_protocol.specs.Jobs.{IsLegalJob}
use Rattle.ftc_script.specs.declared.line.ScriptLine.TheVariants.{Crash}
use Rattle.ftc_jobs.proofs.Chosen.{never}
use Rattle.ftc_jobs.proofs.NextLine.{kind_found, none_of_kind}
use Rattle.ftc_jobs.proofs.legal.may_crash.Goals as goal

pub returns-in-Some : goal.returns-in-Some
returns-in-Some c setting state packets rest =
    let says = kind_found (λ (at : ℕ). Crash at c.args.server) (λ at. refl) state.lines state.entered
    c.next_line.result (c.next_line.ensures setting state packets rest) c.in-Some.line c.is_crash.result c.in-Some.is
    c.is_crash.ensures in
    ((λ test. (says.0 test, λ other. rest.resting.none_due)), (λ legal. says.1 legal.0))

pub returns-in-None : goal.returns-in-None
returns-in-None c setting state packets rest =
    never (IsLegalJob setting state (job.Crash c.args.server)) (λ legal.
    none_of_kind (λ (at : ℕ). Crash at c.args.server) (λ at. refl) state.lines state.entered c.next_line.result
    (c.next_line.ensures setting state packets rest) c.in-None.is legal.0)
