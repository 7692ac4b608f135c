use Rattle.std.proofs.Common.{ℕ, refl}
use Rattle.ftc_journal.specs.declared.job.Job.TheVariants as job
use Rattle.ftc_protocol.specs.Jobs.{IsLegalJob}
use Rattle.ftc_script.specs.declared.line.ScriptLine.TheVariants.{Recover}
use Rattle.ftc_jobs.proofs.Chosen.{never}
use Rattle.ftc_jobs.proofs.NextLine.{kind_found, none_of_kind}
use Rattle.ftc_jobs.proofs.legal.may_recover.Goals as goal

pub returns-in-Some : goal.returns-in-Some
returns-in-Some c setting state packets rest =
    let says = kind_found (λ (at : ℕ). Recover at c.args.server) (λ at. refl) state.lines state.entered
    c.next_line.result (c.next_line.ensures setting state packets rest) c.in-Some.line c.is_recover.result c.in-Some.is
    c.is_recover.ensures in
    ((λ test. ((says.0 test, refl), λ other. rest.resting.none_due)), (λ legal. says.1 legal.0.0))

pub returns-in-None : goal.returns-in-None
returns-in-None c setting state packets rest =
    never (IsLegalJob setting state (job.Recover c.args.server)) (λ legal.
    none_of_kind (λ (at : ℕ). Recover at c.args.server) (λ at. refl) state.lines state.entered c.next_line.result
    (c.next_line.ensures setting state packets rest) c.in-None.is legal.0.0)
