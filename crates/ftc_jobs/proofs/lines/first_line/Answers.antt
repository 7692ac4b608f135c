use Rattle.std.proofs.Common.{◌≡◌, ◌∙◌, ℕ, inl, inr, refl, sym, subst}
use Rattle.std.proofs.lemmas.Option.{none-some}
use Rattle.ftc_journal.specs.declared.job.Job.{Job}
use Rattle.ftc_protocol.specs.Drive.{IsNoneDue}
use Rattle.ftc_protocol.specs.Jobs.{IsLegalJob, IsInTurn, IsNoPull, AreIdle, IsNoTake}
use Rattle.ftc_protocol.specs.Legal.{IsNextLine}
use Rattle.ftc_protocol.specs.Setting.{Setting}
use Rattle.ftc_protocol.specs.State.{ChainState}
use Rattle.ftc_script.specs.declared.line.ScriptLine.{ScriptLine}
use Rattle.ftc_script.specs.declared.line.ScriptLine.TheVariants.{Crash, Recover}
use Rattle.ftc_script.specs.Steps.{at_of}
use Rattle.ftc_jobs.specs.Beside.{IsOtherJob}
use Rattle.ftc_jobs.specs.Lines.{job_of_line}
use Rattle.ftc_jobs.proofs.Wanted.{line_is_no_visit}
use Rattle.ftc_jobs.proofs.lines.first_line.Goals as goal

legal_line : (setting : Setting) (state : ChainState) (line : ScriptLine) → IsNoneDue setting state →
    IsNextLine state.lines line → at_of line ≡ state.entered → IsLegalJob setting state (job_of_line line)
legal_line setting state (Crash at server) none next due =
    (subst (λ (n : ℕ). IsNextLine state.lines (Crash n server)) due next, λ other. none)
legal_line setting state (Recover at server) none next due =
    ((subst (λ (n : ℕ). IsNextLine state.lines (Recover n server)) due next, refl), λ other. none)

line_in_turn : (setting : Setting) (state : ChainState) (line : ScriptLine) → IsNoneDue setting state →
    IsNextLine state.lines line → at_of line ≡ state.entered → IsNoPull setting state → AreIdle setting state →
    IsNoTake setting state → IsInTurn setting state (job_of_line line)
line_in_turn setting state (Crash at server) none next due no_pull idle no_take = (
  no_pull,
  idle,
  no_take,
  legal_line setting state (Crash at server) none next due,
)
line_in_turn setting state (Recover at server) none next due no_pull idle no_take = (
  no_pull,
  idle,
  no_take,
  legal_line setting state (Recover at server) none next due,
)

pub returns-in-Some-clause-some : goal.returns-in-Some-clause-some
returns-in-Some-clause-some c setting state packets rest no_pull idle no_take =
    let next = (c.next_line.ensures setting state packets rest c.in-Some.line).0 c.in-Some.is in
    subst (λ (j : Job). IsInTurn setting state j) (sym c.job_of_line.ensures)
    (line_in_turn setting state c.in-Some.line rest.resting.none_due next.0 next.1 no_pull idle no_take)

pub returns-in-None-clause-none : goal.returns-in-None-clause-none
returns-in-None-clause-none c none setting state packets rest server legal =
    let isnt = λ (line : ScriptLine) (next : IsNextLine state.lines line) (at : at_of line ≡ state.entered).
    none-some line (sym c.in-None.is ∙ (c.next_line.ensures setting state packets rest line).1 (next, at)) in
    elim legal [
      | inl crash ↦ isnt (Crash state.entered server) crash.0 refl
      | inr recover ↦ isnt (Recover state.entered server) recover.0.0 refl
    ]

pub returns-in-Some-clause-other : goal.returns-in-Some-clause-other
returns-in-Some-clause-other c setting state packets rest =
    let line = c.in-Some.line in
    let next = (c.next_line.ensures setting state packets rest line).0 c.in-Some.is in
    subst (λ (j : Job). IsOtherJob setting state j) (sym c.job_of_line.ensures) (record {
      legal = legal_line setting state line rest.resting.none_due next.0 next.1;
      other = line_is_no_visit line;
    })
