use Rattle.std.proofs.Common.{subst}
use Rattle.std.proofs.lemmas.Option.{IfSome_then}
use Rattle.ftc_protocol.specs.State.{ChainState}
use Rattle.ftc_protocol.specs.Drive.{IsNoneDue}
use Rattle.ftc_protocol.specs.Jobs.{IsFirstJob, IsInTurn}
use Rattle.ftc_protocol.specs.Run.{IsFinished}
use Rattle.ftc_jobs.specs.Turn.{IsNothingLegal}
use Rattle.ftc_jobs.proofs.first.first_job.Goals as goal

pub returns-clause-first : goal.returns-clause-first
returns-clause-first c =
    IfSome_then c.first_in_turn.result c.first_in_turn.ensures.some (λ job turn setting state rest.
    let run = rest.resting.run in
    subst (λ (s : ChainState). IsInTurn setting s job → IsFirstJob setting s job) run.reaches
    (c.first_job.ensures.turn setting run.journal job).1 (turn setting state rest))

pub returns-clause-none : goal.returns-clause-none
returns-clause-none c none setting state rest =
    let run = rest.resting.run in
    subst (λ (s : ChainState). IsNoneDue setting s → IsNothingLegal setting s → IsFinished setting s) run.reaches
    (c.first_job.ensures.none setting run.right run.journal run.run) rest.resting.none_due
    (c.first_in_turn.ensures.none none setting state rest)
