use Rattle.std.proofs.Common.{subst}
use Rattle.std.proofs.Math.Logic.{∥∥₁_map}
use Rattle.std.specs.Prelude.{IfSome}
use Rattle.std.proofs.lemmas.Option.{IfSome_then}
use Rattle.ftc_journal.specs.declared.job.Job.{Job}
use Rattle.ftc_chain.specs.ChainRun.{ChainRun, setting_in, chain_state}
use Rattle.ftc_protocol.specs.Jobs.{IsFirstJob}
use Rattle.ftc_protocol.specs.Run.{IsFinished}
use Rattle.ftc_chain.proofs.AtRest.{at_rest}
use Rattle.ftc_chain.proofs.chain.Chain.next.Goals as goal

pub returns-clause-first : goal.returns-clause-first
returns-clause-first c =
    let given = c.self.inside.given in
    subst (λ (run : ChainRun). IfSome c.first_job.result
    (λ (job : Job). ∥ IsFirstJob (setting_in run) (chain_state run) job ∥₁)) c.self.view_is
    (IfSome_then c.first_job.result c.first_job.ensures.first (λ job first. ∥∥₁_map c.self.invariant.1 (λ resting.
    first _ _
    (at_rest given c.self.inside.course _ c.len-packets.ensures.same c.len-packets.ensures.few c.few_propagates.ensures
    (c.accepted.ensures.few given.spec.now _ given.script.now c.ring.ensures.accepted)
    resting))))

pub returns-clause-none : goal.returns-clause-none
returns-clause-none c none =
    let given = c.self.inside.given in
    subst (λ (run : ChainRun). ∥ IsFinished (setting_in run) (chain_state run) ∥₁) c.self.view_is
    (∥∥₁_map c.self.invariant.1 (λ resting. c.first_job.ensures.none none _ _
    (at_rest given c.self.inside.course _ c.len-packets.ensures.same c.len-packets.ensures.few c.few_propagates.ensures
    (c.accepted.ensures.few given.spec.now _ given.script.now c.ring.ensures.accepted)
    resting)))
