use Rattle.std.proofs.Common.{List, subst}
use Rattle.std.proofs.Math.Logic.{∥∥₁_map}
use Rattle.std.specs.Prelude.{IfOk}
use Rattle.std.proofs.lemmas.Result.{IfOk-weaker}
use Rattle.ftc_jobs.specs.All.{AreJobs}
use Rattle.ftc_journal.specs.declared.job.Job.{Job}
use Rattle.ftc_chain.specs.ChainRun.{ChainRun, setting_in, chain_state}
use Rattle.ftc_chain.specs.Doing.{setting_by}
use Rattle.ftc_chain.specs.Slots.{is_running_at}
use Rattle.ftc_chain.proofs.AtRest.{at_rest}
use Rattle.ftc_chain.proofs.SeenJobs.{seen_jobs}
use Rattle.ftc_chain.proofs.chain.Chain.jobs.Goals as goal

pub returns : goal.returns
returns c =
    let given = c.self.inside.given in
    subst (λ (run : ChainRun). IfOk c.all_jobs.result
    (λ (jobs : List Job). ∥ AreJobs (is_running_at run) (setting_in run) (chain_state run) jobs ∥₁)) c.self.view_is
    (IfOk-weaker c.all_jobs.result _ _ (λ jobs are. ∥∥₁_map c.self.invariant.1 (λ resting.
    seen_jobs given c.self.inside.course (setting_by given) _ jobs (are _ _
    (at_rest given c.self.inside.course _ c.len-packets.ensures.same c.len-packets.ensures.few c.few_propagates.ensures
    (c.accepted.ensures.few given.spec.now _ given.script.now c.ring.ensures.accepted)
    resting))))
    c.all_jobs.ensures)
