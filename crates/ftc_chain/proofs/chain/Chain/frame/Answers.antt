use Rattle.std.proofs.Common.{ℕ, List, Option, subst}
use Rattle.std.specs.Prelude.{IfOk}
use Rattle.std.proofs.Math.Logic.{∥∥₁_map}
use Rattle.std.proofs.lemmas.Result.{IfOk-weaker}
use Rattle.ftc_chain.specs.ChainRun.{ChainRun, setting_in, chain_state}
use Rattle.ftc_chain.specs.Course.{state_by}
use Rattle.ftc_chain.specs.Doing.{setting_by}
use Rattle.ftc_chain.specs.Frames.{IsFrameOf}
use Rattle.ftc_chain.proofs.Releases.{is_run_state}
use Rattle.ftc_chain.proofs.chain.Chain.frame.Goals as goal

pub returns : goal.returns
returns c =
    let given = c.self.inside.given in
    let course = c.self.inside.course in
    let setting = setting_by given in
    subst (λ (run : ChainRun). IfOk c.frame_at.result (λ (frame : Option (List ℕ)).
    ∥ IsFrameOf (setting_in run) (chain_state run) c.args.link frame ∥₁)) c.self.view_is
    (IfOk-weaker c.frame_at.result _ _ (λ frame says. ∥∥₁_map c.self.invariant.1 (λ resting.
    says setting (state_by setting course.journal.items) (is_run_state setting course resting.course_is)
    resting.course_is.stands)) c.frame_at.ensures)
