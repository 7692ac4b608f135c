use Rattle.std.proofs.Common.{ℕ, Bool, sym, ap, ◌∙◌}
use Rattle.ftc_script.specs.Steps.{all_live, live_after}
use Rattle.ftc_script.proofs.InTurn.{live_push, last_push}
use Rattle.ftc_script.proofs.draft.Draft.with_step.Goals as goal

pub invariant_of-result : goal.invariant_of-result
invariant_of-result c =
    rw c.in_ok-push.ensures.ok (
      c.down_behind-down.ensures ∙ ap (λ (live : ℕ → Bool). live_after live c.args.step) c.self.invariant.0 ∙ sym
          (live_push all_live c.self.inside.steps c.args.step),
      c.at-last.ensures ∙ sym (last_push 0 c.self.inside.steps c.args.step),
    )
