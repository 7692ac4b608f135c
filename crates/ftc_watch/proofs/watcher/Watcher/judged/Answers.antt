use Rattle.std.proofs.Common.{◌≡◌, ℕ, get_or, ap, subst, ◌∙◌}
use Rattle.ftc_watch.specs.Watcher.{Kept, known}
use Rattle.ftc_watch.specs.Watch.{judge_at}
use Rattle.ftc_watch.proofs.Steps.{unjudged}
use Rattle.ftc_watch.proofs.watcher.Watcher.judged.Goals as goal

pub returns-then-self-from : goal.returns-then-self-from
returns-then-self-from c =
    let kept : Kept = record {
      down = c.self.inside.down;
      missed = c.self.inside.missed;
      script =
          c.self.inside.script;
      held = c.self.inside.held;
    } in
    let alike = unjudged c.args.ring.now c.args.limit c.args.at (known kept) c.args.server
    (λ e. c.if-self-from.true (ap (λ (k : ℕ). get_or c.self.inside.missed k 0)
    (c.from.ensures ∙ c.number-number.ensures.same) ∙ e)) in
    subst (λ (k : Kept). known k ≡ judge_at c.args.ring.now c.args.limit c.args.at
    (known k) c.args.server) c.self.view_is alike
