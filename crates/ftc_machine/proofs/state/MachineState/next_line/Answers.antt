use Rattle.std.proofs.Common.{◌∙◌, sym, subst, ◌≤◌}
use Rattle.ftc_machine.proofs.LinesLeft.{first_left, none_left}
use Rattle.ftc_machine.proofs.state.MachineState.next_line.Goals as goal

pub returns-then-self-steps : goal.returns-then-self-steps
returns-then-self-steps c = sym (first_left c.args.script.now.steps c.args.self.now.done ∙ c.step.ensures)

pub returns-else-self-steps : goal.returns-else-self-steps
returns-else-self-steps c =
    sym (none_left c.args.script.now.steps c.args.self.now.done
    (subst (λ n. n ≤ c.args.self.now.done) c.steps.ensures c.if-self-steps.false))
