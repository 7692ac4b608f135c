use Rattle.std.proofs.Common.{◌∙◌}
use Rattle.ftc_machine.specs.DueTests.{is_due_before, known_last}
use Rattle.ftc_machine.proofs.state.MachineState.has_due_before.Goals as goal

pub returns : goal.returns
returns c = c.is_any_due_before.ensures ∙ c.live.ensures
    (is_due_before c.args.self.now (known_last c.args.self.now) c.args.since)
