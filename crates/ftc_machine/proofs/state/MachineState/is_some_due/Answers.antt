use Rattle.std.proofs.Common.{◌∙◌}
use Rattle.ftc_machine.specs.DueTests.{is_due_by, known_last}
use Rattle.ftc_machine.proofs.state.MachineState.is_some_due.Goals as goal

pub returns : goal.returns
returns c = c.is_any_due.ensures ∙ c.live.ensures (is_due_by c.args.self.now (known_last c.args.self.now))
