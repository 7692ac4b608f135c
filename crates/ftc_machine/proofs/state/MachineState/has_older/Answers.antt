use Rattle.std.proofs.Common.{◌∙◌}
use Rattle.ftc_machine.specs.LegalityTests.{is_older}
use Rattle.ftc_machine.proofs.state.MachineState.has_older.Goals as goal

pub returns : goal.returns
returns c = c.is_any_older.ensures ∙ c.live.ensures (is_older c.args.link c.args.since)
