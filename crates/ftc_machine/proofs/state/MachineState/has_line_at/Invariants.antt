-- none of the lines before this place is at that number
use Rattle.std.proofs.Common.{◌≡◌, ◌==◌, drop}
use Rattle.std.specs.List.{list_any}
use Rattle.ftc_script.specs.declared.line.ScriptLine.{ScriptLine}
use Rattle.ftc_script.specs.Steps.{at_of}
use Rattle.ftc_machine.proofs.state.MachineState.has_line_at.Given as goal

abbrev pub invariant-loop-place : goal.invariant-loop-place
invariant-loop-place l = record {
  same : list_any (λ (line : ScriptLine). at_of line == l.entered) (drop l.place l.script.steps)
      ≡ list_any (λ (line : ScriptLine). at_of line == l.entered) (drop l.self.done l.script.steps);
}
