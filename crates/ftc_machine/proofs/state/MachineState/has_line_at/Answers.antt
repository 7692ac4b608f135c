use Rattle.std.proofs.Common.{◌∙◌, sym, eq-eqb}
use Rattle.std.proofs.lemmas.Bool.{ne_eqb}
use Rattle.ftc_script.specs.Steps.{at_of}
use Rattle.ftc_machine.proofs.LinesLeft.{any_here, any_behind}
use Rattle.ftc_machine.proofs.state.MachineState.has_line_at.Goals as goal

pub returns-then-at-entered : goal.returns-then-at-entered
returns-then-at-entered c =
    sym (any_here c.args.script.now.steps c.loop-place.place c.args.entered c.step.result c.step.ensures
    (eq-eqb (at_of c.step.result) c.args.entered
    (sym c.at.ensures ∙ c.if-at-entered.true))) ∙ c.loop-place.invariant.same

pub loop-place-preserved : goal.loop-place-preserved
loop-place-preserved c = record {
  same = sym (any_behind c.args.script.now.steps c.loop-place.place c.args.entered c.step.result c.step.ensures
      (ne_eqb (at_of c.step.result) c.args.entered
      (λ e. c.if-at-entered.false (c.at.ensures ∙ e)))) ∙ c.loop-place.invariant.same;
}
