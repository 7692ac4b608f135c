use Rattle.std.proofs.Common.{◌≡◌, ◌∙◌, ◌∷◌, List, Some, drop, ap, sym, subst}
use Rattle.std.proofs.lemmas.Option.{none-some, same_Some}
use Rattle.ftc_protocol.specs.Legal.{IsNextLine}
use Rattle.ftc_script.specs.declared.line.ScriptLine.{ScriptLine}
use Rattle.ftc_script.specs.Steps.{at_of}
use Rattle.ftc_jobs.proofs.NextLine.{line_at, next_of_first, first_is_next}
use Rattle.ftc_jobs.proofs.lines.next_line.Goals as goal

pub returns-then-at-network : goal.returns-then-at-network
returns-then-at-network c setting state packets rest line =
    let network = c.args.network.now in
    let step = c.step-line.result in
    let at = line_at c.args.script.now.steps network.done step c.step-line.ensures in
    let left : state.lines ≡ step ∷ at.0 = rest.resting.stands.counts.lines
    ∙ (ap (λ (list : List ScriptLine). drop network.done list) rest.lines ∙ at.1) in
    let due : at_of step ≡ state.entered =
    sym c.at.ensures ∙ (c.if-at-network.true ∙ rest.resting.stands.counts.entered_is) in (
      (λ same.
          let is = same_Some step line same in
          subst (λ (l : ScriptLine). IsNextLine state.lines l × (at_of l ≡ state.entered)) is
          (first_is_next state.lines step at.0 left, due)),
      (λ next. ap (λ (l : ScriptLine). Some l) (next_of_first state.lines step at.0 line left next.0)),
    )

pub returns-else-at-network : goal.returns-else-at-network
returns-else-at-network c setting state packets rest line =
    let network = c.args.network.now in
    let step = c.step-line.result in
    let at = line_at c.args.script.now.steps network.done step c.step-line.ensures in
    let left : state.lines ≡ step ∷ at.0 = rest.resting.stands.counts.lines
    ∙ (ap (λ (list : List ScriptLine). drop network.done list) rest.lines ∙ at.1) in (
      (λ same. absurd (none-some line same)),
      (λ next. absurd (c.if-at-network.false
          (c.at.ensures ∙ (ap at_of (next_of_first state.lines step at.0 line left next.0)
          ∙ (next.1 ∙ sym rest.resting.stands.counts.entered_is))))),
    )
