use Rattle.std.proofs.Common.{◌≡◌, ◌∙◌, ℕ, List, sym, ap, subst, below_more, eqb-true, arith, rules}
use Rattle.std.proofs.lemmas.Bool.{true≢false, not-false}
use Rattle.ftc_vector.specs.Commits.{vector_of}
use Rattle.ftc_machine.specs.Gain.{Exceeds}
use Rattle.ftc_machine.proofs.effects.gain.has_gain.Goals as goal
use Rattle.ftc_machine.proofs.effects.gain.has_gain.Goals.{else-ne-via-then-ne+else-exceeds, else-ne-via-else-ne}

pub loop-number-preserved : goal.loop-number-preserved
loop-number-preserved c =
    let group : c.unwrap-group.result ≡ c.loop-number.number = search rules in
    below_more _ _ c.loop-number.invariant
    (elim c.else-ne.branch [
      | else-ne-via-then-ne+else-exceeds w ↦ λ ne news.
          let one : vector_of c.args.one.now c.loop-number.number ≡ w.of.result.now =
          sym (w.of.ensures.same ∙ ap (vector_of c.args.one.now) group) in
          let other : vector_of c.args.other.now c.loop-number.number ≡ w.of-then-ne.result.now =
          sym (w.of-then-ne.ensures.same ∙ ap (vector_of c.args.other.now) group) in
          let more = subst (λ (v : List ℕ). Exceeds w.of.result.now v) other
          (subst (λ (v : List ℕ). Exceeds v (vector_of c.args.other.now c.loop-number.number)) one news) in
          true≢false (sym (w.exceeds.ensures.1 more) ∙ w.if-exceeds.false)
      | else-ne-via-else-ne w ↦ λ ne news. ne
          (sym group ∙ eqb-true c.unwrap-group.result c.args.except (not-false _ (sym c.ne.ensures ∙ w.if-ne.false)))
    ])

pub returns : goal.returns
returns c = (
  λ is. absurd (true≢false (sym is)),
  λ news. absurd (c.loop-number.invariant news.0 (let less = news.1 in let end = c.loop-number-test.false in
      omega arith) news.2 news.3),
)
