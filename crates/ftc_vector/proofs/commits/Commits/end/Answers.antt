use Rattle.std.proofs.Common.{rules, ◌≡◌, ◌<◌, ◌∙◌, ◌-◌, ℕ, false, length, sym, arith}
use Rattle.std.proofs.lemmas.List.{get_or_default}
use Rattle.ftc_vector.specs.Vector.{by_partition, IsVector}
use Rattle.ftc_vector.specs.Commits.{vector_of, held_of}
use Rattle.ftc_vector.proofs.Held.{end_found, held_is, one_less}
use Rattle.ftc_vector.proofs.commits.Commits.end.Goals as goal

pub returns-then-not-is_zero : goal.returns-then-not-is_zero
returns-then-not-is_zero c =
    let vectors = c.self.inside.vectors in
    let here : c.index.result.now ≡ held_of vectors.items (c.loop-end.end - 1) =
    c.index.ensures ∙ get_or_default vectors.items (c.loop-end.end - 1) c.index.result.now (by_partition (λ _. 0))
    (omega (arith, c.loop-end.invariant.held, c.loop-end-test.true)) in
    let some : c.is_zero.result ≡ false = search rules in
    rw (← c.self.view_is) (end_found vectors.items c.loop-end.end
    (omega (arith, c.loop-end.invariant.held, c.self.invariant.0.few)) c.loop-end.invariant.beyond
    (λ group is.
    let same : group ≡ c.loop-end.end - 1 = omega (arith, is) in
    rw (same, ← here) (sym c.is_zero.ensures ∙ some)))

pub loop-end-preserved : goal.loop-end-preserved
loop-end-preserved c =
    let items = c.self.inside.vectors.items in
    let place = c.loop-end.end - 1 in
    let each : (group : ℕ) → group < length items → IsVector (vector_of items group) =
    rw c.as_slice.ensures.value at c.bounds.ensures in
    let here : c.index.result.now ≡ held_of items place =
    c.index.ensures ∙ get_or_default items place c.index.result.now (by_partition (λ _. 0))
    (omega (arith, c.loop-end.invariant.held, c.loop-end-test.true)) in
    record {
      held = omega (arith, c.loop-end.invariant.held);
      beyond = one_less items c.loop-end.end c.index.result.now here (rw here (held_is items place each))
          (sym c.is_zero.ensures ∙ c.if-not-is_zero.false) c.loop-end.invariant.beyond;
    }

pub returns : goal.returns
returns c =
    rw (← c.self.view_is) (end_found c.self.inside.vectors.items 0 (omega arith)
    (λ group past. c.loop-end.invariant.beyond group (omega (arith, c.loop-end-test.false)))
    (λ group is. absurd (omega (arith, is))))
