use Rattle.std.proofs.Common.{◌≡◌, ◌≢◌, ◌∙◌, true, sym, arith}
use Rattle.std.specs.Prelude.{nat_eq, not}
use Rattle.std.specs.Cmp.Lexicographic.{pointwise}
use Rattle.ftc_vector.specs.Commits.{vector_of}
use Rattle.ftc_vector.proofs.Alike.{told_same, told_other}
use Rattle.ftc_vector.proofs.GroupLists.{same_groups}
use Rattle.ftc_vector.proofs.commits.CommitsPartialEq.eq.Goals as goal

pub returns-then-ne : goal.returns-then-ne
returns-then-ne c =
    let differs : pointwise nat_eq (vector_of c.args.self.now c.unwrap-group.result)
    (vector_of c.args.other.now c.unwrap-group.result) ≢ true = λ told.
    let flipped : true ≡ not true =
    rw (c.of.ensures.same, c.of-in-loop-number.ensures.same, told) at (sym c.if-ne.true ∙ c.ne.ensures) in
    absurd cc in
    sym (told_other c.args.self.now c.args.other.now c.unwrap-group.result differs)

pub returns : goal.returns
returns c =
    sym (told_same c.args.self.now c.args.other.now
    (same_groups c.args.self.now c.args.other.now c.bounds.ensures.size c.bounds-2.ensures.size
    (λ group within. c.loop-number.invariant group (omega (arith, within, c.loop-number-test.false)))))
