use Rattle.std.proofs.Common.{◌≡◌, ◌∙◌, sym}
use Rattle.std.specs.Cmp.{unsigned_Decides}
use Rattle.std.specs.Cmp.Lexicographic.{pointwise_decides}
use Rattle.ftc_vector.proofs.MarkFields.{told_by_flags, told_by_numbers}
use Rattle.ftc_vector.proofs.marks.MarksPartialEq.eq.Goals as goal

pub returns-then-eq : goal.returns-then-eq
returns-then-eq c =
    let one = c.self.inside in
    let other = c.other.inside in
    let same : one.numbers ≡ other.numbers =
    (pointwise_decides unsigned_Decides one.numbers other.numbers).0 (sym c.eq.ensures ∙ c.if-eq.true) in
    rw (← c.self.view_is, ← c.other.view_is)
    (told_by_flags one.numbers other.numbers one.marked other.marked c.eq-then-eq.result one.end other.end
    c.self.invariant c.other.invariant same c.eq-then-eq.ensures)

pub returns-else-eq : goal.returns-else-eq
returns-else-eq c =
    let one = c.self.inside in
    let other = c.other.inside in
    rw (← c.self.view_is, ← c.other.view_is)
    (c.if-eq.false ∙ sym (told_by_numbers one.numbers other.numbers one.marked other.marked one.end other.end
    c.self.invariant c.other.invariant (sym c.if-eq.false ∙ c.eq.ensures)))
