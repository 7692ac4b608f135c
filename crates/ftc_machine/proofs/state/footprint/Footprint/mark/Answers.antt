use Rattle.std.proofs.Common.{ℕ, ◌<◌, if◌then◌else◌, List, length, sym, ap, ◌∙◌, arith}
use Rattle.std.specs.Prelude.{slice_set}
use Rattle.ftc_vector.specs.Vector.{number_at}
use Rattle.ftc_machine.proofs.VisitMarks.{marks_more}
use Rattle.ftc_machine.proofs.state.footprint.Footprint.mark.Goals as goal

pub loop-touched-preserved : goal.loop-touched-preserved
loop-touched-preserved c = λ partition.
    let next = c.touched-item.result in
    let inside : next.partition < length c.loop-touched.vector = omega (arith, next.within, c.at.ensures.bounds.size) in
    ap (λ (vector : List ℕ). number_at vector partition)
    (c.set.ensures
    ∙ ap (slice_set c.loop-touched.vector next.partition) (c.left-number.ensures ∙ ap (λ (n : ℕ). if next.changed then
    c.args.self.now.number else n) c.at.ensures.same))
    ∙ marks_more c.loop-touched.vector c.as_slice-touched-items.result.now c.loop-touched.touched-index next
    c.args.self.now.number (number_at c.args.vector.now) c.loop-touched-test.true
    (sym c.touched-item.is) inside c.loop-touched.invariant partition
