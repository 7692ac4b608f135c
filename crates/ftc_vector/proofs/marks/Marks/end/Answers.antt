use Rattle.ftc_vector.proofs.MarkFields.{marks_are}
use Rattle.ftc_vector.proofs.marks.Marks.end.Goals as goal

pub returns-clause-same : goal.returns-clause-same
returns-clause-same c = rw (← c.self.view_is) c.self.invariant.ends

pub returns-clause-bounds : goal.returns-clause-bounds
returns-clause-bounds c =
    rw (← c.self.view_is) (marks_are c.self.inside.numbers c.self.inside.marked c.self.inside.end c.self.invariant)
