use Rattle.ftc_vector.proofs.MarkFields.{marks_are, mark_where, mark_nowhere}
use Rattle.ftc_vector.proofs.marks.Marks.at.Goals as goal

pub returns-then-self-from-clause-same : goal.returns-then-self-from-clause-same
returns-then-self-from-clause-same c =
    rw (← c.self.view_is, c.from-then-self-from.ensures)
    (mark_where c.self.inside.numbers c.self.inside.marked c.args.partition c.requires
    (rw c.from.ensures at c.if-self-from.true))

pub returns-then-self-from-clause-bounds : goal.returns-then-self-from-clause-bounds
returns-then-self-from-clause-bounds c =
    rw (← c.self.view_is) (marks_are c.self.inside.numbers c.self.inside.marked c.self.inside.end c.self.invariant)

pub returns-clause-same : goal.returns-clause-same
returns-clause-same c =
    rw (← c.self.view_is) (mark_nowhere c.self.inside.numbers c.self.inside.marked c.args.partition c.requires
    (rw c.from.ensures at c.if-self-from.false))

pub returns-clause-bounds : goal.returns-clause-bounds
returns-clause-bounds c = rw (← c.self.view_is)
    (marks_are c.self.inside.numbers c.self.inside.marked c.self.inside.end c.self.invariant)
