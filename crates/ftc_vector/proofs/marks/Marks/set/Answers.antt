use Rattle.ftc_vector.proofs.MarkFields.{marks_set, are_set}
use Rattle.ftc_vector.proofs.marks.Marks.set.Goals as goal

pub invariant_of-self : goal.invariant_of-self
invariant_of-self c =
    rw (c.max-self-inside.ensures, c.from.ensures, c.from-2.ensures)
    (are_set c.self.inside.numbers c.self.inside.marked c.self.inside.end c.args.partition c.args.number
    c.self.invariant
    c.requires c.ranges.number.fits)

pub returns : goal.returns
returns c =
    rw (← c.self.view_is, c.from.ensures, c.from-2.ensures) (marks_set c.self.inside.numbers c.self.inside.marked
    c.self.inside.end c.args.partition c.args.number c.self.invariant c.requires)
