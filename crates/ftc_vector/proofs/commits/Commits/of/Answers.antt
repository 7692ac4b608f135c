use Rattle.std.proofs.Common.{◌∙◌, arith}
use Rattle.ftc_vector.specs.Commits.{held_of}
use Rattle.ftc_vector.proofs.Held.{length-by_group, vector_of-by_group, held_at}
use Rattle.ftc_vector.proofs.commits.Commits.of.Goals as goal

pub returns-clause-same : goal.returns-clause-same
returns-clause-same c =
    let vectors = c.self.inside.vectors in
    rw (
      ← c.self.view_is,
      vector_of-by_group (held_of vectors.items) c.args.group (omega (
        arith,
        c.number.ensures.same,
        c.number.ensures.within,
      )),
    )
    (c.index.ensures ∙ held_at vectors.items c.args.group c.min.result c.index.result.now c.self.invariant.0
    (omega (arith, c.min.ensures, c.from.ensures, c.number.ensures.same, c.len-last.ensures, vectors.ok)))

pub returns-clause-size : goal.returns-clause-size
returns-clause-size c = rw (← c.self.view_is) (length-by_group (held_of c.self.inside.vectors.items))
