use Rattle.std.proofs.Common.{◌<◌, ℕ, length}
use Rattle.ftc_vector.specs.Vector.{IsVector}
use Rattle.ftc_vector.specs.Commits.{vector_of, held_of}
use Rattle.ftc_vector.proofs.Held.{length-by_group, vector_of-by_group, held_is}
use Rattle.ftc_vector.proofs.commits.Commits.bounds.Goals as goal

pub returns-clause-size : goal.returns-clause-size
returns-clause-size c = rw (← c.self.view_is) (length-by_group (held_of c.self.inside.vectors.items))

pub returns-clause-each : goal.returns-clause-each
returns-clause-each c =
    let items = c.self.inside.vectors.items in
    let each : (group : ℕ) → group < length items → IsVector (vector_of items group) =
    rw c.as_slice.ensures.value at c.bounds.ensures in
    λ group within. rw (← c.self.view_is, vector_of-by_group (held_of items) group within) (held_is items group each)
