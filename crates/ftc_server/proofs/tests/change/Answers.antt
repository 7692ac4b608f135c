use Rattle.std.proofs.Common.{ℕ, IsSome, sym, subst}
use Rattle.ftc_vector.specs.Vector.{mark_at}
use Rattle.ftc_server.proofs.tests.change.Goals as goal

pub new-requires-3-clause-marked : goal.new-requires-3-clause-marked
new-requires-3-clause-marked c =
    λ partition is. subst (λ (q : ℕ). IsSome (mark_at c.marks.result q)) (sym (c.only.ensures partition is))
    c.marks.ensures
