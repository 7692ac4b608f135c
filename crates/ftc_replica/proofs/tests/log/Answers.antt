use Rattle.std.proofs.Common.{ℕ, IsSome, sym, subst}
use Rattle.ftc_vector.specs.Vector.{mark_at}
use Rattle.ftc_replica.proofs.tests.log.Goals as goal

pub new-requires-4-clause-marked : goal.new-requires-4-clause-marked
new-requires-4-clause-marked c =
    λ partition is. subst (λ (q : ℕ). IsSome (mark_at c.marks.result q))
    (sym (c.only.ensures partition is)) c.marks.ensures
