use Rattle.std.proofs.Common.{ℕ, IsSome, sym, ap, subst}
use Rattle.std.specs.Prelude.{is_some}
use Rattle.ftc_vector.specs.Vector.{mark_at}
use Rattle.ftc_bench.proofs.samples.one_log.Goals as goal

pub new-requires-4-clause-marked : goal.new-requires-4-clause-marked
new-requires-4-clause-marked c =
    λ partition is. subst (λ (q : ℕ). IsSome (mark_at c.marks.result q)) (sym (c.changed.ensures partition is))
    (ap is_some c.marks.ensures.here)
