use Rattle.std.proofs.Common.{refl}
use Rattle.std.proofs.lemmas.Option.{IfSome_then}
use Rattle.ftc_jobs.proofs.first.first_in_turn.Goals as goal

pub returns-clause-some : goal.returns-clause-some
returns-clause-some c =
    IfSome_then c.first_unpulled.result c.first_unpulled.ensures.some (λ job turn setting state rest.
    turn setting state rest (c.in_default.ensures.none refl setting state rest.resting))
