use Rattle.std.proofs.Common.{refl}
use Rattle.std.proofs.lemmas.Option.{IfSome_then}
use Rattle.ftc_jobs.proofs.first.first_unpulled.Goals as goal

pub returns-in-Some-clause-some : goal.returns-in-Some-clause-some
returns-in-Some-clause-some c setting state rest no_pull =
    c.in-Some.ensures.some setting state c.args.packets rest no_pull

pub returns-in-Some-first_take-clause-some : goal.returns-in-Some-first_take-clause-some
returns-in-Some-first_take-clause-some c setting state rest no_pull =
    c.in-Some-first_take.ensures.some setting state rest.resting no_pull
    (c.in_default.ensures.none refl setting state c.args.packets rest)

pub returns-clause-some : goal.returns-clause-some
returns-clause-some c =
    IfSome_then c.first_outside.result c.first_outside.ensures.some (λ job turn setting state rest no_pull.
    turn setting state rest no_pull (c.in_default.ensures.none refl setting state c.args.packets rest)
    (c.in_default-first_take.ensures.none refl setting state rest.resting))

pub returns-clause-none : goal.returns-clause-none
returns-clause-none c none setting state rest no_pull =
    c.first_outside.ensures.none none setting state rest no_pull
    (c.in_default.ensures.none refl setting state c.args.packets rest)
    (c.in_default-first_take.ensures.none refl setting state rest.resting)
