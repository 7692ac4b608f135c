use Rattle.std.proofs.Common.{refl}
use Rattle.std.proofs.lemmas.Option.{IfSome_then}
use Rattle.ftc_jobs.proofs.first.first_outside.Goals as goal

pub returns-in-Some-clause-some : goal.returns-in-Some-clause-some
returns-in-Some-clause-some c setting state rest no_pull idle no_take =
    c.in-Some.ensures.some setting state c.args.packets rest no_pull idle no_take

pub returns-in-Some-first_enter-clause-some : goal.returns-in-Some-first_enter-clause-some
returns-in-Some-first_enter-clause-some c setting state rest no_pull idle no_take =
    c.in-Some-first_enter.ensures.some setting state rest no_pull idle no_take
    (c.in_default.ensures.none refl setting state c.args.packets rest)

pub returns-clause-some : goal.returns-clause-some
returns-clause-some c =
    IfSome_then c.first_propagate.result c.first_propagate.ensures.some
    (λ job turn setting state rest no_pull idle no_take.
    turn setting state c.args.script.now rest no_pull idle no_take
    (c.in_default.ensures.none refl setting state c.args.packets rest)
    (c.in_default-first_enter.ensures.none refl setting state rest))

pub returns-clause-none : goal.returns-clause-none
returns-clause-none c none setting state rest no_pull idle no_take =
    c.first_job.ensures.stages setting state no_pull idle no_take
    (c.in_default.ensures.none refl setting state c.args.packets rest)
    (c.in_default-first_enter.ensures.none refl setting state rest)
    (c.first_propagate.ensures.none none setting state c.args.script.now rest)
