use Rattle.std.proofs.Common.{◌∙◌, refl, sym}
use Rattle.std.proofs.lemmas.Option.{none-some}
use Rattle.ftc_jobs.proofs.quiet.first_propagate.Goals as goal

pub returns-in-Some-clause-some : goal.returns-in-Some-clause-some
returns-in-Some-clause-some c setting state script rest no_pull idle no_take no_line no_enter = (
  no_pull,
  idle,
  no_take,
  no_line,
  no_enter,
  (c.propagating.ensures setting state script rest c.in-Some.origin).0 c.in-Some.is,
)

pub returns-in-None-clause-none : goal.returns-in-None-clause-none
returns-in-None-clause-none c none setting state script rest origin legal =
    none-some origin (sym c.in-None.is ∙ (c.propagating.ensures setting state script rest origin).1 legal)

pub returns-in-Some-clause-other : goal.returns-in-Some-clause-other
returns-in-Some-clause-other c setting state script rest =
    record { legal = (c.propagating.ensures setting state script rest c.in-Some.origin).0 c.in-Some.is; other = refl }
