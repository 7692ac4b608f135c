use Rattle.std.proofs.Common.{◌∙◌, refl, sym}
use Rattle.std.proofs.lemmas.Option.{none-some}
use Rattle.ftc_jobs.proofs.lines.first_enter.Goals as goal

pub returns-in-Some-clause-some : goal.returns-in-Some-clause-some
returns-in-Some-clause-some c setting state rest no_pull idle no_take no_line =
    (no_pull, idle, no_take, no_line, (c.entering.ensures setting state rest c.in-Some.packet).0 c.in-Some.is)

pub returns-in-None-clause-none : goal.returns-in-None-clause-none
returns-in-None-clause-none c none setting state rest packet legal =
    none-some packet (sym c.in-None.is ∙ (c.entering.ensures setting state rest packet).1 legal)

pub returns-in-Some-clause-other : goal.returns-in-Some-clause-other
returns-in-Some-clause-other c setting state rest =
    record { legal = (c.entering.ensures setting state rest c.in-Some.packet).0 c.in-Some.is; other = refl }
