use Rattle.std.proofs.Common.{sym, ◌∙◌}
use Rattle.ftc_visits.proofs.Passing.{first_at}
use Rattle.ftc_visits.proofs.undoing.is_next.Goals as goal

pub returns-then-place-len-clause-first : goal.returns-then-place-len-clause-first
returns-then-place-len-clause-first c =
    c.is_of.ensures ∙ sym (first_at c.args.names.now c.args.place c.at.result.now c.args.visit.now c.at.ensures)
