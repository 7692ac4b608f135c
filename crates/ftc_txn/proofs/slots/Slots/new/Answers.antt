use Rattle.std.proofs.Common.{rules, arith, None, ⊎_elim}
use Rattle.std.proofs.lemmas.Bool.{cases_lt}
use Rattle.std.proofs.lemmas.List.{get_or_past}
use Rattle.ftc_base.specs.declared.limits.TheConstants.{MOST_SLOTS}
use Rattle.ftc_txn.proofs.slots.Slots.new.Goals as goal

pub returns : goal.returns
returns c = λ worker. ⊎_elim (λ within. let called = c.from_fn.ensures.items.at worker None within in
    search (rules, called)) (λ beyond. get_or_past _ worker None (omega (arith, beyond, c.from_fn.ensures.items.long)))
    (cases_lt worker MOST_SLOTS)
