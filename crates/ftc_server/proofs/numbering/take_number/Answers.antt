use Rattle.std.proofs.Common.{◌∙◌, subst, arith}
use Rattle.ftc_server.proofs.Ascending.{IsSearched, number_searched, taken_at, not_taken, on_some}
use Rattle.ftc_server.proofs.numbering.take_number.Goals as goal

pub returns-in-Ok-clause-items : goal.returns-in-Ok-clause-items
returns-in-Ok-clause-items c =
    let numbers = c.args.numbers.now.items in
    let place = c.in-Ok.place in
    let at = subst (IsSearched numbers c.args.number) c.in-Ok.is
    (number_searched numbers c.args.number c.binary_search.result c.requires c.binary_search.ensures.position) in
    on_some c.remove.result (c.remove.ensures.variant.1 (omega (arith, at.0, c.args.numbers.now.ok)))
    c.remove.ensures.items
    ∙ taken_at 0 numbers place c.args.number c.requires at.0 at.1

pub returns-in_default-clause-items : goal.returns-in_default-clause-items
returns-in_default-clause-items c =
    let numbers = c.args.numbers.now.items in
    not_taken numbers c.args.number c.binary_search.result
    (number_searched numbers c.args.number c.binary_search.result c.requires c.binary_search.ensures.position)
    c.in_default.not-Ok
