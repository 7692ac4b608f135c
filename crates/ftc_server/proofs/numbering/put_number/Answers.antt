use Rattle.std.proofs.Common.{◌∙◌, subst}
use Rattle.ftc_server.proofs.Ascending.{IsSearched, number_searched, put_at, is_put, on_ok, has_room}
use Rattle.ftc_server.proofs.numbering.put_number.Goals as goal

pub returns-in-Err-clause-items : goal.returns-in-Err-clause-items
returns-in-Err-clause-items c =
    let numbers = c.args.numbers.now.items in
    let place = c.in-Err.place in
    let at = subst (IsSearched numbers c.args.number) c.in-Err.is
    (number_searched numbers c.args.number c.binary_search.result c.requires.rising c.binary_search.ensures.position) in
    on_ok c.insert.result (has_room c.insert.result c.insert.ensures.full c.requires.room) c.insert.ensures.items
    ∙ put_at numbers place c.args.number at.0 at.1 at.2

pub returns-in_default-clause-items : goal.returns-in_default-clause-items
returns-in_default-clause-items c =
    let numbers = c.args.numbers.now.items in
    is_put numbers c.args.number c.binary_search.result
    (number_searched numbers c.args.number c.binary_search.result c.requires.rising c.binary_search.ensures.position)
    c.requires.new c.in_default.not-Err
