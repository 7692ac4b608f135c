use Rattle.std.proofs.Common.{◌∙◌, sym, rules}
use Rattle.std.proofs.lemmas.List.Sorted.{answers_always}
use Rattle.ftc_server.specs.declared.tickets.Ticket.{Ticket}
use Rattle.ftc_server.proofs.Ascending.{ticket_searched}
use Rattle.ftc_server.proofs.numbering.place_of_number.Goals as goal

pub returns : goal.returns
returns c =
    let by_number = c.binary_search_by_key.ensures.position (λ (ticket : Ticket). ticket.number)
    (answers_always _ _ _ (λ f a r g called. search rules)) in
    c.ok.ensures.value ∙ sym (ticket_searched c.args.tickets.now.items c.args.number c.binary_search_by_key.result
    c.requires by_number)
