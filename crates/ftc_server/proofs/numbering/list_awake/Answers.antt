use Rattle.std.proofs.Common.{◌∙◌, ◌<◌, ◌++◌, [], ◌∷◌, List, ℕ, Bool, sym, ap, cond, length, take, arith, append-nil}
use Rattle.ftc_server.specs.Tickets.{awake_numbers}
use Rattle.ftc_server.proofs.Ascending.{few_awake_in, awake_next}
use Rattle.ftc_server.proofs.numbering.list_awake.Goals as goal
use Rattle.ftc_server.proofs.numbering.list_awake.Goals.{then-not-ticket, else-not-ticket}

pub push_back_reserved-requires : goal.push_back_reserved-requires
push_back_reserved-requires c =
    let few = few_awake_in c.args.tickets.now.items c.loop-place.place in
    omega (arith, few, ap length c.loop-place.invariant.items, c.loop-place.numbers.ok)

pub loop-place-preserved : goal.loop-place-preserved
loop-place-preserved c =
    let tickets = c.args.tickets.now.items in
    let so_far = awake_numbers (take c.loop-place.place tickets) in
    let ticket = c.index-ticket.result.now in
    let within : c.loop-place.place < length tickets = omega (arith, c.args.tickets.now.ok) in
    let next = awake_next tickets c.loop-place.place ticket within c.index-ticket.ensures in
    elim c.if-not-ticket.branch [
      | then-not-ticket w ↦ record {
        items = ap (λ (q : _). q.items) w.numbers-is ∙ w.push_back_reserved.ensures.items
            ∙ ap (λ (items : List ℕ). items ++ ticket.number ∷ []) c.loop-place.invariant.items
            ∙ sym (next ∙ ap (λ (t : Bool). so_far ++ cond t [] (ticket.number ∷ [])) w.if-not-ticket.true);
        capacity = ap (λ (q : _). q.cap) w.numbers-is ∙ w.push_back_reserved.ensures.capacity
            ∙ c.loop-place.invariant.capacity;
      }
      | else-not-ticket w ↦ record {
        items = ap (λ (q : _). q.items) w.numbers-is ∙ c.loop-place.invariant.items ∙ sym (append-nil so_far)
            ∙ sym (next ∙ ap (λ (t : Bool). so_far ++ cond t [] (ticket.number ∷ [])) w.if-not-ticket.false);
        capacity = ap (λ (q : _). q.cap) w.numbers-is ∙ c.loop-place.invariant.capacity;
      }
    ]
