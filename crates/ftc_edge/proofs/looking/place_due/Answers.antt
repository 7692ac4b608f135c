use Rattle.std.proofs.Common.{◌≡◌, ◌≤◌, List, length, sym, rules}
use Rattle.ftc_edge.specs.declared.buffer.Withheld.{Withheld}
use Rattle.ftc_edge.specs.Known.{AreNotDue}
use Rattle.ftc_edge.proofs.Looked.{first_due_at, both_not_due}
use Rattle.ftc_edge.proofs.looking.place_due.Goals as goal

pub returns-then-place-far : goal.returns-then-place-far
returns-then-place-far c =
    let items : List Withheld = c.args.held.now.items in
    let near = c.place_due_in-place in
    let within : near.result ≤ length items = search rules in
    sym (first_due_at c.args.commits.now items near.result within near.ensures.not_due
    (λ _. near.ensures.due c.if-place-far.true))

pub returns-then-is_reached : goal.returns-then-is_reached
returns-then-is_reached c =
    let items : List Withheld = c.args.held.now.items in
    let near = c.place_due_in-place in
    let far = c.args.far.now in
    let found = c.place_due_in in
    let met : near.result ≡ far.begin = search rules in
    let before : AreNotDue c.args.commits.now items 0 far.begin = rw (← met) near.ensures.not_due in
    let within : found.result ≤ length items = search rules in
    let not_due = both_not_due c.args.commits.now items 0 far.begin found.result before found.ensures.not_due in
    sym (first_due_at c.args.commits.now items found.result within not_due (search rules))

pub returns : goal.returns
returns c =
    let items : List Withheld = c.args.held.now.items in
    let near = c.place_due_in-place in
    let far = c.args.far.now in
    let found = c.place_due_in-2 in
    let met : near.result ≡ far.begin = search rules in
    let before : AreNotDue c.args.commits.now items 0 far.begin = rw (← met) near.ensures.not_due in
    let delayed = c.requires.looked_at.delayed c.args.commits.now (c.is_reached.ensures c.if-is_reached.false) in
    let settled = both_not_due c.args.commits.now items 0 far.begin far.end before delayed in
    let within : found.result ≤ length items = search rules in
    let not_due = both_not_due c.args.commits.now items 0 far.end found.result settled found.ensures.not_due in
    sym (first_due_at c.args.commits.now items found.result within not_due (search rules))
