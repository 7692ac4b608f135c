use Rattle.std.proofs.Common.{◌≡◌, ◌≤◌, length, sym, rules}
use Rattle.ftc_edge.specs.Known.{AreNotDue}
use Rattle.ftc_edge.proofs.Looked.{first_due_at, both_not_due}
use Rattle.ftc_edge.proofs.looking.find_due.Goals as goal

pub returns-then-place-far-clause-place : goal.returns-then-place-far-clause-place
returns-then-place-far-clause-place c =
    let near = c.look_near-place in
    let within : near.result ≤ length near.new.held.items = search rules in
    let at = first_due_at c.args.commits.now near.new.held.items near.result within near.ensures.not_due
    (λ _. near.ensures.due c.if-place-far.true) in
    rw (← near.ensures.items) (sym at)

pub returns-clause-place : goal.returns-clause-place
returns-clause-place c =
    let near = c.look_near-place in
    let far = c.look_far.new.stretch in
    let items = c.look_far.new.held.items in
    let within : far.end ≤ length items = search rules in
    let met : near.result ≡ far.begin = search rules in
    let before : AreNotDue c.args.commits.now items 0 far.begin =
    rw (c.look_far.ensures.items, ← met) near.ensures.not_due in
    let not_due = both_not_due c.args.commits.now items 0 far.begin far.end before c.look_far.ensures.not_due in
    let at = first_due_at c.args.commits.now items far.end within not_due (search rules) in
    rw (← near.ensures.items, ← c.look_far.ensures.items) (sym at)
