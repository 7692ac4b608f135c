use Rattle.std.proofs.Common.{arith}
use Rattle.ftc_replica.proofs.Tickets.{added}
use Rattle.ftc_replica.proofs.waits.Waits.add.Goals as goal

pub invariant_of-self-then-self : goal.invariant_of-self-then-self
invariant_of-self-then-self c =
    let inside = c.self-2.inside in
    rw c.in_ok-push_back.ensures.items (added inside.held.items inside.next inside.is_noted inside.numbers.entries
    c.args.wait c.saturating_add-self-inside.result c.note-self-inside.result c.note-self-inside.new.numbers.entries
    c.self-2.invariant (omega arith) (λ is. (
      c.if-self.true,
      λ number.
          rw (c.awaited.ensures.group, c.awaited.ensures.partition, c.awaited.ensures.number)
          at (c.note-self-inside.ensures.noted is number),
    )))

pub invariant_of-self-else-self : goal.invariant_of-self-else-self
invariant_of-self-else-self c =
    let inside = c.self-2.inside in
    rw c.in_ok-push_back.ensures.items (added inside.held.items inside.next inside.is_noted inside.numbers.entries
    c.args.wait c.saturating_add-self-inside.result inside.is_noted inside.numbers.entries
    c.self-2.invariant (omega arith) (λ is. absurd cc))
