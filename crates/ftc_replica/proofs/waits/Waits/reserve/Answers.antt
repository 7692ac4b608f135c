use Rattle.ftc_replica.proofs.Tickets.{same_numbers}
use Rattle.ftc_replica.proofs.waits.Waits.reserve.Goals as goal

pub invariant_of-self-2 : goal.invariant_of-self-2
invariant_of-self-2 c =
    let inside = c.self.inside in
    rw c.reserve.ensures.items (same_numbers inside.held.items inside.next inside.is_noted inside.numbers.entries
    c.reserve-2.new.self.entries c.self.invariant c.reserve-2.ensures.entries.2)
