use Rattle.std.proofs.Common.{arith, ap, length}
use Rattle.ftc_server.proofs.Ascending.{few_awake}
use Rattle.ftc_server.proofs.tickets.Tickets.reserve.Goals as goal

pub overflow_sub-sleepers : goal.overflow_sub-sleepers
overflow_sub-sleepers c =
    let few = few_awake c.self.inside.list.items in
    omega (arith, few, ap length c.self.invariant.0.awake, c.self.inside.list.ok, c.self.inside.awake.ok)
