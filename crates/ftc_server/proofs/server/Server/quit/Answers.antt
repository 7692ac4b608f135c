use Rattle.std.proofs.Math.Logic.{∥∥₁_map}
use Rattle.ftc_server.proofs.Slotting.{slots_quit}
use Rattle.ftc_server.proofs.server.Server.quit.Goals as goal

pub invariant_of-self-clause-slots : goal.invariant_of-self-clause-slots
invariant_of-self-clause-slots c =
    let server = c.args.self.now in
    ∥∥₁_map server.slots (λ slots. slots_quit server.rule server.head c.quit.new.self server.held.items c.args.worker
    c.quit.ensures slots)
