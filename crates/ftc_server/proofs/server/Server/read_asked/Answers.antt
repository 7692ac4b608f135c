use Rattle.std.proofs.Math.Logic.{∥∥₁_map}
use Rattle.ftc_base.specs.declared.ask.Ask.TheVariants.{Read}
use Rattle.ftc_server.proofs.Slotting.{slots_read, asked_of}
use Rattle.ftc_server.proofs.Lent.{few_answers}
use Rattle.ftc_server.proofs.server.Server.read_asked.Goals as goal

pub read-requires : goal.read-requires
read-requires c running runs =
    let server = c.args.self.now in
    few_answers server.rule server.head server.held.items c.args.worker running c.args.key.now c.args.change
    server.slots
    runs (asked_of server c.args.worker running (Read c.args.key.now c.args.change) runs c.requires)

pub invariant_of-self-clause-slots : goal.invariant_of-self-clause-slots
invariant_of-self-clause-slots c =
    let server = c.args.self.now in
    ∥∥₁_map server.slots (λ slots.
    slots_read server.rule server.head c.read.new.self server.held.items c.args.worker c.args.key.now c.args.change
    c.read.result c.read.ensures
    (λ running runs. asked_of server c.args.worker running (Read c.args.key.now c.args.change) runs c.requires) slots)
