use Rattle.std.proofs.Common.{sym, subst}
use Rattle.std.proofs.Math.Logic.{∥∥₁_map}
use Rattle.ftc_txn.specs.Head.{HeadState}
use Rattle.ftc_server.specs.declared.work.Work.TheVariants.{Visit}
use Rattle.ftc_server.specs.Holding.{found}
use Rattle.ftc_server.specs.Slots.{AreSlots}
use Rattle.ftc_server.proofs.Slotting.{slots_begun, not_run}
use Rattle.ftc_server.proofs.Working.{held_with, visits, waits}
use Rattle.ftc_server.proofs.server.Server.begin.Goals as goal

pub invariant_of-self-clause-slots : goal.invariant_of-self-clause-slots
invariant_of-self-clause-slots c =
    let server = c.args.self.now in
    let work = held_with server.others.items (found c.args.packet server.held.items) Visit c.requires.work in
    let waiting = waits work.held (visits server.others.items work.held work.works) in
    subst (λ (head : HeadState). ∥ AreSlots server.rule head server.held.items ∥₁) (sym c.begin.ensures.begun)
    (∥∥₁_map server.slots (λ slots.
    slots_begun server.rule server.head server.held.items c.args.worker c.args.packet work.held waiting.packet
    c.begin.ensures.slot (not_run server.head c.args.packet c.requires.once) work.there waiting.unvisited
    waiting.with_packet slots))
