use Rattle.std.proofs.Common.{◌≡◌, ◌∙◌, ℕ, Option, ap, sym, true, false}
use Rattle.std.proofs.Math.Logic.{∥∥₁_map}
use Rattle.std.specs.Prelude.{is_some}
use Rattle.ftc_txn.specs.Slots.{wounded_at}
use Rattle.ftc_server.proofs.Slotting.{slots_read, wounded_apart}
use Rattle.ftc_server.proofs.server.Server.read.Goals as goal

pub invariant_of-self-clause-slots : goal.invariant_of-self-clause-slots
invariant_of-self-clause-slots c =
    let server = c.args.self.now in
    let wounded : is_some (wounded_at server.head.slots c.args.worker) ≡ true =
    ap (λ (w : Option ℕ). is_some w) (sym c.wounded.ensures) ∙ sym c.is_some.ensures ∙ c.if-is_some.true in
    ∥∥₁_map server.slots (λ slots.
    slots_read server.rule server.head c.read.new.self server.held.items c.args.worker c.args.key.now false
    c.read.result c.read.ensures (λ running runs. wounded_apart server.head c.args.worker running wounded runs) slots)
