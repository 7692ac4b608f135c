use Rattle.std.proofs.Common.{◌≡◌, ◌∙◌, ℕ, Option, true, ap, sym}
use Rattle.std.specs.Prelude.{is_some, not}
use Rattle.ftc_txn.specs.Slots.{packet_at}
use Rattle.ftc_server.proofs.Slotting.{asked_somewhat}
use Rattle.ftc_server.proofs.server.Server.finish_visit.Goals as goal

pub unreachable-requires : goal.unreachable-requires
unreachable-requires c =
    let server = c.args.self.now in
    let some : is_some (packet_at server.head.slots c.args.worker) ≡ true =
    ap (λ (packet : Option ℕ). is_some packet) (sym c.packet.ensures) ∙ c.is_none.ensures ∙ ap not c.if-is_none.false in
    asked_somewhat server c.args.worker some (sym c.asked_or_planned.ensures ∙ c.in-None.is) server.slots
