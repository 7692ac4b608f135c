use Rattle.std.proofs.Common.{◌∙◌, refl, arith}
use Rattle.std.proofs.lemmas.List.{length-map}
use Rattle.std.proofs.lemmas.Result.{on_ok_weaker}
use Rattle.ftc_pcap.specs.declared.packets.Packet.{Packet}
use Rattle.ftc_chain.specs.Doing.{setting_by}
use Rattle.ftc_chain.proofs.Permitted.{allowed}
use Rattle.ftc_chain.proofs.Rooms.{bytes_at, room_to_enter}
use Rattle.ftc_chain.proofs.given.Given.enter.Goals as goal

pub enter-requires-clause-allowed : goal.enter-requires-clause-allowed
enter-requires-clause-allowed c = allowed c.requires refl (λ state. refl)

pub enter-requires-clause-room : goal.enter-requires-clause-room
enter-requires-clause-room c =
    let given = c.args.self.now in
    room_to_enter c.requires 4294967295
    (omega (arith, length-map given.packets.now (λ (p : Packet). p.bytes), c.len.ensures.same, c.len.ensures.few))

pub returns-clause-ok : goal.returns-clause-ok
returns-clause-ok c =
    let given = c.args.self.now in
    on_ok_weaker c.enter.result (λ follows state run legal is. ∣ follows (setting_by given) state
    (c.in_ok-bytes.ensures ∙ bytes_at given.packets.now c.args.packet c.at.result.now c.at.ensures.same) run legal is
    ∣₁)
    c.enter.ensures.ok
