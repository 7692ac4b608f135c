use Rattle.std.proofs.Common.{◌≡◌, ◌<◌, ◌==◌, ◌&&◌, ◌||◌, ◌∙◌, ℕ, not, List, [], Some, if◌then◌else◌, sym, ap}
use Rattle.std.proofs.Common.{rules, arith}
use Rattle.ftc_journal.specs.declared.event.VisitName.{VisitName}
use Rattle.ftc_ring.specs.Ring.{RingShape}
use Rattle.ftc_serial.specs.Trace.{names}
use Rattle.ftc_machine.specs.Simulation.{sending}
use Rattle.ftc_protocol.specs.Setting.{servers}
use Rattle.ftc_protocol.specs.State.{Message}
use Rattle.ftc_ring.specs.Groups.{group_ending_at}
use Rattle.ftc_machine.proofs.AfterLeaving.{after_sending, leaves, last_is, queued_is, gap_is, messages_kept, sent_kept}
use Rattle.ftc_machine.proofs.AfterLeaving.{forwarder_kept, buffer_kept, gaps_kept, fates_kept}
use Rattle.ftc_machine.proofs.NextParts.{goes_on}
use Rattle.ftc_machine.proofs.state.MachineState.send.Goals as goal

pub returns-clause-ok : goal.returns-clause-ok
returns-clause-ok c setting s now may is =
    let k = c.args.self.now in
    let server = c.args.server in
    let origin = c.args.origin in
    let lost = c.args.lost in
    let way = c.hop-hop.result in
    let kept = c.in-Some.message in
    let leaving = leaves setting s server origin lost may.legal.0 in
    let message : Message = leaving.0 in
    let there : s.message origin ≡ Some message = leaving.1.there in
    let slot = sym c.take_out.ensures.item ∙ c.in-Some.is in
    let below : server < servers setting = let within = c.requires.within in let same =
    ap (λ (ring : RingShape). ring.servers) is.ring in omega arith in
    let last = c.hop-hop.ensures.last ∙ last_is setting s k is server lost below in
    let queued = c.hop-hop.ensures.queued ∙ queued_is setting s k is server lost below in
    let gap = c.hop-hop.ensures.gap ∙ gap_is setting s k is server lost below in
    let logs = λ (group number : ℕ).
    ap (λ (logs : List VisitName). names logs group number) c.behind-message.ensures.logs ∙ c.in_ok-logs.ensures group
    number
    ∙ ap (λ (logs : List VisitName). (names logs group number && not (group == group_ending_at k.ring server))
    || ((server == 0) && names k.forwarder group number)) c.logs_of.ensures in
    let messages = messages_kept setting s k is server lost below origin c.args.now now message kept there slot
    c.take_out.new.self c.set_if-3.new.self way.queued c.behind-message.result queued
    (sent_kept setting s k is server lost below origin c.args.now now message kept there slot
    (sending lost server origin) may c.behind-message.result way.last c.in_ok-known.known
    last c.behind-message.ensures.place
    (c.in_ok-known.ensures.ok ∙ c.knows.ensures) c.behind-message.ensures.since
    c.behind-message.ensures.packet c.behind-message.ensures.needs logs)
    c.take_out.ensures.left c.set_if-3.ensures c.in-Some.ensures.room in
    let buffer = buffer_kept setting s k is server lost below origin c.args.now now message kept there slot
    c.make_room.new.self c.set_if.new.self way.last c.withheld-entry.result last
    c.withheld-entry.ensures c.set_if.ensures c.in_ok-make_room.ensures.room c.in_ok-make_room.ensures.same in
    let fates = fates_kept setting s k is server lost below origin c.args.now now message kept there slot
    c.make_room-2.new.self c.set_if-2.new.self way.last way.gap c.loses_packet.result last gap
    c.loses_packet.ensures c.set_if-2.ensures c.in_ok-make_room-2.ensures.room c.in_ok-make_room-2.ensures.same in
    after_sending setting s server origin lost _
    (goes_on is (search rules) is.sets.lists is.sets.known messages is.sets.stores
    (forwarder_kept setting s k is server lost below c.clear_if.new.list
    (c.clear_if.ensures ∙ ap (λ number. if number == 0 then [] else k.forwarder) c.number.ensures.same))
    buffer (gaps_kept setting s k is server lost below c.with_if-self.result way.gap gap c.with_if-self.ensures)
    is.entered is.propagates fates)
