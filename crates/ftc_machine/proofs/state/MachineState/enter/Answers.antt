use Rattle.std.proofs.Common.{rules, ◌≡◌, ◌+◌, ◌∙◌, not, true, false, if◌then◌else◌, Option, Some, sym, subst, ap}
use Rattle.std.specs.Option.{option_map_or}
use Rattle.ftc_protocol.specs.declared.fate.Fate.{Fate}
use Rattle.ftc_protocol.specs.declared.fate.Fate.TheVariants.{Inside, Lost}
use Rattle.ftc_machine.specs.declared.state.message.Message.{Message as MessageOfMachine}
use Rattle.ftc_protocol.specs.Setting.{packet_at}
use Rattle.ftc_protocol.specs.State.{Message}
use Rattle.ftc_protocol.specs.Next.{fresh_message}
use Rattle.ftc_machine.specs.Frontier.{numbers_of}
use Rattle.ftc_machine.specs.Represents.{IsMessage, IsMessageSlot, footprints_in}
use Rattle.ftc_machine.proofs.NextParts.{goes_on, message_put, fate_put}
use Rattle.ftc_machine.proofs.ReplacedPlaces.{left}
use Rattle.ftc_machine.proofs.state.MachineState.enter.Goals as goal

pub returns-then-has-clause-ok : goal.returns-then-has-clause-ok
returns-then-has-clause-ok c setting s bytes now may is =
    let k = c.args.self.now in
    let numbers = numbers_of (footprints_in k.visits.items) in
    let down : s.up 0 ≡ false = is.up 0 may.supposed.ring.some ∙ ap not (sym c.has.ensures ∙ c.if-has.true) in
    let lost : Fate = if s.up 0 then s.fate c.args.packet else Lost s.events in
    let messages = left (λ _ (o : Option Message)
    (slot : Option MessageOfMachine). IsMessageSlot setting.partitions s.trace numbers o slot)
    s.message k.messages c.make_room.new.self c.args.packet _
    (ap (λ b. if b then Some (fresh_message s.events (Some (packet_at setting c.args.packet)))
    else s.message c.args.packet) down)
    c.in_ok-make_room.ensures.same is.sets.messages in
    goes_on is (search rules) is.sets.lists is.sets.known messages is.sets.stores is.forwarder is.buffer is.gaps
    (ap (λ n. n + 1) is.entered) is.propagates
    (fate_put is c.make_room-2.new.self c.put.new.self c.args.packet lost (Some (Lost c.args.now))
    c.put.ensures c.in_ok-make_room-2.ensures.room c.in_ok-make_room-2.ensures.same
    (ap Lost now ∙ sym (ap (λ b. if b then s.fate c.args.packet else Lost s.events) down)))

pub returns-clause-ok : goal.returns-clause-ok
returns-clause-ok c setting s bytes now may is =
    let k = c.args.self.now in
    let numbers = numbers_of (footprints_in k.visits.items) in
    let live : s.up 0 ≡ true = is.up 0 may.supposed.ring.some ∙ ap not (sym c.has.ensures ∙ c.if-has.false) in
    let message : Option Message = Some (fresh_message s.events (Some (packet_at setting c.args.packet))) in
    let messages = message_put is c.make_room.new.self c.put-2.new.self c.args.packet
    (if s.up 0 then message else s.message c.args.packet) (Some c.fresh.result)
    c.put-2.ensures c.in_ok-make_room.ensures.room (λ other _. c.in_ok-make_room.ensures.same other)
    (subst (λ b. IsMessageSlot setting.partitions s.trace numbers (if b then message
    else s.message c.args.packet) (Some c.fresh.result)) (sym live)
    (subst (λ bytes. IsMessage setting.partitions s.trace numbers
    (fresh_message s.events (Some bytes)) c.fresh.result) bytes
    (subst (λ now. IsMessage setting.partitions s.trace numbers
    (fresh_message now (Some c.args.bytes)) c.fresh.result) now
    (c.fresh.ensures setting.partitions s.trace numbers)))) in
    let fates = left (λ _ (fate : Fate) (slot : Option Fate). option_map_or (λ (found : Fate). found) slot Inside
    ≡ fate)
    s.fate k.fates c.make_room-2.new.self c.args.packet _ (ap (λ b. if b then s.fate c.args.packet
    else Lost s.events) live) c.in_ok-make_room-2.ensures.same is.fates in
    goes_on is (search rules) is.sets.lists is.sets.known messages is.sets.stores is.forwarder is.buffer is.gaps
    (ap (λ n. n + 1) is.entered) is.propagates fates
