use Rattle.std.proofs.Common.{rules, ◌≡◌, ◌==◌, ◌&&◌, ◌||◌, ◌∙◌, ℕ, not, List, Option, None, ap}
use Rattle.std.proofs.Math.Bool.{or_comm}
use Rattle.ftc_journal.specs.declared.event.Event.TheVariants as event
use Rattle.ftc_journal.specs.declared.event.VisitName.{VisitName}
use Rattle.ftc_serial.specs.Trace.{names}
use Rattle.ftc_machine.specs.declared.state.message.Message.{Message as MessageOfMachine}
use Rattle.ftc_machine.specs.Simulation.{logs_in}
use Rattle.ftc_machine.specs.Represents.{IsMessageSlot, footprints_in}
use Rattle.ftc_protocol.specs.Next.{logs_of}
use Rattle.ftc_machine.specs.Frontier.{numbers_of}
use Rattle.ftc_protocol.specs.Setting.{is_tail}
use Rattle.ftc_machine.specs.Slots.{slot_at}
use Rattle.ftc_ring.specs.Groups.{group_ending_at}
use Rattle.ftc_protocol.specs.State.{Message}
use Rattle.ftc_machine.proofs.NextParts.{goes_on}
use Rattle.ftc_machine.proofs.OnwardLogs.{logs_go_on}
use Rattle.ftc_machine.proofs.ReplacedPlaces.{cleared}
use Rattle.ftc_machine.proofs.state.MachineState.carry.Goals as goal

pub returns-clause-ok : goal.returns-clause-ok
returns-clause-ok c setting s may is =
    let k = c.args.self.now in
    let numbers = numbers_of (footprints_in k.visits.items) in
    let zero : c.unwrap-first.result ≡ 0 = search rules in
    let are : (group packet : ℕ) →
    names c.in_ok-self.field-0 group packet
    ≡ ((names (logs_in (slot_at k.messages c.args.origin)) group packet && not (group == group_ending_at k.ring 0))
    || ((0 == 0) && names k.forwarder group packet)) =
    λ group packet.
    c.in_ok-self.ensures group packet
    ∙ ap (λ (logs : List VisitName). (names logs group packet
    && not (group == group_ending_at k.ring c.unwrap-first.result))
    || ((c.unwrap-first.result == 0) && names k.forwarder group packet)) c.logs_of.ensures
    ∙ ap (λ first. (names (logs_in (slot_at k.messages c.args.origin)) group packet
    && not (group == group_ending_at k.ring first)) || ((first == 0) && names k.forwarder group packet)) zero in
    let messages = cleared (λ _ (o : Option Message)
    (slot : Option MessageOfMachine). IsMessageSlot setting.partitions s.trace numbers o slot)
    s.message k.messages c.take_out.new.self c.args.origin None c.take_out.ensures.left tt is.sets.messages in
    goes_on is (search rules) is.sets.lists is.sets.known messages is.sets.stores
    (λ group packet.
    logs_go_on setting s (event.Carry c.args.origin) may k is 0 c.args.origin may.supposed.ring.some
    c.in_ok-self.field-0 are group packet
    ∙ or_comm (logs_of (s.message c.args.origin) group packet
    && not (is_tail setting group 0)) (s.forwarder group packet))
    is.buffer is.gaps is.entered is.propagates is.fates
