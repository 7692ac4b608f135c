use Rattle.std.proofs.Common.{rules, ◌+◌, Some, None, subst, ap}
use Rattle.ftc_protocol.specs.Next.{fresh_message}
use Rattle.ftc_machine.specs.Frontier.{numbers_of}
use Rattle.ftc_machine.specs.Represents.{IsMessage, footprints_in}
use Rattle.ftc_machine.proofs.NextParts.{goes_on, message_put}
use Rattle.ftc_machine.proofs.state.MachineState.propagate.Goals as goal

pub returns-clause-ok : goal.returns-clause-ok
returns-clause-ok c setting s now may is =
    let numbers = numbers_of (footprints_in c.args.self.now.visits.items) in
    let messages = message_put is c.make_room.new.self c.put.new.self c.args.origin
    (Some (fresh_message s.events None)) (Some c.fresh.result)
    c.put.ensures c.in_ok-make_room.ensures.room (λ other _. c.in_ok-make_room.ensures.same other)
    (subst (λ now. IsMessage setting.partitions s.trace numbers (fresh_message now None) c.fresh.result) now
    (c.fresh.ensures setting.partitions s.trace numbers)) in
    goes_on is (search rules) is.sets.lists is.sets.known messages is.sets.stores is.forwarder is.buffer is.gaps
    is.entered (ap (λ n. n + 1) is.propagates) is.fates
