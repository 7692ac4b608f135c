use Rattle.std.proofs.Common.{◌<◌, ◌≤◌, ◌^◌, length, refl, arith}
use Rattle.ftc_base.specs.declared.limits.TheConstants.{MOST_RECORDS}
use Rattle.ftc_journal.specs.declared.job.Job.TheVariants as job
use Rattle.ftc_protocol.specs.Measure.{most_messages}
use Rattle.ftc_serial.specs.Packets.{bytes_of_packets}
use Rattle.ftc_chain.specs.Doing.{setting_by}
use Rattle.ftc_chain.proofs.Permitted.{allowed, done, within_of}
use Rattle.ftc_chain.proofs.Rooms.{few_bytes, room_to_propagate}
use Rattle.ftc_chain.proofs.given.Given.propagate.Goals as goal

pub propagate-requires-clause-allowed : goal.propagate-requires-clause-allowed
propagate-requires-clause-allowed c = allowed c.requires refl (λ state. refl)

pub propagate-requires-clause-room : goal.propagate-requires-clause-room
propagate-requires-clause-room c =
    let given = c.args.self.now in
    let setting = setting_by given in
    let job = job.Propagate c.args.origin in
    let few : length given.packets.now ≤ MOST_RECORDS = omega (arith, c.len.ensures.same, c.len.ensures.few) in
    let most : most_messages setting < 2 ^ 32 =
    c.accepted.ensures.few given.spec.now (bytes_of_packets given.packets.now) given.script.now c.ring.ensures.accepted
    (few_bytes given.packets.now MOST_RECORDS few) in
    room_to_propagate c.requires 4294967295 (omega (arith, most)) (λ may. within_of setting may.state job may.run
    (λ journal right run. c.jobs_of_events.ensures.within setting right journal run job) may.legal)

pub returns-clause-ok : goal.returns-clause-ok
returns-clause-ok c =
    done c.requires refl (λ state. refl) c.propagate.result c.propagate.new.self c.propagate.ensures.ok
