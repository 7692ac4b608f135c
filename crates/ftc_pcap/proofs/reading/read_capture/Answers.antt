use Rattle.std.proofs.Common.{◌<◌, length, arith, refl}
use Rattle.std.proofs.lemmas.Grind.{common_steps}
use Rattle.ftc_pcap.proofs.Faults.{refused}
use Rattle.ftc_pcap.proofs.reading.read_capture.Goals as goal

pub returns-in-Err-split_record-clause-fault : goal.returns-in-Err-split_record-clause-fault
returns-in-Err-split_record-clause-fault c =
    let more : 0 < length c.loop-rest.rest.now = grind (arith, common_steps) in
    let wrong = rw c.len.ensures.same at c.in-Err-split_record.ensures.fault in
    rw c.placed_at.ensures
    (refused c.args.text.now c.loop-rest.rest.now c.loop-rest.capture c.in-Err-split_record.refusal _
    c.loop-rest.invariant.right c.loop-rest.invariant.parts c.loop-rest.invariant.size more refl wrong)
