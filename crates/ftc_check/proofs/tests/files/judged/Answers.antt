use Rattle.std.proofs.Common.{◌∙◌, rules}
use Rattle.ftc_ring.specs.Ring.{IsRing}
use Rattle.ftc_check.proofs.tests.files.judged.Goals as goal

pub check-requires-clause-ring : goal.check-requires-clause-ring
check-requires-clause-ring c =
    let is : IsRing c.ring_of-ring.result = search rules in
    (c.accepted.ensures.parts _ c.len.result c.args.script.now _ is c.in-Ok-read_script.ensures).1 ∙
    c.ring_of-ring.ensures.same
