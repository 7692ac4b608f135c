-- an accepted script is one for the ring that it was read for
use Rattle.std.proofs.Common.{rules}
use Rattle.ftc_report.proofs.tests.script_of.Goals as goal

pub returns-in-Ok-clause-ring : goal.returns-in-Ok-clause-ring
returns-in-Ok-clause-ring c =
    (c.accepted.ensures.parts c.args.ring.now c.args.packets c.as_bytes.result.now c.in-Ok.script
    c.servers-servers.ensures.bounds (search rules)).1
