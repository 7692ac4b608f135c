use Rattle.std.proofs.Common.{◌∙◌}
use Rattle.ftc.proofs.texts.fetch_script.Goals as goal

pub returns-clause-ring : goal.returns-clause-ring
returns-clause-ring g c =
    let parts = c.accepted.ensures.parts c.ring_of.result c.args.packets c.as_slice.result.now c.in_ok-script.script
    c.ring_of.ensures.right c.in_ok-script.ensures in
    parts.1 ∙ c.ring_of.ensures.same
