use Rattle.std.proofs.Common.{◌∙◌}
use Rattle.ftc_watch.proofs.Lines.{held_next}
use Rattle.ftc_watch.proofs.printer.held_text.Goals as goal

pub loop-held-preserved : goal.loop-held-preserved
loop-held-preserved c =
    held_next c.loop-held.out c.append.new.self c.as_bytes.result.now c.args.held.now c.loop-held.held-index
    c.held-item.result c.loop-held-test.true c.held-item.is c.loop-held.invariant c.in_ok-append.ensures.ok
    (c.as_bytes.ensures.value ∙ c.in_ok-line.ensures)
