use Rattle.std.proofs.Common.{◌∙◌}
use Rattle.ftc_watch.proofs.Lines.{script_next}
use Rattle.ftc_watch.proofs.printer.script_text.Goals as goal

pub loop-statement-preserved : goal.loop-statement-preserved
loop-statement-preserved c =
    script_next c.loop-statement.out c.append.new.self c.as_bytes.result.now c.args.script.now
    c.loop-statement.statement-index _ c.loop-statement-test.true c.loop-statement.invariant c.in_ok-append.ensures.ok
    (c.as_bytes.ensures.value ∙ c.in_ok-line.ensures)
