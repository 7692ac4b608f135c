-- the lines so far have been added
use Rattle.std.proofs.Common.{◌≡◌, take}
use Rattle.ftc_script.specs.Plain.{plain_text}
use Rattle.ftc_watch.proofs.printer.script_text.Given as goal

abbrev pub invariant-loop-statement : goal.invariant-loop-statement
invariant-loop-statement l = l.out ≡ plain_text (take l.statement-index l.script)
