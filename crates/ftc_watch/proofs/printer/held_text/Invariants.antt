-- the lines so far have been added
use Rattle.std.proofs.Common.{◌≡◌, take}
use Rattle.ftc_watch.specs.Lines.{held_text}
use Rattle.ftc_watch.proofs.printer.held_text.Given as goal

abbrev pub invariant-loop-held : goal.invariant-loop-held
invariant-loop-held l = l.out ≡ held_text (take l.held-index l.held)
