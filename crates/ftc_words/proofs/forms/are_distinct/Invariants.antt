use Rattle.std.proofs.Common.{◌≡◌, length}
use Rattle.ftc_words.specs.Given.{texts_of}
use Rattle.ftc_words.specs.Command.{are_distinct}
use Rattle.ftc_words.proofs.forms.are_distinct.Given as goal

abbrev pub invariant-loop-rest : goal.invariant-loop-rest
invariant-loop-rest l = are_distinct (texts_of l.rest) ≡ are_distinct (texts_of l.words)

abbrev pub decreases-loop-rest : goal.decreases-loop-rest
decreases-loop-rest l = length l.rest
