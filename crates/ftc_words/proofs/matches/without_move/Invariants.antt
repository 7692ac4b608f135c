use Rattle.std.proofs.Common.{◌≡◌, ◌++◌, length}
use Rattle.ftc_words.specs.Given.{texts_of}
use Rattle.ftc_words.specs.Form.{others_from, handed}
use Rattle.ftc_words.proofs.matches.without_move.Given as goal

abbrev pub invariant-loop-rest : goal.invariant-loop-rest
invariant-loop-rest l = texts_of l.others.items ++ others_from l.skipped (texts_of l.rest) ≡ handed (texts_of l.words)

abbrev pub decreases-loop-rest : goal.decreases-loop-rest
decreases-loop-rest l = length l.rest
