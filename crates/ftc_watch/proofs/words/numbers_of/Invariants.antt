-- the numbers so far with those that are left are all numbers
use Rattle.std.proofs.Common.{◌≡◌, [], length}
use Rattle.ftc_base.specs.Endpoint.{parts_of}
use Rattle.ftc_watch.specs.Grammar.{numbers_from}
use Rattle.ftc_watch.proofs.words.numbers_of.Given as goal

abbrev pub invariant-loop-word : goal.invariant-loop-word
invariant-loop-word l = numbers_from l.held (parts_of 32 l.rest) ≡ numbers_from [] (parts_of 32 l.words)

abbrev pub decreases-loop-word : goal.decreases-loop-word
decreases-loop-word l = length l.rest
