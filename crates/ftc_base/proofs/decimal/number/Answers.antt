use Rattle.std.proofs.Common.{arith}
use Rattle.ftc_base.proofs.Numbers.{number_of-too_large}
use Rattle.ftc_base.proofs.decimal.number.Goals as goal

pub returns-then-value-from : goal.returns-then-value-from
returns-then-value-from c =
    number_of-too_large c.args.word.now c.loop-digit.digit-index c.loop-digit.value c.args.most c.loop-digit-test.true
    (cc) c.loop-digit.invariant.worth (omega arith)
