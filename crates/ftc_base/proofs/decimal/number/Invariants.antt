-- what the digits so far and those to come are worth is what all are worth
use Rattle.std.proofs.Common.{◌≡◌, ◌≤◌, drop}
use Rattle.ftc_base.specs.Number.{decimal_from}
use Rattle.ftc_base.proofs.decimal.number.Given as goal

abbrev pub invariant-loop-digit : goal.invariant-loop-digit
invariant-loop-digit l = record {
  worth : decimal_from l.value (drop l.digit-index l.word) ≡ decimal_from 0 l.word;
  small : l.value ≤ l.most;
}
