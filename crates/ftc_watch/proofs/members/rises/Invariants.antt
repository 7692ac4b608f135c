-- what is left rises where all does
use Rattle.std.proofs.Common.{◌≡◌, ◌≤◌, drop}
use Rattle.ftc_watch.specs.Members.{rises_from}
use Rattle.ftc_watch.proofs.members.rises.Given as goal

abbrev pub invariant-loop-number : goal.invariant-loop-number
invariant-loop-number l = record {
  told : rises_from l.least (drop l.number-index l.numbers) ≡ rises_from 0 l.numbers;
  small : l.least ≤ 4294967296;
}
