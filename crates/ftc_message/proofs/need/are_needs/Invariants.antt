-- those so far hold what their type does
use Rattle.std.proofs.Common.{take}
use Rattle.std.specs.List.{AllByRecursion}
use Rattle.ftc_message.specs.Bounds.{IsNeed}
use Rattle.ftc_message.proofs.need.are_needs.Given as goal

abbrev pub invariant-loop-need : goal.invariant-loop-need
invariant-loop-need l = AllByRecursion IsNeed (take l.need-index l.needs)
