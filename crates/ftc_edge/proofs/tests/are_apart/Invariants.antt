-- those so far are apart from the others
use Rattle.std.proofs.Common.{take}
use Rattle.ftc_message.specs.Ordered.{AreApart}
use Rattle.ftc_edge.proofs.tests.are_apart.Given as goal

abbrev pub invariant-loop-log : goal.invariant-loop-log
invariant-loop-log l = AreApart (take l.log-index l.logs) l.others
