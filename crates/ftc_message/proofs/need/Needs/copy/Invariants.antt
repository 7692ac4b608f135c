-- the needs so far are copied
use Rattle.std.proofs.Common.{◌≡◌, take}
use Rattle.ftc_message.proofs.need.Needs.copy.Given as goal

abbrev pub invariant-loop-need : goal.invariant-loop-need
invariant-loop-need l = l.list.items ≡ take l.need-index l.need-items
