use Rattle.std.proofs.Common.{◌≡◌, ◌+◌, drop}
use Rattle.ftc_chain.specs.Messages.{all_held}
use Rattle.ftc_chain.proofs.messages.held_by.Given as goal

-- those that were counted and those of the other servers are all
abbrev pub invariant-loop-slot : goal.invariant-loop-slot
invariant-loop-slot l = l.count + all_held (drop l.slot-index l.slots) ≡ all_held l.slots
