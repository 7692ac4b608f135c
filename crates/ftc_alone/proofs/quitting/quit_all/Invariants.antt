-- the slots so far are idle, and nothing but heads differs
use Rattle.std.proofs.Common.{◌<◌, ℕ}
use Rattle.ftc_chain.specs.Slots.{IsIdle, IsButHeads}
use Rattle.ftc_alone.proofs.quitting.quit_all.Given as goal

abbrev pub invariant-loop-slot : goal.invariant-loop-slot
invariant-loop-slot l = ((worker : ℕ) → worker < l.slot → IsIdle l.chain worker) × IsButHeads l.fn.chain l.chain
