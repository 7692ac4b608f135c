-- the events so far were played, and slots are idle
use Rattle.std.proofs.Common.{take}
use Rattle.ftc_chain.specs.Slots.{AreIdle}
use Rattle.ftc_alone.specs.Alone.{HasPlayed}
use Rattle.ftc_alone.proofs.playing.play_idle.Given as goal

abbrev pub invariant-loop-event : goal.invariant-loop-event
invariant-loop-event l = ∥ HasPlayed (take l.event-index l.event-items) l.fn.chain l.chain ∥₁ × AreIdle l.chain
