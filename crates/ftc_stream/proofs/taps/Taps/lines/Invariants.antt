-- the lines so far are those of the taps so far
use Rattle.std.proofs.Common.{◌≡◌, map, take}
use Rattle.std.specs.List.{AllByRecursion}
use Rattle.ftc_outside.specs.Tap.{HasNoFeed}
use Rattle.ftc_stream.proofs.taps.Taps.lines.Given as goal

abbrev pub invariant-loop-tap : goal.invariant-loop-tap
invariant-loop-tap g l =
    (l.lines ≡ map (λ tap. tap.line) (map (λ tap. (goal.Tap-dyn g (tap.vtable, tap.value)).face tap.value)
    (take l.tap-index l.tap-items)))
    × AllByRecursion HasNoFeed l.lines
