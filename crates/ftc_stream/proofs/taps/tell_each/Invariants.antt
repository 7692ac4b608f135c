use Rattle.std.proofs.Common.{map, ◌-◌, vec_len}
use Rattle.ftc_stream.proofs.Telling.{AreToldUpTo}
use Rattle.ftc_stream.proofs.taps.tell_each.Given as goal

abbrev pub invariant-loop-place : goal.invariant-loop-place
invariant-loop-place g l =
    AreToldUpTo
    (record { packet = l.number; bytes = l.bytes })
    (map (λ tap. (goal.Tap-dyn g (tap.vtable, tap.value)).face tap.value) l.fn.taps.items)
    (map (λ tap. (goal.Tap-dyn g (tap.vtable, tap.value)).face tap.value) l.taps.items)
    l.place

abbrev pub decreases-loop-place : goal.decreases-loop-place
decreases-loop-place g l = vec_len l.taps - l.place
