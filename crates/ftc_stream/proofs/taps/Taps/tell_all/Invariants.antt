-- the items so far were told
use Rattle.std.proofs.Common.{map, take}
use Rattle.ftc_stream.specs.Taps.{AreLeft}
use Rattle.ftc_stream.proofs.taps.Taps.tell_all.Given as goal

abbrev pub invariant-loop-item : goal.invariant-loop-item
invariant-loop-item g l =
    AreLeft (take l.item-index l.items)
    (map (λ tap. (goal.Tap-dyn g (tap.vtable, tap.value)).face tap.value) l.fn.self.list.items)
    (map (λ tap. (goal.Tap-dyn g (tap.vtable, tap.value)).face tap.value) l.self.list.items)
