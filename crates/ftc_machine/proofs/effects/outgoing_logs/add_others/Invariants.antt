-- the list has the others of the visits so far
use Rattle.std.proofs.Common.{◌≡◌, ◌==◌, ◌&&◌, ◌||◌, ℕ, not, take}
use Rattle.ftc_serial.specs.Trace.{names}
use Rattle.ftc_machine.proofs.effects.outgoing_logs.add_others.Given as goal

abbrev pub invariant-loop-name : goal.invariant-loop-name
invariant-loop-name l =
    (server packet : ℕ) → names l.list server packet
    ≡ (names l.initial.list server packet
    || (names (take l.name-index l.more) server packet && not (server == l.group)))
