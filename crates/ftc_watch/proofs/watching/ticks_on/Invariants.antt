-- the ticks that are left
use Rattle.std.proofs.Common.{◌≡◌, drop}
use Rattle.ftc_watch.specs.Watcher.{known}
use Rattle.ftc_watch.specs.Watch.{at_start, ticks_on}
use Rattle.ftc_watch.proofs.watching.ticks_on.Given as goal

abbrev pub invariant-loop-tick : goal.invariant-loop-tick
invariant-loop-tick l = ticks_on l.ring l.limit (known l.watcher) (drop l.tick-index l.ticks)
    ≡ ticks_on l.ring l.limit at_start l.ticks
