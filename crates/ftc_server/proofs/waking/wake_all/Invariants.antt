-- what is watched stays watched, and fewer wait for the number each time
use Rattle.std.proofs.Common.{◌≡◌, length}
use Rattle.std.specs.Prelude.{filter}
use Rattle.ftc_replica.specs.Waiting.{waits_for}
use Rattle.ftc_server.specs.Waiting.{AreWatched, StaysWhere}
use Rattle.ftc_server.proofs.waking.wake_all.Given as goal

abbrev pub invariant-loop-group : goal.invariant-loop-group
invariant-loop-group l = record {
  watched : AreWatched l.replicas l.held.items l.held.resting l.waits.items;
  items : l.held.items ≡ l.fn.held.items;
  spare : l.held.spare ≡ l.fn.held.spare;
  had : l.held.had ≡ l.fn.held.had;
  others : StaysWhere l.replicas l.fn.waits.items l.waits.items;
}

abbrev pub decreases-loop-group : goal.decreases-loop-group
decreases-loop-group l = length (filter (waits_for l.group l.partition l.number) l.waits.items)
