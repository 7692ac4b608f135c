-- what is watched stays watched, and what is reached waits for a later partition
use Rattle.std.proofs.Common.{◌≡◌, true}
use Rattle.std.specs.List.{list_all}
use Rattle.ftc_server.specs.Waiting.{AreWatched, is_due}
use Rattle.ftc_server.proofs.waking.wake_changed.Given as goal

abbrev pub invariant-loop-partition : goal.invariant-loop-partition
invariant-loop-partition l = record {
  watched : AreWatched l.replicas l.held.items l.held.resting l.waits.items;
  items : l.held.items ≡ l.fn.held.items;
  spare : l.held.spare ≡ l.fn.held.spare;
  had : l.held.had ≡ l.fn.held.had;
  due : list_all (is_due l.replicas l.group l.changed l.partition) l.waits.items ≡ true;
}
