-- the step at the servers that are left
use Rattle.std.proofs.Common.{◌≡◌, ◌≤◌, ◌-◌}
use Rattle.std.specs.List.{range_with_len}
use Rattle.ftc_base.specs.declared.limits.TheConstants.{MOST_SERVERS}
use Rattle.ftc_watch.specs.Watcher.{known}
use Rattle.ftc_watch.specs.Watch.{recover_at, at_each, recover_all}
use Rattle.ftc_watch.proofs.watching.recover_all.Given as goal

abbrev pub invariant-loop-server : goal.invariant-loop-server
invariant-loop-server l = record {
  told : at_each (recover_at l.at) (known l.watcher) (range_with_len l.server (l.server-end - l.server))
      ≡ recover_all l.ring l.at (known l.fn.watcher);
  few : l.server-end ≤ MOST_SERVERS;
}
