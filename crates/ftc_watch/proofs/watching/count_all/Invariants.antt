-- the step at the servers that are left
use Rattle.std.proofs.Common.{◌≡◌, ◌≤◌, ◌-◌}
use Rattle.std.specs.List.{range_with_len}
use Rattle.ftc_base.specs.declared.limits.TheConstants.{MOST_SERVERS}
use Rattle.ftc_watch.specs.Watcher.{known}
use Rattle.ftc_watch.specs.Watch.{count_at, at_each, count_all}
use Rattle.ftc_watch.proofs.watching.count_all.Given as goal

abbrev pub invariant-loop-server : goal.invariant-loop-server
invariant-loop-server l = record {
  told : at_each (count_at l.limit l.beaten) (known l.watcher) (range_with_len l.server (l.server-end - l.server))
      ≡ count_all l.ring l.limit l.beaten (known l.fn.watcher);
  few : l.server-end ≤ MOST_SERVERS;
}
