use Rattle.std.specs.Prelude.{replicate}
use Rattle.ftc_base.specs.declared.limits.TheConstants.{MOST_SERVERS}
use Rattle.ftc_watch.proofs.Begun.{none_missed, begun}
use Rattle.ftc_watch.proofs.watcher.Watcher.new.Goals as goal

pub returns : goal.returns
returns c = begun (record {
  down = c.new.result;
  missed = replicate MOST_SERVERS 0;
  script = c.new-2.result;
  held = c.new-3.result;
}) c.new.ensures (none_missed MOST_SERVERS) c.new-2.ensures c.new-3.ensures
