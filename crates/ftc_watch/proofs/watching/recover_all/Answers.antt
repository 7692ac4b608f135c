use Rattle.ftc_watch.specs.Watcher.{known}
use Rattle.ftc_watch.specs.Watch.{recover_at}
use Rattle.ftc_watch.proofs.Steps.{next_told}
use Rattle.ftc_watch.proofs.watching.recover_all.Goals as goal

pub loop-server-preserved : goal.loop-server-preserved
loop-server-preserved c = record {
  told = next_told (recover_at c.args.at) (known c.loop-server.watcher)
      (known c.in_ok-watcher.watcher) _ c.loop-server.server c.servers-server-end.result c.loop-server-test.true
      c.loop-server.invariant.told c.in_ok-watcher.ensures;
  few = c.loop-server.invariant.few;
}
