use Rattle.ftc_watch.specs.Watcher.{known}
use Rattle.ftc_watch.specs.Watch.{count_at}
use Rattle.ftc_watch.proofs.Steps.{next_told}
use Rattle.ftc_watch.proofs.watching.count_all.Goals as goal

pub loop-server-preserved : goal.loop-server-preserved
loop-server-preserved c = record {
  told = next_told (count_at c.args.limit c.args.beaten) (known c.loop-server.watcher)
      (known c.counted-watcher.result) _ c.loop-server.server c.servers-server-end.result c.loop-server-test.true
      c.loop-server.invariant.told c.counted-watcher.ensures;
  few = c.loop-server.invariant.few;
}
