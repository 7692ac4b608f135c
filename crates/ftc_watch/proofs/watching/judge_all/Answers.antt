use Rattle.std.proofs.Common.{◌∙◌, ap}
use Rattle.ftc_watch.specs.Watcher.{known}
use Rattle.ftc_watch.specs.Watch.{judge_at}
use Rattle.ftc_watch.proofs.Steps.{next_told}
use Rattle.ftc_watch.proofs.watching.judge_all.Goals as goal

pub loop-server-preserved : goal.loop-server-preserved
loop-server-preserved c = record {
  told = next_told (judge_at c.args.ring.now c.args.limit c.args.at) (known c.loop-server.watcher)
      (known c.in_ok-watcher.watcher) _ c.loop-server.server c.servers-server-end.result c.loop-server-test.true
      c.loop-server.invariant.told
      (c.in_ok-watcher.ensures ∙ ap (judge_at c.args.ring.now c.args.limit c.args.at
      (known c.loop-server.watcher)) c.server_of.ensures);
  few = c.loop-server.invariant.few;
}
