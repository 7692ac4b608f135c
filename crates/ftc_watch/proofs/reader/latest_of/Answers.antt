use Rattle.ftc_watch.proofs.Ticks.{last_is}
use Rattle.std.proofs.Common.{arith}
use Rattle.ftc_watch.proofs.reader.latest_of.Goals as goal

pub returns-in-len1-up : goal.returns-in-len1-up
returns-in-len1-up c = last_is 0 c.args.ticks.now _ c.tick-item.result (omega arith) c.tick-item.is
