use Rattle.ftc_watch.proofs.Missed.{tick_missed}
use Rattle.ftc_watch.proofs.laws.missed_at_a_tick.Goals as goal

pub returns : goal.returns
returns c = tick_missed
