use Rattle.ftc_watch.proofs.HeldLines.{tick_held}
use Rattle.ftc_watch.proofs.laws.held_lines_of_a_tick.Goals as goal

pub returns : goal.returns
returns c = tick_held
