use Rattle.ftc_watch.proofs.TickLines as lines
use Rattle.ftc_watch.proofs.laws.lines_of_a_tick.Goals as goal

pub returns : goal.returns
returns c = lines.tick_lines
