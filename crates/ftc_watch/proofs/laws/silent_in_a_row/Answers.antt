use Rattle.ftc_watch.proofs.Rows.{down_in_row}
use Rattle.ftc_watch.proofs.laws.silent_in_a_row.Goals as goal

pub returns : goal.returns
returns c = down_in_row
