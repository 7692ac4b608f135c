use Rattle.ftc_audit.proofs.OneTable.{one_table_each}
use Rattle.ftc_audit.proofs.laws.one_table.Goals as goal

pub returns : goal.returns
returns c = one_table_each
