use Rattle.ftc_base.specs.declared.limits.TheConstants.{MOST_SLOTS}
use Rattle.ftc_locks.proofs.Holdings.{free_table-nothing, free_table-valid, copies-busy}
use Rattle.ftc_locks.proofs.table.LockTable.new.Goals as goal

pub invariant_of-result : goal.invariant_of-result
invariant_of-result c = (
  free_table-valid c.args.partitions c.new-none.result c.new-none.ensures c.requires.some c.requires.within,
  copies-busy MOST_SLOTS c.new-none.result c.new.result c.new-none.ensures,
)

pub returns-clause-free : goal.returns-clause-free
returns-clause-free c = free_table-nothing c.args.partitions c.new-none.result c.new-none.ensures
