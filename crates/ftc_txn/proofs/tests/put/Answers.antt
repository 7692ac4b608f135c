use Rattle.std.proofs.Common.{Some}
use Rattle.ftc_txn.proofs.Writing.{may_write}
use Rattle.ftc_txn.proofs.tests.put.Goals as goal

pub commit_one-requires : goal.commit_one-requires
commit_one-requires c = λ running runs.
    let read = c.in-Value.ensures in
    rw c.put.ensures (may_write c.args.head.now c.read.new.self c.args.worker read.0 running c.args.key.now
    c.in-Value.field-0 (Some c.args.value) read.2 runs)
