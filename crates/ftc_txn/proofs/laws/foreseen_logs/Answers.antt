use Rattle.ftc_txn.proofs.Foreseen.{as_foreseen}
use Rattle.ftc_txn.proofs.laws.foreseen_logs.Goals as goal

pub returns : goal.returns
returns c old new worker writes foreseen made would commits =
    let (running, runs, done) = commits in
    as_foreseen old.group old.partitions old.vector running.packet running.answers writes made foreseen done.no_log
    done.logged
    (would.no_log running runs) (would.logged running runs)
