use Rattle.ftc_txn.proofs.Serially.{serially}
use Rattle.ftc_txn.proofs.laws.transactions.Goals as goal

pub returns : goal.returns
returns c = λ old new calls run. serially calls old new run
