use Rattle.ftc_txn.proofs.StayedHoldings.{runs_before, stay, own, changed}
use Rattle.ftc_txn.proofs.laws.holdings.Goals as goal

pub returns : goal.returns
returns c = record { runs_before = runs_before; stay = stay; own = own; changed = changed }
