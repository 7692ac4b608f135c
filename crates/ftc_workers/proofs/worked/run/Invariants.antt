-- the ledger is of the chain that was handed in
use Rattle.ftc_workers.specs.Given.{given_of}
use Rattle.ftc_workers.specs.Visits.{visits}
use Rattle.ftc_workers.proofs.worked.run.Given as goal

abbrev pub ghosts-run_named-L-Run : goal.ghosts-run_named-L-Run
ghosts-run_named-L-Run g a = record { start = visits a.chain.journal; given = given_of a.chain }

abbrev pub ghosts-run_named-L-Ledger : goal.ghosts-run_named-L-Ledger
ghosts-run_named-L-Ledger g a = record { name = a.blank.name; parts = a.blank.parts }
