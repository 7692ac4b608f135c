-- the ledger is of the chain that was handed in
use Rattle.ftc_workers.specs.Given.{given_of}
use Rattle.ftc_workers.specs.Visits.{visits}
use Rattle.ftc_workers.proofs.driving.drive.Given as goal

abbrev pub ghosts-drive_named-L-Run : goal.ghosts-drive_named-L-Run
ghosts-drive_named-L-Run g a = record { start = visits a.chain.journal; given = given_of a.chain }

abbrev pub ghosts-drive_named-L-Ledger : goal.ghosts-drive_named-L-Ledger
ghosts-drive_named-L-Ledger g a = record { name = a.blank.name; parts = a.blank.parts }
