use Rattle.ftc_protocol.proofs.FirstJobExists.{releases_of, releases_end}
use Rattle.ftc_protocol.proofs.DriveLaws.{releases_one, releases_run}
use Rattle.ftc_protocol.proofs.driving.releases.Goals as goal

pub returns-clause-exist : goal.returns-clause-exist
returns-clause-exist c = releases_of

pub returns-clause-single : goal.returns-clause-single
returns-clause-single c = releases_one

pub returns-clause-run : goal.returns-clause-run
returns-clause-run c = releases_run

pub returns-clause-end : goal.returns-clause-end
returns-clause-end c = λ setting state events. releases_end setting events state
