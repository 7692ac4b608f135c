use Rattle.ftc_protocol.specs.State.{opening}
use Rattle.ftc_protocol.proofs.UniqueDrive.{play_is_one, play_on, play_more, play_over}
use Rattle.ftc_protocol.proofs.FirstJobExists.{played_legal}
use Rattle.ftc_protocol.proofs.DriveLaws.{plays_itself}
use Rattle.ftc_protocol.proofs.driving.play.Goals as goal

pub returns-clause-single : goal.returns-clause-single
returns-clause-single c = play_is_one

pub returns-clause-run : goal.returns-clause-run
returns-clause-run c = λ setting schedule played. played_legal setting schedule (opening setting) played

pub returns-clause-made : goal.returns-clause-made
returns-clause-made c = λ setting schedule played event job releases. play_more setting schedule
    (opening setting) played event job releases

pub returns-clause-over : goal.returns-clause-over
returns-clause-over c = λ setting schedule played event. play_over setting schedule (opening setting) played event

pub returns-clause-itself : goal.returns-clause-itself
returns-clause-itself c = plays_itself

pub returns-clause-joined : goal.returns-clause-joined
returns-clause-joined c = λ setting schedule more played after. play_on setting schedule more
    (opening setting) played after
