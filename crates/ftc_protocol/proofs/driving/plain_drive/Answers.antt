use Rattle.ftc_protocol.proofs.DriveLaws.{plain_is_drive, plain_is_one}
use Rattle.ftc_protocol.proofs.driving.plain_drive.Goals as goal

pub returns-clause-drive : goal.returns-clause-drive
returns-clause-drive c = plain_is_drive

pub returns-clause-single : goal.returns-clause-single
returns-clause-single c = plain_is_one
