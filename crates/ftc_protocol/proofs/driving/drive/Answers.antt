use Rattle.std.proofs.Common.{rules}
use Rattle.ftc_protocol.proofs.FirstJobExists.{drive_of}
use Rattle.ftc_protocol.proofs.UniqueDrive.{drive_is_one}
use Rattle.ftc_protocol.proofs.DriveLaws.{drive_run, drives_itself, drive_front}
use Rattle.ftc_protocol.proofs.driving.drive.Goals as goal

pub returns : goal.returns
returns c = record {
  exists = drive_of;
  single = drive_is_one;
  run = drive_run;
  itself = drives_itself;
  front = drive_front;
  empty = search rules;
}
