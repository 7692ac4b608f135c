use Rattle.std.proofs.Common.{rules}
use Rattle.ftc_protocol.proofs.FirstJobExists.{finish_of}
use Rattle.ftc_protocol.proofs.UniqueDrive.{finish_is_one, turn}
use Rattle.ftc_protocol.proofs.DriveLaws.{finish_run, finish_finished, finish_begun}
use Rattle.ftc_protocol.proofs.driving.finish.Goals as goal

pub returns : goal.returns
returns c = record {
  exists = finish_of;
  single = finish_is_one;
  run = finish_run;
  finished = finish_finished;
  turn = turn;
  begun = finish_begun;
  ended = search rules;
}
