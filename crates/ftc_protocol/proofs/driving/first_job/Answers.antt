use Rattle.std.proofs.Common.{rules}
use Rattle.ftc_protocol.proofs.JobOrder.{one_first, not_below_itself, below_both}
use Rattle.ftc_protocol.proofs.DriveLaws.{first_exists, none_is_finished, first_in_turn}
use Rattle.ftc_protocol.proofs.FirstJobInTurn.{none_in_turn}
use Rattle.ftc_protocol.specs.Jobs.{place_of}
use Rattle.ftc_protocol.proofs.driving.first_job.Goals as goal

pub returns : goal.returns
returns c = record {
  order = search rules;
  strict = λ state one. not_below_itself (place_of state one);
  through = λ state one other another.
      below_both (place_of state one) (place_of state other) (place_of state another);
  single = one_first;
  exists = first_exists;
  turn = first_in_turn;
  stages = none_in_turn;
  unfinished = search rules;
  none = none_is_finished;
}
