use Rattle.std.proofs.Common.{refl}
use Rattle.std.specs.List.{before_first, after_first}
use Rattle.ftc_edge.specs.Due.{is_due}
use Rattle.ftc_base.proofs.Firsts.{test_of_found, around_found, none_before, none_passes, all_stay}
use Rattle.ftc_edge.proofs.laws.released_packets.Goals as goal

pub returns-clause-first : goal.returns-clause-first
returns-clause-first c commits items withheld found = record {
  before = before_first (is_due commits) items;
  after = after_first (is_due commits) items;
  among = around_found (is_due commits) items withheld found;
  others = refl;
  due = test_of_found (is_due commits) items withheld found;
  none_before = none_before (is_due commits) items;
}

pub returns-clause-none : goal.returns-clause-none
returns-clause-none c commits items none = none_passes (is_due commits) items none

pub returns-clause-all : goal.returns-clause-all
returns-clause-all c commits items none = all_stay (is_due commits) items none
