-- what is left is still to be put in place, and all of it is of groups with a replica
use Rattle.std.proofs.Common.{◌≡◌, true, vec_len}
use Rattle.std.specs.List.{list_all}
use Rattle.ftc_server.specs.Looks.{is_later_of}
use Rattle.ftc_server.specs.Replicas.{AreOfSame}
use Rattle.ftc_server.specs.Steps.{with_installed, known_with}
use Rattle.ftc_server.proofs.recovering.put_all.Given as goal

abbrev pub invariant-loop-new : goal.invariant-loop-new
invariant-loop-new l = record {
  later : list_all (is_later_of l.others.items) l.rest.items ≡ true;
  others : with_installed l.rest.items l.others.items ≡ with_installed l.fn.news.items l.initial.others.items;
  known : known_with l.ring l.id l.rest.items l.known ≡ known_with l.ring l.id l.fn.news.items l.initial.known;
  members : AreOfSame l.initial.others.items l.others.items;
}

abbrev pub decreases-loop-new : goal.decreases-loop-new
decreases-loop-new l = vec_len l.rest
