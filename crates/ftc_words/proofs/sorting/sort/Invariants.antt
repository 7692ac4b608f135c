use Rattle.std.proofs.Common.{◌≡◌, true, length}
use Rattle.std.specs.List.{list_all}
use Rattle.ftc_words.specs.Given.{is_name, given_from, given_in, texts_of}
use Rattle.ftc_words.specs.Shown.{sorted_of}
use Rattle.ftc_words.proofs.sorting.sort.Given as goal

abbrev pub invariant-loop-rest : goal.invariant-loop-rest
invariant-loop-rest l = record {
  told : given_from (sorted_of l.sorted) (texts_of l.rest) ≡ given_in (texts_of l.words);
  named : list_all is_name (sorted_of l.sorted).plain ≡ true;
}

abbrev pub decreases-loop-rest : goal.decreases-loop-rest
decreases-loop-rest l = length l.rest
