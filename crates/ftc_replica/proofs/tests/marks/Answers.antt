use Rattle.std.proofs.Common.{◌≡◌, ◌∙◌, ap, get_or, None, Some, arith}
use Rattle.std.specs.Prelude.{is_some}
use Rattle.std.proofs.lemmas.List.{get_or-set_same}
use Rattle.ftc_vector.proofs.Partitions.{length-by_partition}
use Rattle.ftc_replica.proofs.tests.marks.Goals as goal

pub returns : goal.returns
returns c =
    let here : get_or c.set.new.self c.args.partition None ≡ Some c.args.number =
    ap (λ marks. get_or marks c.args.partition None) c.set.ensures ∙ rw c.new-marks.ensures
    (get_or-set_same _ c.args.partition (Some c.args.number) None (rw (length-by_partition _) (omega arith))) in
    ap is_some here
