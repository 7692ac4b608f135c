use Rattle.std.proofs.Common.{rules}
use Rattle.std.proofs.lemmas.List.Sorted.{IsPartitionPoint-from_clause}
use Rattle.ftc_message.specs.Ordered.{is_before}
use Rattle.ftc_message.proofs.Searched.{parted, point_is}
use Rattle.ftc_message.proofs.logs.place_of.Goals as goal

pub returns-clause-place : goal.returns-clause-place
returns-clause-place c =
    let logs = c.args.logs.now in
    point_is (is_before c.args.origin c.args.group) logs c.partition_point.result c.partition_point.ensures.bound
    (IsPartitionPoint-from_clause (is_before c.args.origin c.args.group) _ _ c.partition_point.ensures.partitioned
    (parted c.args.origin c.args.group logs c.requires) (λ a r q k. search rules))
