use Rattle.std.proofs.Common.{rules, ◌∙◌, sym}
use Rattle.std.specs.Prelude.{not}
use Rattle.std.proofs.lemmas.Fn.{filter_same}
use Rattle.ftc_replica.specs.Kept.{covers_log}
use Rattle.ftc_replica.proofs.Lacking.{all_missing, none_covered}
use Rattle.ftc_replica.proofs.dropping.drop_covered.Goals as goal

pub returns-then-covers_some-clause-items : goal.returns-then-covers_some-clause-items
returns-then-covers_some-clause-items c =
    filter_same _ (λ log. not (covers_log c.args.commit.now log)) _ (λ x b f' k. search rules) _ _
    c.retain.ensures.filtered
    ∙ c.drop_front.ensures.items

pub returns-else-covers_some-clause-items : goal.returns-else-covers_some-clause-items
returns-else-covers_some-clause-items c =
    let commit = c.args.commit.now in
    let logs = c.drop_front.new.logs.items in
    sym (all_missing commit logs (none_covered commit logs (sym c.covers_some.ensures ∙ c.if-covers_some.false)))
    ∙ c.drop_front.ensures.items
