use Rattle.std.proofs.Common.{rules, sym, subst}
use Rattle.std.specs.Prelude.{List}
use Rattle.std.specs.List.Sorted.{IsNonDecreasingBy}
use Rattle.std.proofs.lemmas.List.Sorted.{answers_always, IsNonDecreasingBy-from_sort}
use Rattle.ftc_audit.specs.declared.line.PortLine.{PortLine}
use Rattle.ftc_audit.proofs.table.table_of.Goals as goal

pub returns-clause-sorted : goal.returns-clause-sorted
returns-clause-sorted c =
    subst (λ (lines : List PortLine). IsNonDecreasingBy (λ line. line.outside) lines) (sym c.from_vec.ensures)
    (IsNonDecreasingBy-from_sort (λ (line : PortLine). line.outside) _ (c.in_ok-sort_by_key.ensures.sorted
    (λ (line : PortLine). line.outside) (answers_always _ _ _ (λ f a r g called. search rules))))
