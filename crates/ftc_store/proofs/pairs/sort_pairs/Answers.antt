use Rattle.std.proofs.Common.{rules}
use Rattle.std.proofs.lemmas.List.Sorted.{answers_always}
use Rattle.std.proofs.lemmas.Result.{on_ok_weaker}
use Rattle.ftc_store.specs.declared.pairs.Pair.{Pair}
use Rattle.ftc_store.proofs.pairs.sort_pairs.Goals as goal

pub returns-clause-sorted : goal.returns-clause-sorted
returns-clause-sorted c =
    on_ok_weaker c.sort_by_key.result
    (λ sorted. sorted (λ (pair : Pair). pair.key)
    (answers_always _ _ _ (λ f a r g called. search rules))) c.sort_by_key.ensures.sorted
