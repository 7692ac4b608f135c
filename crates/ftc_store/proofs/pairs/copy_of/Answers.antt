use Rattle.std.proofs.Common.{rules, ℕ, List, map, refl, ◌∙◌}
use Rattle.std.specs.Prelude.{nat_eq}
use Rattle.std.specs.Cmp.Lexicographic.{pointwise, nat_list_eq_equiv}
use Rattle.std.specs.HashMap as hash
use Rattle.std.proofs.lemmas.Iterator.{YieldsList-from_map}
use Rattle.std.proofs.lemmas.Iterator.Adapters.{fact_from_collect}
use Rattle.std.proofs.lemmas.Iterator.Consumers.{YieldsList-at, YieldsList-from_rest}
use Rattle.std.proofs.lemmas.List.{map-id}
use Rattle.std.proofs.lemmas.Map.Made.{update_all_none}
use Rattle.std.proofs.lemmas.Result.{IfOk-weaker}
use Rattle.ftc_store.proofs.pairs.copy_of.Goals as goal

pub returns : goal.returns
returns c =
    IfOk-weaker c.collect.result
    (hash.IsFromIterResult (pointwise nat_eq) (map (λ (e : List ℕ × List ℕ). e) c.args.held.now.entries)) _
    (λ copy made q. rw (map-id c.args.held.now.entries) at made.0 q ∙ update_all_none nat_list_eq_equiv
    (pointwise nat_eq) (λ x y. refl) c.args.held.now.entries q c.iter.ensures.unique)
    (fact_from_collect (hash.IsFromIterResult (pointwise nat_eq)) c.collect.result c.collect.ensures.ran
    (YieldsList-from_map _ (λ e. e)
    (YieldsList-at c.map.ensures.source
    (YieldsList-from_rest c.args.held.now.entries c.iter.ensures.rest)) c.map.ensures.closure
    (λ x r q k. search rules)))
