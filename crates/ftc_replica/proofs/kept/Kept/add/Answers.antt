use Rattle.std.proofs.Common.{◌∙◌, ◌∷◌, [], length, refl, length-append, ap, arith}
use Rattle.std.specs.Prelude.{Result, Ok, Err, OnErr}
use Rattle.ftc_replica.specs.Kept.{KeptLogs, left}
use Rattle.ftc_replica.proofs.Left.{left_none}
use Rattle.ftc_replica.proofs.Swept.{swept_items}
use Rattle.ftc_replica.proofs.kept.Kept.add.Goals as goal

-- what holds in any case holds where a call was refused
where_refused : {T E P : Type 0} (result : Result T E) → P → OnErr result P
where_refused (Ok value) holds = tt
where_refused (Err error) holds = holds

pub returns-in_err-push_back-clause-err : goal.returns-in_err-push_back-clause-err
returns-in_err-push_back-clause-err c =
    where_refused c.from_residual.result (swept_items _ _ _ _ _ _ _ c.sweep.ensures.pruned
    c.in_err-push_back.ensures.items c.sweep.ensures.items c.in-Err.ensures.items
    (c.make_way.ensures.items ∙ ap (λ (kept : KeptLogs). kept.items) c.self.view_is))

pub returns-in_ok-push_back-clause-ok : goal.returns-in_ok-push_back-clause-ok
returns-in_ok-push_back-clause-ok c =
    let swept = c.sweep.ensures.items ∙ ap (left c.make_way.new.pruned) c.in-Err.ensures.items
    ∙ c.make_way.ensures.items ∙ ap (λ (kept : KeptLogs). kept.items) c.self.view_is in
    rw c.sweep.ensures.pruned (left_none c.push_back-in-Err.new.self.items ∙ c.in_ok-push_back.ensures.items
    ∙ rw (swept, c.in-Err.ensures.value_returned) refl)

pub returns-in_ok-push_back-clause-spare : goal.returns-in_ok-push_back-clause-spare
returns-in_ok-push_back-clause-spare c =
    let grown = ap length (returns-in_ok-push_back-clause-ok c) in
    let one = length-append c.args.self.now.items (c.args.log ∷ []) in
    let before = ap (λ (kept : KeptLogs). kept.spare) c.self.view_is in
    let items = ap (λ (kept : KeptLogs). length kept.items) c.self.view_is in
    omega (
      arith,
      grown,
      one,
      before,
      items,
      c.make_way.ensures.capacity,
      c.in-Err.ensures.capacity,
      c.sweep.ensures.capacity,
      c.in_ok-push_back.ensures.capacity,
    )
