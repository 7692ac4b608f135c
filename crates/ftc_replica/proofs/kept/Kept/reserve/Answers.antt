use Rattle.std.proofs.Common.{◌≡◌, ◌∙◌, false, sym, ap, arith}
use Rattle.std.specs.Prelude.{Result, Ok, Err, OnOk, is_err}
use Rattle.ftc_replica.specs.Kept.{KeptLogs}
use Rattle.ftc_replica.proofs.Left.{left_few}
use Rattle.ftc_replica.proofs.Swept.{swept_items, swept_spare}
use Rattle.ftc_replica.proofs.kept.Kept.reserve.Goals as goal

pub returns-in_err-reserve-clause-items : goal.returns-in_err-reserve-clause-items
returns-in_err-reserve-clause-items c =
    swept_items _ _ _ _ _ _ _ c.sweep.ensures.pruned c.reserve-then-is_err.ensures.items c.sweep.ensures.items
    c.reserve.ensures.items (ap (λ (kept : KeptLogs). kept.items) c.self.view_is)

pub returns-in_err-reserve-clause-spare : goal.returns-in_err-reserve-clause-spare
returns-in_err-reserve-clause-spare c =
    swept_spare _ _ _ _ _ _ _ c.self.view_is (returns-in_err-reserve-clause-items c) c.reserve.ensures.capacity
    c.sweep.ensures.capacity c.reserve-then-is_err.ensures.capacity

pub returns-in_ok-reserve-clause-ok : goal.returns-in_ok-reserve-clause-ok
returns-in_ok-reserve-clause-ok c =
    let few = left_few c.sweep.new.pruned c.reserve-then-is_err.new.self.items in
    let long = c.reserve-then-is_err.new.self.ok.0 in
    omega (arith, few, long, c.in_ok-reserve.ensures.ok)

pub returns-in_ok-reserve-clause-items : goal.returns-in_ok-reserve-clause-items
returns-in_ok-reserve-clause-items c =
    swept_items _ _ _ _ _ _ _ c.sweep.ensures.pruned c.reserve-then-is_err.ensures.items c.sweep.ensures.items
    c.reserve.ensures.items (ap (λ (kept : KeptLogs). kept.items) c.self.view_is)

pub returns-in_ok-reserve-clause-spare : goal.returns-in_ok-reserve-clause-spare
returns-in_ok-reserve-clause-spare c =
    swept_spare _ _ _ _ _ _ _ c.self.view_is (returns-in_ok-reserve-clause-items c) c.reserve.ensures.capacity
    c.sweep.ensures.capacity c.reserve-then-is_err.ensures.capacity

-- what is known of a call that wasn't refused
where_ok : {T E P : Type 0} (result : Result T E) → is_err result ≡ false → OnOk result P → P
where_ok (Ok value) is known = known
where_ok (Err error) is known = absurd cc

pub returns-else-is_err-clause-ok : goal.returns-else-is_err-clause-ok
returns-else-is_err-clause-ok c =
    let few = left_few c.self.inside.pruned c.reserve.new.self.items in
    let room = where_ok c.reserve.result (sym c.is_err.ensures.value ∙ c.if-is_err.false) c.reserve.ensures.ok in
    omega (arith, few, c.reserve.new.self.ok, room)
