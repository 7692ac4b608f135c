use Rattle.std.proofs.Common.{◌≡◌, ◌∙◌, ◌<◌, true, not, get_or, length, sym, ap, arith}
use Rattle.std.specs.Prelude.{slice_get}
use Rattle.ftc_message.specs.Logged.{Logged}
use Rattle.ftc_replica.specs.Kept.{is_dropped, left}
use Rattle.ftc_replica.proofs.Left.{passed_at}
use Rattle.ftc_replica.proofs.dropping.place_of.Goals as goal

pub returns-then-passed-count-clause-same : goal.returns-then-passed-count-clause-same
returns-then-passed-count-clause-same c =
    let pruned = c.args.pruned.now in
    let items = c.args.logs.now.items in
    let place = c.loop-place.place in
    let log = c.index.result.now in
    let within : place < length items =
    omega (arith, c.loop-place-test.true, c.len-place-end.ensures, c.args.logs.now.ok.0) in
    let is_left : not (is_dropped pruned (get_or items place log)) ≡ true =
    ap (λ (log : Logged). not (is_dropped pruned log)) (sym c.index.ensures)
    ∙ ap not (sym c.is_dropped.ensures ∙ c.if-not-is_dropped.true) in
    sym (ap (slice_get (left pruned items)) (sym c.if-passed-count.true ∙ c.loop-place.invariant.passed)
    ∙ passed_at (λ log. not (is_dropped pruned log)) items place log within is_left)
