use Rattle.std.proofs.Common.{◌≡◌, ◌<◌, ◌∙◌, true, length, get_or, sym, ap, arith}
use Rattle.ftc_replica.specs.Tickets.{waits_for_number}
use Rattle.ftc_replica.proofs.Tickets.{stands_at, stands_nowhere}
use Rattle.ftc_replica.proofs.waits.place_behind.Goals as goal

pub returns-then-is_for : goal.returns-then-is_for
returns-then-is_for c =
    let test = waits_for_number c.args.number.now in
    let items = c.args.held.now.items in
    let place = c.loop-place.place in
    let one = c.index.result.now in
    let within : place < length items =
    omega (arith, c.loop-place-test.true, c.len-place-end.ensures, c.args.held.now.ok.0) in
    let passes : test (get_or items place one) ≡ true =
    ap test (sym c.index.ensures) ∙ sym c.is_for.ensures ∙ c.if-is_for.true in
    sym (stands_at test items place one within (λ k less. c.loop-place.invariant k one less) passes)

pub returns : goal.returns
returns c =
    sym (stands_nowhere (waits_for_number c.args.number.now) c.args.held.now.items (λ k other within.
    c.loop-place.invariant k other (omega (
      arith,
      within,
      c.loop-place-test.false,
      c.len-place-end.ensures,
      c.args.held.now.ok.0,
    ))))
