use Rattle.std.proofs.Common.{◌≡◌, ◌<◌, ◌∙◌, Some, length, get_or, refl, sym, ap, arith}
use Rattle.std.specs.List.{position}
use Rattle.std.proofs.lemmas.List.{get_or-map}
use Rattle.ftc_base.proofs.Firsts.{found_at, none_found}
use Rattle.ftc_replica.specs.declared.awaited.Number.{Number}
use Rattle.ftc_replica.specs.declared.waits.Ticketed.{Ticketed}
use Rattle.ftc_replica.specs.Waiting.{waits_for, without_first, WaitList}
use Rattle.ftc_replica.specs.Tickets.{waits_of, waits_for_number}
use Rattle.ftc_replica.proofs.Tickets.{removed, left_waits, place_of_wait}
use Rattle.ftc_replica.proofs.waits.Waits.wake.Goals.{then-self, else-self}
use Rattle.ftc_replica.proofs.waits.Waits.wake.Goals as goal

pub returns-in_err-place-clause-woken : goal.returns-in_err-place-clause-woken
returns-in_err-place-clause-woken c =
    let sought = waits_for c.args.group c.args.partition c.args.number in
    let at = rw c.number.ensures.same at c.in_err-place.ensures in
    c.from_residual.ensures ∙ sym (none_found sought c.args.self.now.items (sym at))

pub invariant_of-self-then-self : goal.invariant_of-self-then-self
invariant_of-self-then-self c =
    let inside = c.self.inside in
    let held = inside.held.items in
    let place = c.in_ok-place.place in
    let number : Number =
    record { group = c.number.result; partition = c.args.partition; number = c.args.number } in
    let sought = waits_for number.group number.partition number.number in
    let at : position (waits_for_number number) held ≡ Some place =
    sym (c.in_ok-place.ensures ∙ ap (λ (waits : WaitList). position sought waits.items) (sym c.self.view_is)
    ∙ place_of_wait sought held) in
    let within = c.in_ok-held.ensures.variant.0 refl in
    rw c.in_ok-held.ensures.items (removed held inside.next inside.is_noted inside.numbers.entries number place
    c.in_ok-held.held c.take_off.new.numbers.entries c.self.invariant at
    (λ other.
    let same = c.in_ok-held.ensures.succeeds other within in
    let one : get_or held place other ≡ c.in_ok-held.held = cc in one)
    c.take_off.ensures)

pub returns-clause-woken : goal.returns-clause-woken
returns-clause-woken c =
    let held = c.self.inside.held.items in
    let place = c.in_ok-place.place in
    let wait = c.in_ok-held.held.wait in
    let sought = waits_for c.args.group c.args.partition c.args.number in
    let at = rw c.number.ensures.same at c.in_ok-place.ensures in
    let inside = c.in_ok-held.ensures.variant.0 refl in
    let within : place < length held = omega (arith, inside, c.self.inside.held.ok.0) in
    let same : get_or (waits_of held) place wait ≡ wait =
    get_or-map (λ (one : Ticketed). one.wait) held place c.in_ok-held.held wait within
    ∙ ap (λ (one : Ticketed). one.wait) (sym c.in_ok-held.ensures.value) in
    let here = ap (λ (waits : WaitList). get_or waits.items place wait) (sym c.self.view_is) ∙ same in
    sym (found_at sought c.args.self.now.items place wait (sym at) (sym here))

pub returns-clause-others : goal.returns-clause-others
returns-clause-others c =
    let held = c.self.inside.held.items in
    let wait = c.in_ok-held.held.wait in
    let sought = waits_for c.args.group c.args.partition c.args.number in
    let at = rw c.number.ensures.same at c.in_ok-place.ensures in
    let there = sym (at ∙ ap (λ (waits : WaitList). position sought waits.items) (sym c.self.view_is)) in
    let left = left_waits sought held c.in_ok-place.place wait there
    ∙ ap (λ (waits : WaitList). without_first c.args.group c.args.partition c.args.number waits.items) c.self.view_is in
    elim c.if-self.branch [
      | then-self w ↦ rw (w.self-is, c.in_ok-held.ensures.items) left
      | else-self w ↦ rw (w.self-is, c.in_ok-held.ensures.items) left
    ]
