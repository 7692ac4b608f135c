use Rattle.std.proofs.Common.{◌<◌, ◌∙◌, ◌+◌, ℕ, List, length, refl, sym, ap, subst, arith, length-append, length-drop}
use Rattle.std.specs.VecDeque.{deque_capacity}
use Rattle.ftc_visits.specs.declared.visit.MadeVisit.{MadeVisit}
use Rattle.ftc_visits.proofs.Passing.{HasPassed, passed_none, passed_all, one_goes, one_stays}
use Rattle.ftc_visits.proofs.undoing.drop_named.Goals as goal
use Rattle.ftc_visits.proofs.undoing.drop_named.Goals.{then-is_next, else-is_next}

pub loop-place-init : goal.loop-place-init
loop-place-init c = record {
  passed = passed_none c.args.visits.now.items c.args.names.now;
  few = omega arith;
  capacity = refl;
}

pub loop-place-preserved : goal.loop-place-preserved
loop-place-preserved c =
    let old = c.args.visits.now.items in
    let names = c.args.names.now in
    let place = c.loop-place.place in
    let next = c.loop-place.next in
    let passed = c.loop-place.invariant.passed in
    let within : c.loop-place.place < length c.args.visits.now.items = omega (arith, c.args.visits.now.ok) in
    elim c.if-is_next.branch [
      | then-is_next w ↦ record {
        passed = subst (λ (n : ℕ). HasPassed old names (place + 1) n c.if-is_next.visits.items) (sym w.next-is)
            (subst (λ (items : List MadeVisit). HasPassed old names (place + 1) (next + 1) items)
            (sym (ap (λ v. v.items) w.visits-is))
            (one_goes old names place next c.loop-place.visits.items passed within c.in-Some.visit
            c.pop_front.new.self.items
            c.in-Some.ensures.items (sym c.is_next.ensures.first ∙ w.if-is_next.true)));
        few = omega (arith, w.next-is, c.is_next.ensures.within w.if-is_next.true);
        capacity = ap deque_capacity w.visits-is ∙ (c.pop_front.ensures.capacity ∙ c.loop-place.invariant.capacity);
      }
      | else-is_next w ↦ record {
        passed = subst (λ (n : ℕ). HasPassed old names (place + 1) n c.if-is_next.visits.items) (sym w.next-is)
            (subst (λ (items : List MadeVisit). HasPassed old names (place + 1) next items)
            (sym (ap (λ v. v.items) w.visits-is ∙ w.push_back_reserved.ensures.items))
            (one_stays old names place next c.loop-place.visits.items passed within c.in-Some.visit
            c.pop_front.new.self.items
            c.in-Some.ensures.items (sym c.is_next.ensures.first ∙ w.if-is_next.false)));
        few = omega (arith, w.next-is, c.loop-place.invariant.few);
        capacity = ap deque_capacity w.visits-is ∙ (w.push_back_reserved.ensures.capacity
            ∙ (c.pop_front.ensures.capacity ∙ c.loop-place.invariant.capacity));
      }
    ]

pub unreachable-requires : goal.unreachable-requires
unreachable-requires c =
    let old = c.args.visits.now.items in
    let long = ap length c.loop-place.invariant.passed.now in
    omega (
      arith,
      c.args.visits.now.ok,
      c.loop-place.visits.ok,
      c.in_default.ensures.cases,
      long,
      simp (length-append, length-drop) at long,
    )

pub returns : goal.returns
returns c = record {
  items = passed_all c.args.visits.now.items c.args.names.now c.loop-place.place c.loop-place.next
      c.loop-place.visits.items
      c.loop-place.invariant.passed (omega (arith, c.args.visits.now.ok));
  capacity = c.loop-place.invariant.capacity;
}
