use Rattle.std.proofs.Common.{◌≡◌, ◌-◌, ◌≤◌, inl, inr, ◌∙◌, ap, subst, arith, drop, take, length}
use Rattle.std.specs.List.{list_any, slice_range}
use Rattle.std.proofs.lemmas.List.{length-drop, take_all}
use Rattle.ftc_machine.specs.Slots.{has_such}
use Rattle.ftc_machine.proofs.SlotSearch.{any_live, nothing_live}
use Rattle.ftc_machine.proofs.state.slots.Slots.live.Goals as goal

pub returns-in-Some : goal.returns-in-Some
returns-in-Some g c test =
    let items = c.self.inside.places.items in
    let first = c.self.inside.first in
    let found = c.in-Some.ensures.lookup.0 in
    let range : c.in-Some.places.now ≡ take (length items - first) (drop first items) =
    subst (λ xs. c.in-Some.places.now ≡ slice_range xs first (length xs)) c.deref.ensures.value found.2 in
    ap (list_any (has_such test))
    (range ∙ take_all (length items - first) (drop first items) (let l = length-drop first items in omega arith))
    ∙ any_live test items first c.self.invariant ∙ ap (list_any (has_such test)) c.self.view_is

pub returns-in-None : goal.returns-in-None
returns-in-None g c test =
    let items = c.self.inside.places.items in
    let past : length items ≤ c.self.inside.first =
    elim c.in-None.ensures.lookup.0 [
      | inl less ↦ let same = ap length c.deref.ensures.value in omega arith
      | inr more ↦ omega arith
    ] in
    nothing_live test items c.self.inside.first c.self.invariant past ∙ ap (list_any (has_such test)) c.self.view_is
