use Rattle.std.proofs.Common.{◌∙◌, sym, ap, arith, refl}
use Rattle.std.specs.Prelude.{slice_set}
use Rattle.std.specs.List.{position}
use Rattle.ftc_base.proofs.Firsts.{none_found}
use Rattle.ftc_server.specs.declared.held.HeldMessage.{HeldMessage}
use Rattle.ftc_server.specs.Holding.{Holding, is_of, with_changed, origins_of}
use Rattle.ftc_server.specs.Visited.{visited_by}
use Rattle.ftc_server.proofs.Finding.{none_changed, first_at, changed_first}
use Rattle.ftc_server.proofs.Ticketed.{held_within, origins_changed}
use Rattle.ftc_server.proofs.held.HeldMessages.visit.Goals as goal

pub index_mut-requires : goal.index_mut-requires
index_mut-requires c =
    let within = held_within c.self.inside.list.items c.args.origin c.in-Some.place
    (ap (λ (view : Holding). position (is_of c.args.origin) view.items) c.self.view_is
    ∙ sym c.place_of-place.ensures.place ∙ c.in-Some.is) in
    omega (arith, c.self.inside.list.ok)

pub invariant_of-self : goal.invariant_of-self
invariant_of-self c =
    let items = c.self.inside.list.items in
    let held = c.index_mut.result.now in
    let within = held_within items c.args.origin c.in-Some.place
    (ap (λ (view : Holding). position (is_of c.args.origin) view.items) c.self.view_is
    ∙ sym c.place_of-place.ensures.place ∙ c.in-Some.is) in
    record {
      origins = c.self.invariant.origins
          ∙ sym (ap (λ (h : HeldMessage). origins_of (slice_set items c.in-Some.place h)) c.change.ensures
          ∙ origins_changed items c.in-Some.place held (visited_by c.args.visited held) within
          c.index_mut.ensures.value refl);
      room = c.self.invariant.room;
    }

pub returns-in-Some-clause-items : goal.returns-in-Some-clause-items
returns-in-Some-clause-items c =
    let is = is_of c.args.origin in
    let items = c.self.inside.list.items in
    let change = visited_by c.args.visited in
    let there = ap (λ (view : Holding). position is view.items) c.self.view_is
    ∙ sym c.place_of-place.ensures.place ∙ c.in-Some.is in
    let first = first_at is items c.in-Some.place c.index_mut.result.now there in
    ap (λ (held : HeldMessage). slice_set items c.in-Some.place held)
    (c.change.ensures ∙ ap change c.index_mut.ensures.value)
    ∙ changed_first c.args.origin change items c.in-Some.place c.index_mut.result.now first
    ∙ ap (λ (held : Holding). with_changed c.args.origin change held.items) c.self.view_is

pub returns-in-None-clause-items : goal.returns-in-None-clause-items
returns-in-None-clause-items c =
    let items = c.args.self.now.items in
    let none = none_found (is_of c.args.origin) items (sym c.place_of-place.ensures.place ∙ c.in-None.is) in
    ap (λ (view : Holding). view.items) c.self.view_is
    ∙ sym (none_changed c.args.origin (visited_by c.args.visited) items none)
