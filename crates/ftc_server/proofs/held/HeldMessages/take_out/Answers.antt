use Rattle.std.proofs.Common.{◌∙◌, ◌&&◌, not, refl, sym, ap, arith, ℕ, List}
use Rattle.std.specs.Prelude.{◌==◌}
use Rattle.std.specs.List.{position, remove}
use Rattle.ftc_base.proofs.Firsts.{none_found}
use Rattle.ftc_server.specs.Holding.{Holding, is_of, found, without, rests, origins_of}
use Rattle.ftc_server.proofs.Ascending.{on_some}
use Rattle.ftc_server.proofs.Finding.{none_out, taken_first, left_first}
use Rattle.ftc_server.proofs.Resting.{none_roused}
use Rattle.ftc_server.proofs.Ticketed.{held_within, origins_left, ticketed_at}
use Rattle.ftc_server.proofs.held.HeldMessages.take_out.Goals as goal

pub returns-in_err-place-clause-taken : goal.returns-in_err-place-clause-taken
returns-in_err-place-clause-taken c =
    c.from_residual.ensures
    ∙ sym (none_found (is_of c.args.origin) c.args.self.now.items (sym c.in_err-place.ensures.place))

pub returns-in_err-place-clause-others : goal.returns-in_err-place-clause-others
returns-in_err-place-clause-others c =
    let items = c.args.self.now.items in
    sym (none_out c.args.origin items (none_found (is_of c.args.origin) items (sym c.in_err-place.ensures.place)))

pub returns-in_err-place-clause-resting : goal.returns-in_err-place-clause-resting
returns-in_err-place-clause-resting c = λ other.
    none_roused c.args.self.now.resting c.args.origin other (c.in_err-place.ensures.none refl)

pub take_out-requires : goal.take_out-requires
take_out-requires c =
    let there = ap (λ (view : Holding). position (is_of c.args.origin) view.items) c.self.view_is
    ∙ sym c.place_of.ensures.place ∙ c.in_ok-place.was in
    (ticketed_at c.self.inside.list.items c.self.inside.tickets.origins c.in_ok-place.place c.args.origin
    c.self.invariant.origins there).0

pub invariant_of-self : goal.invariant_of-self
invariant_of-self c =
    let items = c.self.inside.list.items in
    let there = ap (λ (view : Holding). position (is_of c.args.origin) view.items) c.self.view_is
    ∙ sym c.place_of.ensures.place ∙ c.in_ok-place.was in
    let within = held_within items c.args.origin c.in_ok-place.place there in
    let some = c.remove.ensures.variant.1 (omega (arith, c.self.inside.list.ok, within)) in
    let size = on_some c.remove.result some c.remove.ensures.len in
    record {
      origins = c.take_out.ensures.origins
          ∙ ap (λ (origins : List ℕ). remove origins c.in_ok-place.place) c.self.invariant.origins
          ∙ sym (origins_left items c.in_ok-place.place within)
          ∙ sym (ap origins_of (on_some c.remove.result some c.remove.ensures.items));
      room = omega (arith, size, c.remove.ensures.capacity, c.take_out.ensures.spare, c.self.invariant.room);
    }

pub returns-clause-taken : goal.returns-clause-taken
returns-clause-taken c =
    let items = c.self.inside.list.items in
    let there = ap (λ (view : Holding). position (is_of c.args.origin) view.items) c.self.view_is
    ∙ sym c.place_of.ensures.place ∙ c.in_ok-place.was in
    taken_first (is_of c.args.origin) items c.in_ok-place.place c.remove.result there
    (λ within. c.remove.ensures.variant.1 (omega (arith, c.self.inside.list.ok, within))) c.remove.ensures.value
    ∙ ap (λ (held : Holding). found c.args.origin held.items) c.self.view_is

pub returns-clause-others : goal.returns-clause-others
returns-clause-others c =
    let items = c.self.inside.list.items in
    let there = ap (λ (view : Holding). position (is_of c.args.origin) view.items) c.self.view_is
    ∙ sym c.place_of.ensures.place ∙ c.in_ok-place.was in
    left_first c.args.origin items c.remove.new.self.items c.in_ok-place.place c.remove.result there
    (λ within. c.remove.ensures.variant.1 (omega (arith, c.self.inside.list.ok, within))) c.remove.ensures.items
    ∙ ap (λ (held : Holding). without c.args.origin held.items) c.self.view_is

pub returns-clause-resting : goal.returns-clause-resting
returns-clause-resting c = λ other.
    let there = ap (λ (view : Holding). position (is_of c.args.origin) view.items) c.self.view_is
    ∙ sym c.place_of.ensures.place ∙ c.in_ok-place.was in
    let at = ticketed_at c.self.inside.list.items c.self.inside.tickets.origins c.in_ok-place.place c.args.origin
    c.self.invariant.origins there in
    c.take_out.ensures.resting other
    ∙ ap (λ (origin : ℕ). rests other c.self.inside.tickets.resting && not (other == origin)) at.1
    ∙ ap (λ (held : Holding). rests other held.resting && not (other == c.args.origin)) c.self.view_is
