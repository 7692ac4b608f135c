use Rattle.std.proofs.Common.{◌∙◌, sym, ap, Some}
use Rattle.std.specs.Option.{option_copied}
use Rattle.std.specs.List.{position}
use Rattle.ftc_base.proofs.Firsts.{none_found}
use Rattle.ftc_server.specs.declared.held.HeldMessage.{HeldMessage}
use Rattle.ftc_server.specs.Holding.{Holding, is_of, found}
use Rattle.ftc_server.proofs.Finding.{first_at, found_first}
use Rattle.ftc_server.proofs.held.HeldMessages.get.Goals as goal

pub returns-in_err-place : goal.returns-in_err-place
returns-in_err-place c =
    ap option_copied c.from_residual.ensures
    ∙ sym (none_found (is_of c.args.origin) c.args.self.now.items (sym c.in_err-place.ensures.place))

pub returns : goal.returns
returns c =
    let items = c.self.inside.list.items in
    let held = c.index.result.now in
    let there = ap (λ (view : Holding). position (is_of c.args.origin) view.items) c.self.view_is
    ∙ sym c.place_of.ensures.place ∙ c.in_ok-place.was in
    ap (λ (h : HeldMessage). Some h) c.index.ensures
    ∙ sym (found_first (is_of c.args.origin) items c.in_ok-place.place held
    (first_at (is_of c.args.origin) items c.in_ok-place.place held there))
    ∙ ap (λ (view : Holding). found c.args.origin view.items) c.self.view_is
