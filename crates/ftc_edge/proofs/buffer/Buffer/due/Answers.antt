use Rattle.std.proofs.Common.{◌≤◌, ◌<◌, ◌∙◌, List, Some, length, sym, ap, rules}
use Rattle.std.specs.Option.{option_map}
use Rattle.ftc_edge.specs.declared.buffer.Withheld.{Withheld}
use Rattle.ftc_edge.specs.Due.{is_due, WithheldPackets, first_due}
use Rattle.ftc_edge.proofs.Looked.{found_at_place, none_at_end}
use Rattle.ftc_edge.proofs.buffer.Buffer.due.Goals as goal

pub returns-in_err-due : goal.returns-in_err-due
returns-in_err-due c =
    let due = is_due c.args.commits.now in
    let items : List Withheld = c.self.inside.held.items in
    let place = c.place_due-place in
    let behind : length items ≤ place.result = search rules in
    let none = none_at_end due items place.result place.ensures behind in
    let same = ap (λ (held : WithheldPackets). first_due c.args.commits.now held.items) c.self.view_is in
    c.from_residual.ensures ∙ ap (option_map (λ (withheld : Withheld). withheld.packet)) (sym none ∙ same)

pub returns : goal.returns
returns c =
    let due = is_due c.args.commits.now in
    let items : List Withheld = c.self.inside.held.items in
    let place = c.place_due-place in
    let within : place.result < length items = search rules in
    let found = found_at_place due items place.result c.in_ok-due.due.now place.ensures within (search rules) in
    let same = ap (λ (held : WithheldPackets). first_due c.args.commits.now held.items) c.self.view_is in
    ap (λ (withheld : Withheld). Some withheld.packet) c.withheld.ensures
    ∙ ap (option_map (λ (withheld : Withheld). withheld.packet)) (sym found ∙ same)
