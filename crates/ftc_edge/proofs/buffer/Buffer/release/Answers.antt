use Rattle.std.proofs.Common.{◌≡◌, ◌≤◌, ◌<◌, ◌∙◌, List, length, sym, ap, rules, Some}
use Rattle.std.specs.List.{position_or_len, remove}
use Rattle.std.specs.Option.{option_map}
use Rattle.ftc_edge.specs.declared.buffer.Withheld.{Withheld}
use Rattle.ftc_edge.specs.Due.{is_due, freed, WithheldPackets, first_due, without_due}
use Rattle.ftc_edge.proofs.Looked.{found_at_place, none_at_end, removed_first}
use Rattle.ftc_edge.proofs.buffer.Buffer.release.Goals as goal

pub returns-in_err-held-clause-freed : goal.returns-in_err-held-clause-freed
returns-in_err-held-clause-freed c =
    let due = is_due c.args.commits.now in
    let items : List Withheld = c.self.inside.held.items in
    let at : c.find_due-place.result ≡ position_or_len due items = c.find_due-place.ensures.place in
    let behind : length items ≤ c.find_due-place.result = search rules in
    let none = none_at_end due items c.find_due-place.result at behind in
    let same = ap (λ (held : WithheldPackets). first_due c.args.commits.now held.items) c.self.view_is in
    c.from_residual.ensures ∙ ap (option_map freed) (sym none ∙ same)

pub returns-clause-freed : goal.returns-clause-freed
returns-clause-freed c =
    let due = is_due c.args.commits.now in
    let items : List Withheld = c.self.inside.held.items in
    let at : c.find_due-place.result ≡ position_or_len due items = c.find_due-place.ensures.place in
    let within : c.find_due-place.result < length items = search rules in
    let found = found_at_place due items c.find_due-place.result c.in_ok-held.held at within (search rules) in
    let same = ap (λ (held : WithheldPackets). first_due c.args.commits.now held.items) c.self.view_is in
    ap (λ (packet : Withheld). Some (freed packet)) c.into_withheld-packet.ensures
    ∙ ap (option_map freed) (sym found ∙ same)

pub returns-clause-others : goal.returns-clause-others
returns-clause-others c =
    let due = is_due c.args.commits.now in
    let items : List Withheld = c.self.inside.held.items in
    let at : c.find_due-place.result ≡ position_or_len due items = c.find_due-place.ensures.place in
    let same = ap (λ (held : WithheldPackets). without_due c.args.commits.now held.items) c.self.view_is in
    let left : c.if-place-self.self.items ≡ remove items c.find_due-place.result = search rules in
    left ∙ removed_first due items c.find_due-place.result at ∙ same
