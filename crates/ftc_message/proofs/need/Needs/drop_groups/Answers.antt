use Rattle.std.proofs.Common.{rules, List, sym, ap, subst, ◌∙◌}
use Rattle.std.specs.Prelude.{not}
use Rattle.std.proofs.lemmas.Fn.{filter_same}
use Rattle.ftc_base.specs.Sets.{has}
use Rattle.ftc_message.specs.declared.need.Need.{Need}
use Rattle.ftc_message.specs.Bounds.{AreNeeds}
use Rattle.ftc_message.specs.Ordered.{needs_without}
use Rattle.ftc_message.proofs.RiseLaws.{are_needs-filter}
use Rattle.ftc_message.proofs.need.Needs.drop_groups.Goals as goal

pub returns : goal.returns
returns c =
    filter_same _ (λ need. not (has c.args.groups need.group)) _
    (λ x b f' k. search rules) _ _ c.retain.ensures.filtered
    ∙ ap (λ (needs : List Need). needs_without c.args.groups needs) c.self.view_is

pub invariant_of-self : goal.invariant_of-self
invariant_of-self c =
    subst AreNeeds (sym (filter_same _ (λ (need : Need). not (has c.args.groups need.group)) _
    (λ x b f' k. search rules) _ _ c.retain.ensures.filtered))
    (are_needs-filter (λ (need : Need). not (has c.args.groups need.group)) c.self.inside.list.items c.self.invariant)
