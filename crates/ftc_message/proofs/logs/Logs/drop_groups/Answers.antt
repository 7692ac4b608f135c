use Rattle.std.proofs.Common.{rules, List, sym, ap, subst, ◌∙◌}
use Rattle.std.specs.Prelude.{not}
use Rattle.std.proofs.lemmas.Fn.{filter_same}
use Rattle.ftc_base.specs.Sets.{has}
use Rattle.ftc_message.specs.Logged.{Logged}
use Rattle.ftc_message.specs.Bounds.{AreLogs}
use Rattle.ftc_message.specs.Ordered.{logs_without}
use Rattle.ftc_message.proofs.RiseLaws.{are_logs-filter}
use Rattle.ftc_message.proofs.logs.Logs.drop_groups.Goals as goal

pub returns : goal.returns
returns c =
    filter_same _ (λ log. not (has c.args.groups log.group)) _ (λ x b f' k. search rules) _ _ c.retain.ensures.filtered
    ∙ ap (λ (logs : List Logged). logs_without c.args.groups logs) c.self.view_is

pub invariant_of-self : goal.invariant_of-self
invariant_of-self c =
    subst AreLogs (sym (filter_same _ (λ (log : Logged). not (has c.args.groups log.group)) _
    (λ x b f' k. search rules) _ _ c.retain.ensures.filtered))
    (are_logs-filter (λ (log : Logged). not (has c.args.groups log.group)) c.self.inside.list.items c.self.invariant)
