use Rattle.std.proofs.Common.{◌∙◌, ◌&&◌, Bool, sym, ap}
use Rattle.std.proofs.lemmas.Bool.{and_right}
use Rattle.std.specs.List.{list_all, list_any}
use Rattle.ftc_server.specs.Waiting.{is_ahead, is_had_or_ahead, is_idle}
use Rattle.ftc_server.proofs.HadBefore.{rest_idle}
use Rattle.ftc_server.proofs.Resting.{and_true}
use Rattle.ftc_server.proofs.waiting.is_idle.Goals as goal

pub returns-then-are_had_or_ahead : goal.returns-then-are_had_or_ahead
returns-then-are_had_or_ahead c =
    let replicas = c.args.replicas.now in
    let some = list_any (is_ahead replicas) c.logs_behind-logs.result.now in
    c.is_some_ahead.ensures ∙ and_true some
    ∙ (ap (λ (b : Bool). some && b) (sym c.if-are_had_or_ahead.true ∙ c.are_had_or_ahead.ensures)
    ∙ (ap (is_idle replicas) c.logs_behind-logs.ensures
    ∙ rest_idle replicas c.args.had c.args.held.now.message.logs c.requires))

pub returns-else-are_had_or_ahead : goal.returns-else-are_had_or_ahead
returns-else-are_had_or_ahead c =
    let replicas = c.args.replicas.now in
    let logs = c.logs_behind-logs.result.now in
    c.if-are_had_or_ahead.false
    ∙ sym (and_right (list_any (is_ahead replicas) logs) (list_all (is_had_or_ahead replicas) logs)
    (sym c.are_had_or_ahead.ensures ∙ c.if-are_had_or_ahead.false))
    ∙ (ap (is_idle replicas) c.logs_behind-logs.ensures
    ∙ rest_idle replicas c.args.had c.args.held.now.message.logs c.requires)
