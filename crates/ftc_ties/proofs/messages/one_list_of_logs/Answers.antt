use Rattle.std.proofs.Common.{None, sym, ◌∙◌}
use Rattle.ftc_ties.proofs.OneList.{one_log, one_list}
use Rattle.ftc_ties.proofs.messages.one_list_of_logs.Goals as goal

pub returns-clause-log : goal.returns-clause-log
returns-clause-log c partitions trace one other is first second group origin =
    one_log c.same_members.ensures partitions trace is one other first second group origin

pub returns-clause-list : goal.returns-clause-list
returns-clause-list c setting state visits ones others reached first second rise also =
    let tied = c.every_state_tied.ensures setting state reached in
    one_list c.same_members.ensures setting.partitions state.trace tied.trace None ones others first.each second.each
    rise
    also (λ g p. first.names g p ∙ sym (second.names g p))
