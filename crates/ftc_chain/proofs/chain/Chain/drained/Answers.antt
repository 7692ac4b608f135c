use Rattle.std.proofs.Common.{◌≤◌, ◌≡◌, ◌∙◌, length, sym, subst}
use Rattle.ftc_chain.specs.ChainRun.{ChainRun}
use Rattle.ftc_chain.proofs.Drained.{drained_count, few_taken}
use Rattle.ftc_chain.proofs.ReleasedOnce.{fewer_than_packets}
use Rattle.ftc_chain.proofs.chain.Chain.drained.Goals as goal

pub returns-clause-count : goal.returns-clause-count
returns-clause-count c =
    subst (λ (run : ChainRun). c.drained.result ≡ length run.drained) c.self.view_is
    (c.drained.ensures ∙ sym (drained_count c.self.inside.given c.self.inside.course c.self.invariant.1))

pub returns-clause-few : goal.returns-clause-few
returns-clause-few c =
    let given = c.self.inside.given in
    let course = c.self.inside.course in
    subst (λ (run : ChainRun). length run.drained ≤ length run.packets) c.self.view_is
    (few_taken given course c.self.invariant.1 (fewer_than_packets given course c.fates.ensures.says
    c.order_of_a_state.ensures c.runs.ensures.opens c.runs.ensures.next))
