use Rattle.std.proofs.Common.{true}
use Rattle.ftc_chain.proofs.AtRest.{at_rest}
use Rattle.ftc_chain.proofs.SeenJobs.{none_wanted, wanted_found}
use Rattle.ftc_chain.proofs.chain.Chain.free_visit.Goals as goal

pub returns-clause-some : goal.returns-clause-some
returns-clause-some c =
    let given = c.self.inside.given in
    let course = c.self.inside.course in
    wanted_found given course c.args.self.now c.self.view_is c.self.invariant.1 true _ c.free_visit.result
    (λ job wanted resting. wanted _ _ c.len.result
    (at_rest given course _ c.len.ensures.same c.len.ensures.few c.few_propagates.ensures
    (c.accepted.ensures.few given.spec.now _ given.script.now c.ring.ensures.accepted) resting))
    c.free_visit.ensures.some

pub returns-clause-none : goal.returns-clause-none
returns-clause-none c none =
    let given = c.self.inside.given in
    let course = c.self.inside.course in
    none_wanted given course c.args.self.now c.self.view_is c.self.invariant.1 true
    (λ resting. c.free_visit.ensures.none none _ _ c.len.result
    (at_rest given course _ c.len.ensures.same c.len.ensures.few c.few_propagates.ensures
    (c.accepted.ensures.few given.spec.now _ given.script.now c.ring.ensures.accepted) resting))
