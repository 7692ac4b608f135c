use Rattle.std.proofs.Common.{ℕ, sym, subst, ltb-true, lt-ltb}
use Rattle.std.proofs.Math.Bool.{Bool-set}
use Rattle.std.proofs.Math.Logic.{∥∥₁_elim, ∥∥₁_map}
use Rattle.ftc_chain.specs.ChainRun.{ChainRun, chain_state}
use Rattle.ftc_chain.specs.Course.{state_by}
use Rattle.ftc_chain.specs.Doing.{setting_by}
use Rattle.ftc_chain.specs.Messages.{AreUnderWay, messages_in}
use Rattle.ftc_chain.proofs.AtRest.{at_rest}
use Rattle.ftc_chain.proofs.UnderWay.{under_way, room_for_all}
use Rattle.ftc_chain.proofs.chain.Chain.messages.Goals as goal

pub messages_in-requires : goal.messages_in-requires
messages_in-requires c =
    let given = c.self.inside.given in
    let course = c.self.inside.course in
    let setting = setting_by given in
    let state = state_by setting course.journal.items in
    ltb-true (messages_in course.network) 18446744073709551616 (∥∥₁_elim c.self.invariant.1 (Bool-set _ _) (λ resting.
    let rest = at_rest given course _ c.len.ensures.same c.len.ensures.few c.few_propagates.ensures
    (c.accepted.ensures.few given.spec.now _ given.script.now c.ring.ensures.accepted) resting in
    lt-ltb _ _ (room_for_all setting state course.network (c.order_of_a_state.ensures setting state rest.resting.run)
    rest.resting.stands rest.room)))

pub returns : goal.returns
returns c =
    let given = c.self.inside.given in
    let course = c.self.inside.course in
    let setting = setting_by given in
    let state = state_by setting course.journal.items in
    subst (λ (run : ChainRun). ∥ AreUnderWay (chain_state run) c.messages_in.result ∥₁) c.self.view_is
    (∥∥₁_map c.self.invariant.1 (λ resting.
    let rest = at_rest given course _ c.len.ensures.same c.len.ensures.few c.few_propagates.ensures
    (c.accepted.ensures.few given.spec.now _ given.script.now c.ring.ensures.accepted) resting in
    subst (λ (count : ℕ). AreUnderWay state count) (sym c.messages_in.ensures)
    (under_way setting state (c.order_of_a_state.ensures setting state rest.resting.run) course.network
    rest.resting.stands)))
