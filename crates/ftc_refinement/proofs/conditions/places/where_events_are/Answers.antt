use Rattle.std.proofs.Common.{◌≡◌, ◌<◌, ℕ, Bool, true, false, Some, subst, arith}
use Rattle.ftc_protocol.specs.Setting.{Setting, servers, shape}
use Rattle.ftc_protocol.specs.State.{ChainState, Message, Where, Held}
use Rattle.ftc_protocol.specs.Orderly.{aim, IsOrderly}
use Rattle.ftc_refinement.proofs.LiveNeighbours.{before_is, after_is}
use Rattle.ftc_refinement.proofs.ScriptedCrashes.{are_to_come, crash_up}
use Rattle.ftc_refinement.proofs.conditions.places.where_events_are.Goals as goal

-- the server that holds a message is up
holder_up : (setting : Setting) (state : ChainState) → IsOrderly setting state → (server origin : ℕ)
    (visited by_ring : Bool) (message : Message) → state.message origin ≡ Some message →
    message.place ≡ Held server visited by_ring → state.up server ≡ true
holder_up setting state order server origin visited by_ring message there place =
    subst (λ (p : Where). state.up (aim (servers setting) p) ≡ true) place (order.awake origin message there)

pub returns-clause-take : goal.returns-clause-take
returns-clause-take c setting state link origin run legal =
    let order = c.order_of_a_state.ensures setting state run in (
      order.links origin link legal.0.0 legal.0.1 legal.0.2,
      subst (λ (p : Where). state.up (aim (servers setting) p)
          ≡ true) legal.0.2 (order.awake origin legal.0.0 legal.0.1),
    )

pub returns-clause-apply : goal.returns-clause-apply
returns-clause-apply c setting state server origin group packet run legal =
    let order = c.order_of_a_state.ensures setting state run in
    let held = legal.0.1 in
    let up = holder_up setting state order server origin held.1 held.2 legal.0.0 held.0 held.3 in
    (order.inside server up, up, (order.rides origin group packet legal.0.0 held.0 legal.0.2).0)

pub returns-clause-visit : goal.returns-clause-visit
returns-clause-visit c setting state server packet worker run legal =
    let order = c.order_of_a_state.ensures setting state run in
    let up = holder_up setting state order server packet false legal.0.2 legal.0.0 legal.0.3 legal.0.4 in
    (order.inside server up, up)

pub returns-clause-pass : goal.returns-clause-pass
returns-clause-pass c setting state server origin run legal =
    let order = c.order_of_a_state.ensures setting state run in
    let may = legal.0.1 in
    let up = holder_up setting state order server origin may.visited false legal.0.0 may.there may.held in
    (order.inside server up, up)

pub returns-clause-lose : goal.returns-clause-lose
returns-clause-lose c setting state server origin run legal =
    let order = c.order_of_a_state.ensures setting state run in
    let may = legal.0.1 in
    let up = holder_up setting state order server origin may.visited false legal.0.0 may.there may.held in
    (order.inside server up, up)

pub returns-clause-carry : goal.returns-clause-carry
returns-clause-carry c setting state origin run legal =
    holder_up setting state (c.order_of_a_state.ensures setting state run) 0 origin legal.0.2 true legal.0.0 legal.0.1
    legal.0.3

pub returns-clause-propagate : goal.returns-clause-propagate
returns-clause-propagate c setting state origin run legal =
    let some = run.right.ring.some in
    let first : 0 < servers setting = omega (arith, some) in
    legal.0.1 0 first

pub returns-clause-release : goal.returns-clause-release
returns-clause-release c setting state packet run legal =
    ((c.order_of_a_state.ensures setting state run).buffered packet legal.0.0 legal.0.1.0).0

pub returns-clause-pull : goal.returns-clause-pull
returns-clause-pull c setting state link run legal =
    ((c.order_of_a_state.ensures setting state run).inside link legal.0.0, legal.0.0, legal.0.1)

pub returns-clause-crash : goal.returns-clause-crash
returns-clause-crash c setting state server run legal =
    crash_up setting state (are_to_come setting state run) state.entered server legal.0

pub returns-clause-recover : goal.returns-clause-recover
returns-clause-recover c setting state server undone run legal =
    (c.order_of_a_state.ensures setting state run).recoveries state.entered server legal.0.0

pub returns-clause-previous : goal.returns-clause-previous
returns-clause-previous c setting state server undone run legal =
    let order = c.order_of_a_state.ensures setting state run in
    let down = order.recoveries state.entered server legal.0.0 in
    let found = before_is (servers setting) state.up server
    (c.the_live.ensures.admissible_not_alone (shape setting) state.up server down.0 down.1 order.admissible)
    (c.the_live.ensures.before_none (servers setting) state.up server down.0)
    (λ other. c.the_live.ensures.before_found (servers setting) state.up server other down.0) in
    (found.within, found.other, found.up)

pub returns-clause-following : goal.returns-clause-following
returns-clause-following c setting state server undone run legal =
    let order = c.order_of_a_state.ensures setting state run in
    let down = order.recoveries state.entered server legal.0.0 in
    let found = after_is (servers setting) state.up server
    (c.the_live.ensures.admissible_not_alone (shape setting) state.up server down.0 down.1 order.admissible)
    (c.the_live.ensures.after_none (servers setting) state.up server down.0)
    (λ other. c.the_live.ensures.after_found (servers setting) state.up server other down.0) in
    (found.within, found.other, found.up)
