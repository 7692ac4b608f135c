use Rattle.std.proofs.Common.{◌∙◌, arith, sym}
use Rattle.std.proofs.lemmas.Option.{none-some}
use Rattle.ftc_refinement.proofs.QueuedMessages.{oldest_may, only_oldest, on_link, none_on_link}
use Rattle.ftc_refinement.proofs.first_jobs.what_a_link_offers.Goals as goal

pub returns-clause-oldest : goal.returns-clause-oldest
returns-clause-oldest c setting state link queue sent rest run none is first =
    (oldest_may setting state link queue is sent rest first, λ other. none)

pub returns-clause-only : goal.returns-clause-only
returns-clause-only c setting state link origin queue sent rest run is first legal =
    only_oldest setting state link queue is sent rest origin first legal.0

pub returns-clause-none : goal.returns-clause-none
returns-clause-none c setting state link origin queue run is empty legal =
    let may = legal.0 in
    none-some may.0 (sym (none_on_link setting state link queue is origin empty)
    ∙ on_link setting state link queue is origin may.0 may.1 may.2)

pub returns-clause-outside : goal.returns-clause-outside
returns-clause-outside c setting state link origin run outside legal =
    let may = legal.0 in
    let order = c.order_of_a_state.ensures setting state run in
    let inside = order.links origin link may.0 may.1 may.2 in
    omega (arith, outside, inside)
