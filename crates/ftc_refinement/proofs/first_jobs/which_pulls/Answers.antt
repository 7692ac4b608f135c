use Rattle.std.proofs.Common.{arith}
use Rattle.ftc_refinement.proofs.first_jobs.which_pulls.Goals as goal

pub returns-clause-pull : goal.returns-clause-pull
returns-clause-pull c setting state link none = ((λ legal. legal.0), (λ may. (may, λ other. none)))

pub returns-clause-outside : goal.returns-clause-outside
returns-clause-outside c setting state link run outside legal =
    let order = c.order_of_a_state.ensures setting state run in
    let inside = order.inside link legal.0.0 in
    omega (arith, outside, inside)
