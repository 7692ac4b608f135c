use Rattle.std.proofs.Common.{◌≡◌, ◌∷◌, true, sym, subst}
use Rattle.std.proofs.lemmas.List.{append_assoc}
use Rattle.ftc_protocol.specs.Setting.{servers}
use Rattle.ftc_protocol.specs.State.{Where}
use Rattle.ftc_protocol.specs.Orderly.{aim}
use Rattle.ftc_refinement.proofs.HeldInTurn.{found_here, is_held_here, later_here, sooner_before}
use Rattle.ftc_refinement.proofs.Messages.{found_as}
use Rattle.ftc_refinement.proofs.first_jobs.held_in_turn.Goals as goal

pub returns-clause-holder : goal.returns-clause-holder
returns-clause-holder c setting state server origin message run is =
    let order = c.order_of_a_state.ensures setting state run in
    let up = subst (λ (w : Where). state.up (aim (servers setting) w) ≡ true) is.3 (order.awake origin message is.0) in
    (order.inside server up, up)

pub returns-clause-there : goal.returns-clause-there
returns-clause-there c setting state server origin message old at is =
    let it = found_as setting state server origin message is.1 is.2 old.held.items is.0 is.3 at.stands.held in
    (it.held, it.there)

pub returns-clause-place : goal.returns-clause-place
returns-clause-place c setting state server held before after old at parts = (
  found_here setting state server old.held.items at.stands.held before held after parts,
  is_held_here setting state server old.held.items at.stands.held before held after parts,
)

pub returns-clause-order : goal.returns-clause-order
returns-clause-order c setting state server held later message other before between after old at parts first second =
    later_here setting state server old.held.items at.stands.held before held between later after message other parts
    (sym (append_assoc before (held ∷ between) (later ∷ after))) first second

pub returns-clause-sooner : goal.returns-clause-sooner
returns-clause-sooner c setting state server another held message other before after old at parts there is sooner =
    sooner_before setting state server old.held.items at.stands.held before held after parts another message other there
    is sooner
