use Rattle.std.proofs.Common.{◌≡◌, ◌∙◌, true, false, ap, subst}
use Rattle.ftc_protocol.specs.Setting.{servers}
use Rattle.ftc_protocol.specs.State.{Where}
use Rattle.ftc_protocol.specs.Orderly.{aim}
use Rattle.ftc_standing.specs.Stand.{IsSentOn}
use Rattle.ftc_standing.proofs.LeavingEvents.{may_leave}
use Rattle.ftc_refinement.specs.Contents.{items_of, item_of_held, contents_of}
use Rattle.ftc_refinement.proofs.Messages.{found_as, among, items_among}
use Rattle.ftc_refinement.proofs.Ring.{goes_on, groups_exist}
use Rattle.ftc_refinement.proofs.SentMessages.{sent_is, sent_on, nothing_sent}
use Rattle.ftc_refinement.proofs.leaving.what_is_sent.Goals as goal

pub returns-clause-queued : goal.returns-clause-queued
returns-clause-queued c setting state lost server origin old queue message run legal goes is sends linked =
    let order = c.order_of_a_state.ensures setting state run in
    let may = may_leave setting state lost server origin legal in
    let there_as = found_as setting state server origin may.0 may.1.visited false old.held.items may.1.there may.1.held
    is.stands.held in
    let held = there_as.held in
    let split = among origin old.held.items held there_as.there in
    let inside = order.inside server
    (subst (λ (p : Where). state.up (aim (servers setting) p)
    ≡ true) may.1.held (order.awake origin may.0 may.1.there)) in
    let going = goes_on c.ends.ensures setting server held.message.logs run.right.ring inside
    (groups_exist setting state may.0.logs held.message.logs there_as.stands.as_sent.logs
    (λ group packet rides. (order.rides origin group packet may.0 may.1.there rides).0)) in
    c.a_message_is_sent.ensures.queued setting state lost server origin (contents_of old) (items_of split.before)
    (item_of_held held) (items_of split.after) queue message run legal
    (ap items_of split.parts ∙ items_among split.before split.after held) split.origin_is goes
    (subst (IsSentOn setting server old.forwarder old.known held.message)
    (sent_is old origin held message there_as.there sends) (sent_on setting state server old held is going))
    is.stands linked

pub returns-clause-nothing : goal.returns-clause-nothing
returns-clause-nothing c setting state lost server origin old run legal is none =
    let may = may_leave setting state lost server origin legal in
    let there_as = found_as setting state server origin may.0 may.1.visited false old.held.items may.1.there may.1.held
    is.stands.held in
    nothing_sent setting state server origin old there_as.held is there_as.there none
