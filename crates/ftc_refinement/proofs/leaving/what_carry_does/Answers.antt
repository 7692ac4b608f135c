use Rattle.std.proofs.Common.{◌≡◌, ◌∙◌, ◌++◌, true, ap, subst}
use Rattle.ftc_journal.specs.declared.event.Event.TheVariants as event
use Rattle.ftc_message.specs.Ordered.{with_items, is_earlier}
use Rattle.ftc_protocol.specs.Setting.{servers, shape}
use Rattle.ftc_protocol.specs.State.{Where}
use Rattle.ftc_protocol.specs.Orderly.{aim}
use Rattle.ftc_protocol.specs.Next.{next}
use Rattle.ftc_ring.specs.Ring.{RingShape}
use Rattle.ftc_txn.proofs.KeptByCalls.{some_of}
use Rattle.ftc_ties.specs.Messages.{onward}
use Rattle.ftc_server.specs.declared.held.HeldMessage.{HeldMessage}
use Rattle.ftc_server.specs.Holding.{found}
use Rattle.ftc_server.specs.Standing.{going_on}
use Rattle.ftc_server.specs.State.{ServerState}
use Rattle.ftc_refinement.specs.Contents.{items_of, item_of_held, contents_of}
use Rattle.ftc_refinement.proofs.MessageCalls.{leaves, same_replicas}
use Rattle.ftc_refinement.proofs.Messages.{found_as, among, items_among, items_apart}
use Rattle.ftc_refinement.proofs.Ring.{goes_on, groups_exist}
use Rattle.ftc_refinement.proofs.leaving.what_carry_does.Goals as goal

pub returns : goal.returns
returns c setting state origin old new run legal is done =
    let order = c.order_of_a_state.ensures setting state run in
    let message = legal.0.0 in
    let there = legal.0.1 in
    let place = legal.0.3 in
    let there_as = found_as setting state 0 origin message legal.0.2 true old.held.items there place is.stands.held in
    let held = there_as.held in
    let split = among origin old.held.items held there_as.there in
    let items = ap items_of split.parts ∙ items_among split.before split.after held in
    let holds = ap items_of (done.held ∙ split.others) ∙ items_apart split.before split.after in
    let same = same_replicas old new new.held old.buffer new.forwarder done.rest in
    let inside = order.inside 0
    (subst (λ (p : Where). state.up (aim (servers setting) p) ≡ true) place (order.awake origin message there)) in
    let logs = held.message.logs in
    let going = goes_on c.ends.ensures setting 0 logs run.right.ring inside
    (groups_exist setting state message.logs logs there_as.stands.as_sent.logs
    (λ group packet rides. (order.rides origin group packet message there rides).0)) in
    let carried = some_of (found origin old.held.items) done.carried held done.there there_as.there in
    leaves setting state (next setting state (event.Carry origin)) 0 old new
    (items_of split.before ++ items_of split.after) old.buffer.items
    (with_items is_earlier (onward setting 0 logs) old.forwarder) is same holds
    (ap (λ (s : ServerState). s.buffer.items) done.rest)
    (done.forwarder
    ∙ (ap (λ (h : HeldMessage). with_items is_earlier (going_on old.ring old.id h.message.logs) old.forwarder) carried
    ∙ (ap (λ (r : RingShape). with_items is_earlier (going_on r old.id logs) old.forwarder) is.ring
    ∙ (ap (λ n. with_items is_earlier (going_on (shape setting) n logs) old.forwarder) is.number_is
    ∙ ap (λ x. with_items is_earlier x old.forwarder) going))))
    (c.a_message_is_carried.ensures setting state origin (contents_of old) (items_of split.before) (item_of_held held)
    (items_of split.after) run legal items split.origin_is is.stands)
