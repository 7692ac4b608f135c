use Rattle.std.proofs.Common.{◌∙◌, ◌<◌, ◌≤◌, false, length, ap, subst, sym}
use Rattle.std.specs.Prelude.{IfSome}
use Rattle.ftc_base.specs.declared.limits.TheConstants.{MOST_CAPTURED}
use Rattle.ftc_message.specs.declared.message.Message.{Message as SentMessage}
use Rattle.ftc_message.specs.WellFormed.{IsWellFormed}
use Rattle.ftc_server.specs.Looks.{are_apart, are_apart_from, attached_in, onward_in}
use Rattle.ftc_standing.proofs.LeavingEvents.{may_leave}
use Rattle.ftc_refinement.proofs.LogsApart.{forwarder_apart}
use Rattle.ftc_refinement.proofs.Messages.{found_as}
use Rattle.ftc_refinement.proofs.MessagesFormed.{sent_formed}
use Rattle.ftc_refinement.proofs.SentMessages.{attached, sent_is}
use Rattle.ftc_refinement.proofs.conditions.leaving.what_pass_wants.Goals as goal

pub returns-clause-work : goal.returns-clause-work
returns-clause-work c setting state lost server origin old run legal is =
    (c.what_work_says.ensures.send setting state server origin old run is).1
    (may_leave setting state lost server origin legal)

pub returns-clause-apart : goal.returns-clause-apart
returns-clause-apart c setting state lost server origin old run legal is =
    let may = may_leave setting state lost server origin legal in
    let message = may.0 in
    let there = may.1.there in
    let there_as = found_as setting state server origin message may.1.visited false old.held.items there may.1.held
    is.stands.held in
    let held = there_as.held in
    let riding = c.logs_ride_once.ensures setting state run in
    ap (are_apart_from old (attached_in old)) there_as.there
    ∙ (ap (λ logs. are_apart logs (onward_in old held)) (attached setting state server old is)
    ∙ forwarder_apart setting state server origin old riding is message there held there_as.stands.as_sent)

pub returns-clause-formed : goal.returns-clause-formed
returns-clause-formed c setting state lost server origin old message run legal is sends few short =
    let may = may_leave setting state lost server origin legal in
    let there_as = found_as setting state server origin may.0 may.1.visited false old.held.items may.1.there may.1.held
    is.stands.held in
    let held = there_as.held in
    let same = sent_is old origin held message there_as.there sends in
    subst IsWellFormed same
    (sent_formed setting state run (c.every_state_tied.ensures setting state run)
    (c.needs_of_packets.ensures setting state run)
    server origin old is may.0 may.1.there held there_as.stands.as_sent
    (subst (λ (m : SentMessage). length m.logs < 4294967296) (sym same) few)
    (subst (λ (m : SentMessage). IfSome m.packet (λ packet. length packet ≤ MOST_CAPTURED)) (sym same) short))
