use Rattle.std.proofs.Common.{◌∙◌, true, false, Some, refl, ap, subst, sym, inr}
use Rattle.ftc_protocol.specs.Orderly.{IsPast}
use Rattle.ftc_protocol.specs.Setting.{servers}
use Rattle.ftc_server.specs.Looks.{onward_apart}
use Rattle.ftc_server.specs.Work.{work_for_found}
use Rattle.ftc_refinement.proofs.BarePast.{bare_past}
use Rattle.ftc_refinement.proofs.LogsApart.{onward_apart_from}
use Rattle.ftc_refinement.proofs.Messages.{found_as}
use Rattle.ftc_refinement.proofs.Works.{last_comes, last_by, done_is, same_flags}
use Rattle.ftc_refinement.proofs.conditions.leaving.what_carry_wants.Goals as goal

pub returns-clause-apart : goal.returns-clause-apart
returns-clause-apart c setting state origin old run legal is =
    let there_as = found_as setting state 0 origin legal.0.0 legal.0.2 true old.held.items legal.0.1 legal.0.3
    is.stands.held in
    ap (onward_apart old old.forwarder) there_as.there
    ∙ onward_apart_from setting state 0 origin old (c.logs_ride_once.ensures setting state run) is legal.0.0 legal.0.1
    there_as.held there_as.stands.as_sent

pub returns-clause-work : goal.returns-clause-work
returns-clause-work c setting state origin old run legal is =
    let message = legal.0.0 in
    let place = legal.0.3 in
    let there_as = found_as setting state 0 origin message legal.0.2 true old.held.items legal.0.1 place is.stands.held
    in
    let held = there_as.held in
    let flags = same_flags 0 held.visited held.by_ring legal.0.2 true (sym there_as.stands.place ∙ place) in
    let ready = (c.what_is_ready.ensures setting state 0 origin legal.0.2 true message held old run is legal.0.1 place
    there_as.there).1 legal.0.4 in
    let bare = bare_past setting state run origin message legal.0.1
    (subst (IsPast (servers setting)) (sym place) refl) in
    let waits = done_is held.visited held.message.packet (inr (there_as.stands.as_sent.packet ∙ bare)) in
    ap (work_for_found old.others.items) there_as.there ∙ (last_comes old.others.items held ready
    ∙ (ap (λ b. Some (last_by b held.by_ring)) waits ∙ ap (λ b. Some (last_by false b)) flags.1))
