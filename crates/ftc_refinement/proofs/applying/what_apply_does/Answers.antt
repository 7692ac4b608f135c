use Rattle.std.proofs.Common.{◌≡◌, ◌∙◌, true, Some, sym, ap, subst, slice_set}
use Rattle.ftc_journal.specs.declared.event.Event.TheVariants as event
use Rattle.ftc_replica.specs.Held.{applied}
use Rattle.ftc_ties.specs.Logs.{IsLogIn}
use Rattle.ftc_protocol.specs.Setting.{servers}
use Rattle.ftc_protocol.specs.State.{Where}
use Rattle.ftc_protocol.specs.Orderly.{aim}
use Rattle.ftc_protocol.specs.Next.{next}
use Rattle.ftc_server.specs.Looks.{log_of}
use Rattle.ftc_message.specs.Ordered.{is_log_of}
use Rattle.ftc_refinement.specs.Contents.{contents_of}
use Rattle.ftc_refinement.proofs.ReplicaCalls.{applies, put_at, known_at}
use Rattle.ftc_refinement.proofs.Messages.{found_as, found_is, log_names}
use Rattle.ftc_refinement.proofs.Ring.{knows_own}
use Rattle.ftc_refinement.proofs.applying.what_apply_does.Goals as goal

pub returns : goal.returns
returns c setting state server origin group packet old new run legal is done =
    let order = c.order_of_a_state.ensures setting state run in
    let message = legal.0.0 in
    let there = legal.0.1.0 in
    let place = legal.0.1.3 in
    let there_as = found_as setting state server origin message legal.0.1.1 legal.0.1.2 old.held.items there place
    is.stands.held in
    let named = sym (ap (log_of group packet) there_as.there) ∙ done.named in
    let log = done.log in
    let of_log = found_is (IsLogIn setting.partitions state.trace)
    (is_log_of packet group) there_as.held.message.logs log
    there_as.stands.as_sent.logs.each named in
    let names = log_names packet group log of_log.1 in
    let below = (order.rides origin group packet message there legal.0.2).0 in
    let up = subst (λ (p : Where). state.up (aim (servers setting) p)
    ≡ true) place (order.awake origin message there) in
    let inside = order.inside server up in
    let later = slice_set old.others.items group (Some (applied log done.replica)) in
    let others = done.others ∙ put_at old.others.items log group done.replica names.1 done.before in
    let knows = known_at setting server group
    (applied log done.replica).vector old.known new.known old.ring old.id is.ring
    is.number_is done.known
    ∙ knows_own c.ends.ensures setting server group
    (applied log done.replica).vector old.known run.right.ring below inside in
    applies setting state (next setting state (event.Apply server origin group packet)) server old new origin group
    packet later _ is done others knows
    (c.a_log_is_applied.ensures setting state server origin group packet log (contents_of old) done.replica run legal up
    below of_log.0 names.1 names.0 done.before is.stands)
