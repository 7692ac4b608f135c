use Rattle.std.proofs.Common.{◌≡◌, ◌∙◌, ◌||◌, ◌&&◌, not, Bool, List, true, false, subst, refl, sym, ap}
use Rattle.std.proofs.lemmas.Bool.{true≢false}
use Rattle.ftc_serial.proofs.Functions.{with_at_cases}
use Rattle.ftc_protocol.specs.State.{ChainState}
use Rattle.ftc_protocol.specs.Legal.{is_sent}
use Rattle.ftc_protocol.specs.Next.{is_away}
use Rattle.ftc_standing.specs.View.{leaving}
use Rattle.ftc_standing.specs.Stand.{HeldItem, IsServerOf}
use Rattle.ftc_standing.proofs.Events.{link_gets, link_keeps}
use Rattle.ftc_standing.proofs.Firm.{firm}
use Rattle.ftc_standing.proofs.Lasting.{IsFirmState}
use Rattle.ftc_standing.proofs.LeavingEvents.{may_leave, next_leaving, leaving_beside}
use Rattle.ftc_standing.proofs.WholeServers.{leaving_is}
use Rattle.ftc_standing.proofs.leaving_messages.a_message_is_sent.Goals as goal

no_gap : (gap sent away : Bool) → (sent && not away) ≡ true → (gap || (sent && away)) ≡ gap
no_gap true sent away is = refl
no_gap false true true is = absurd (true≢false (sym is))
no_gap false true false is = refl
no_gap false false away is = refl

pub returns-clause-queued : goal.returns-clause-queued
returns-clause-queued c setting state lost server origin contents before item after queue sent run legal held origin_is
    sends sent_on is link_is =
    let f : IsFirmState setting state =
    (firm c.every_state_tied.ensures c.needs_of_packets.ensures c.withheld_packets.ensures setting state run) in
    let may = may_leave setting state lost server origin legal in
    let now_is = next_leaving setting state lost server origin in
    let held_is = leaving_is setting state f contents.head contents.later contents.known before item after
    contents.withheld contents.forwarded server origin lost (leaving lost server origin) legal now_is
    (leaving_beside setting state lost server origin server) may.0 may.1 origin_is
    (subst (λ (items : List HeldItem). IsServerOf setting state server contents.head contents.later contents.known items
    contents.withheld
    contents.forwarded) held is) in
    link_gets setting state f (leaving lost server origin) legal server origin lost
    (ap (λ (now : ChainState). now.message) now_is) may.0 may.1.visited may.1.there may.1.held sends queue item.message
    sent contents.forwarded contents.known
    (ap (λ (now : ChainState). now.gap server) now_is
    ∙ with_at_cases (λ gap. gap ≡ state.gap server) state.gap server
    (state.gap server || (is_sent setting server && is_away setting state server lost)) server
    (λ _. no_gap (state.gap server) (is_sent setting server) (is_away setting state server lost) sends) (λ ne. refl))
    held_is is.forwarded is.replicas.size is.replicas.known (sent_on.origin_is ∙ origin_is) sent_on.packet_is
    sent_on.logs_are sent_on.needs_are sent_on.commits_are link_is

pub returns-clause-away : goal.returns-clause-away
returns-clause-away c setting state lost server origin queue gap run legal away gap_is link_is =
    let may = may_leave setting state lost server origin legal in
    link_keeps setting state
    (firm c.every_state_tied.ensures c.needs_of_packets.ensures c.withheld_packets.ensures setting state run)
    (leaving lost server origin) legal server origin lost
    (ap (λ (now : ChainState). now.message) (next_leaving setting state lost server origin))
    may.0 may.1.visited may.1.there may.1.held away queue gap gap_is link_is
