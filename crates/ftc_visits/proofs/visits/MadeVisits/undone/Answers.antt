use Rattle.std.proofs.Common.{◌<◌, ◌∙◌, List, refl, ap, arith, false}
use Rattle.std.proofs.lemmas.Result.{IfOk-weaker}
use Rattle.std.proofs.lemmas.Bool.{le-leb}
use Rattle.ftc_journal.specs.declared.event.VisitName.{VisitName}
use Rattle.ftc_protocol.proofs.Places.{serial_by}
use Rattle.ftc_protocol.specs.Recovery.{previous_live, following_live, undone_visits}
use Rattle.ftc_protocol.specs.Setting.{servers, shape}
use Rattle.ftc_refinement.proofs.LiveNeighbours.{before_is, after_is}
use Rattle.ftc_visits.specs.Undoing.{is_undone_alone, undone_from}
use Rattle.ftc_visits.proofs.Undone.{found_is}
use Rattle.ftc_visits.proofs.visits.MadeVisits.undone.Goals as goal

pub returns : goal.returns
returns c = IfOk-weaker c.undone_between.result _ _
    (λ (names : List VisitName) found setting state server run line previous_is is are.
    let visits = c.args.self.now.items in
    let old = c.args.following.now in
    let order = c.order_of_a_state.ensures setting state run in
    let down = order.recoveries state.entered server line in
    let ring = shape setting in
    let live = c.the_live.ensures in
    let not_alone = live.admissible_not_alone ring state.up server down.0 down.1 order.admissible in
    let previous = before_is (servers setting) state.up server not_alone
    (live.before_none (servers setting) state.up server down.0)
    (λ k. live.before_found (servers setting) state.up server k down.0) in
    let following = after_is (servers setting) state.up server not_alone
    (live.after_none (servers setting) state.up server down.0)
    (λ k. live.after_found (servers setting) state.up server k down.0) in
    let some_server : 0 < servers setting = omega (arith, down.0) in
    found
    ∙ (ap (λ k. undone_from (is_undone_alone k old) (λ packet. false) visits) previous_is
    ∙ found_is setting state server (c.every_state_tied.ensures setting state run).trace
    (serial_by setting state.trace order.history) some_server run.right.some_partition run.right.few_partitions old is
    (λ log held log_of at. c.what_vectors_say.ensures.had setting state
    (following_live setting state server) log held run log_of at)
    c.order_tests.ensures.covers previous.within following.within
    (λ group below between. le-leb _ _ (c.recoveries.ensures.after_is_member ring state.up server
    (previous_live setting state server) (following_live setting state server) group down.0 down.1 previous following
    order.admissible below between))
    visits are
    (λ group packet. c.what_is_undone.ensures.undone setting state server (undone_visits setting state server) run
    (line, refl) group packet)
    (c.what_is_undone.ensures.order setting state server)))
    c.undone_between.ensures
