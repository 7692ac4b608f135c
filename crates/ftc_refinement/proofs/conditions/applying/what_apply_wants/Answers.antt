use Rattle.std.proofs.Common.{◌≡◌, ◌∙◌, ℕ, true, false, subst, sym}
use Rattle.ftc_message.specs.Ordered.{is_log_of}
use Rattle.ftc_protocol.specs.Setting.{servers}
use Rattle.ftc_protocol.specs.State.{Where}
use Rattle.ftc_protocol.specs.Trace.{IsBefore, IsChanging}
use Rattle.ftc_protocol.specs.Visits.{In}
use Rattle.ftc_protocol.specs.Orderly.{aim}
use Rattle.ftc_server.specs.Holding.{found}
use Rattle.ftc_server.specs.Replicas.{replica_at}
use Rattle.ftc_ties.specs.Logs.{IsLogIn}
use Rattle.ftc_replica.specs.Held.{pruned_by}
use Rattle.ftc_vector.specs.Commits.{vector_of}
use Rattle.ftc_refinement.proofs.LogsToApply.{named_log, later_replica, may_apply_by}
use Rattle.ftc_refinement.proofs.Messages.{found_as, found_is, log_names}
use Rattle.ftc_refinement.proofs.Readiness.{rides_member}
use Rattle.ftc_refinement.proofs.RisingNumbers.{slot_may_rise}
use Rattle.ftc_refinement.proofs.conditions.applying.what_apply_wants.Goals as goal

pub returns-clause-ready : goal.returns-clause-ready
returns-clause-ready c setting state server origin group packet old run legal is =
    let others = old.others.items in
    let order = c.order_of_a_state.ensures setting state run in
    let message = legal.0.0 in
    let held_there = legal.0.1 in
    let there_as = found_as setting state server origin message held_there.1 held_there.2 old.held.items held_there.0
    held_there.3 is.stands.held in
    let logs = there_as.held.message.logs in
    let named = named_log group packet logs (there_as.stands.as_sent.logs.names group packet ∙ legal.0.2) in
    let log = named.0 in
    let of_log = found_is (IsLogIn setting.partitions state.trace) (is_log_of packet group) logs log
    there_as.stands.as_sent.logs.each named.1 in
    let names = log_names packet group log of_log.1 in
    let Allowed : ℕ → ℕ → Type 0 = λ g p. In message.logs g p × IsChanging setting.partitions state.trace g p
    × (state.lists server g p ≡ false)
    × ((earlier : ℕ) → IsBefore setting.partitions state.trace g earlier p → In (state.lists server) g earlier) in
    let may = subst (λ g. Allowed g log.origin) (sym names.1)
    (subst (λ p. Allowed group p) (sym names.0) (legal.0.2, legal.0.3, legal.0.4, legal.0.5)) in
    let up = subst (λ (p : Where). state.up (aim (servers setting) p) ≡ true) held_there.3
    (order.awake origin message held_there.0) in
    let below = (order.rides origin log.group log.origin message held_there.0 may.0).0 in
    let member = rides_member setting state server origin held_there.1 held_there.2 message old order is held_there.0
    held_there.3 log.group log.origin may.0 in
    let replica = later_replica setting state server log.group old.known (replica_at others log.group)
    (is.stands.replicas.others log.group below) member (λ own.
    let has : state.lists server log.group log.origin ≡ true =
    subst (λ s. state.lists s log.group log.origin ≡ true) own
    (order.heads log.group log.origin (subst (λ s. state.up s ≡ true) (sym own) up) may.1) in
    absurd cc) in
    let ready = (c.what_vectors_say.ensures.ready setting state server log
    (pruned_by (vector_of old.known log.group) replica.0)
    run of_log.0 replica.2 may.1).1 (may.2, record { each = may.3 }) in
    may_apply_by others (found origin old.held.items) there_as.held group packet log replica.0 there_as.there named.1
    replica.1
    ((c.order_tests.ensures.ready replica.0.vector log.before log.changed).1 ready)

pub returns-clause-rise : goal.returns-clause-rise
returns-clause-rise c setting state server origin group packet old run legal is fewer =
    let order = c.order_of_a_state.ensures setting state run in
    let below = (order.rides origin group packet legal.0.0 legal.0.1.0 legal.0.2).0 in
    slot_may_rise c.rising.ensures c.numbers_order.ensures.few c.trace_short.ensures c.losses.ensures.counted setting
    state run
    fewer server group old.known (replica_at old.others.items group) (is.stands.replicas.others group below)
