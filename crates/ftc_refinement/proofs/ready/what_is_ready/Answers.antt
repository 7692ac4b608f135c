use Rattle.std.proofs.Common.{◌≡◌, ◌∙◌, true, sym, subst}
use Rattle.ftc_base.proofs.EachOf.{all_zip}
use Rattle.ftc_message.specs.Logged.{Logged}
use Rattle.ftc_replica.specs.Kept.{covers_log}
use Rattle.ftc_txn.proofs.KeptByCalls.{some_of}
use Rattle.ftc_ties.specs.Logs.{IsLogIn}
use Rattle.ftc_ties.specs.Messages.{AreLogsOf, names_log}
use Rattle.ftc_server.specs.declared.held.HeldMessage.{HeldMessage}
use Rattle.ftc_server.specs.Holding.{found}
use Rattle.ftc_server.specs.Replicas.{is_had}
use Rattle.ftc_refinement.proofs.Messages.{found_as}
use Rattle.ftc_refinement.proofs.Readiness.{replica_for, rides_stands, had_alike, all_covered, all_had}
use Rattle.ftc_refinement.proofs.Ring.{each_named}
use Rattle.ftc_refinement.proofs.ready.what_is_ready.Goals as goal

pub returns : goal.returns
returns c setting state server origin visited by_ring message held old run is there place at =
    let order = c.order_of_a_state.ensures setting state run in
    let there_as = found_as setting state server origin message visited by_ring old.held.items there place
    is.stands.held in
    let same = some_of (found origin old.held.items) there_as.held held there_as.there at in
    let logs = held.message.logs in
    let are = subst (λ (h : HeldMessage). AreLogsOf setting state message.logs h.message.logs) same
    there_as.stands.as_sent.logs in
    let had = λ (log : Logged) (of_log : IsLogIn setting.partitions state.trace log)
    (named : names_log logs log.group log.origin ≡ true).
    had_alike setting state server origin visited by_ring message old order is there place
    (λ log held of_log. c.what_vectors_say.ensures.had setting state server log held run of_log) log of_log
    (sym (are.names log.group log.origin) ∙ named) in
    let covers = λ (log : Logged). covers_log (replica_for old log.group).vector log in
    let alike = all_zip (IsLogIn setting.partitions state.trace)
    (λ (log : Logged). names_log logs log.group log.origin ≡ true)
    (λ (log : Logged). is_had old.others.items log ≡ covers log) had logs are.each (each_named logs) in
    let ready = c.logs_of_messages.ensures.ready setting state server (replica_for old) message logs run
    (rides_stands setting state server origin visited by_ring message old order is there place) are in (
      (λ all. ready.0 (all_covered (is_had old.others.items) covers logs alike all)),
      (λ message_ready. all_had (is_had old.others.items) covers logs alike (ready.1 message_ready)),
    )
