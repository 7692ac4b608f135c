-- The test of whether a log may be applied says that its apply may happen.
use Rattle.std.proofs.Common.{◌≡◌, ◌∙◌, ◌<◌, ◌==◌, ◌&&◌, ◌||◌, ◌∷◌, ℕ, Bool, true, false, not, List, [], Option, Some}
use Rattle.std.proofs.Common.{None, length, refl, sym, ap, subst, lt-ltb, arith}
use Rattle.std.specs.Prelude.{nat_lt}
use Rattle.std.specs.List.{find}
use Rattle.std.specs.Option.{option_map}
use Rattle.std.proofs.lemmas.Bool.{and_from, and_parts, eqb-true, ne_eqb, true≢false, ltb-true}
use Rattle.std.proofs.lemmas.Bool.Decides.{nat_tests}
use Rattle.ftc_base.specs.declared.ask.Write.{Write}
use Rattle.ftc_base.proofs.EachOf.{all_tests, tests_all, all_zip}
use Rattle.ftc_journal.specs.declared.event.Event.TheVariants as event
use Rattle.ftc_message.specs.Logged.{Logged}
use Rattle.ftc_message.specs.Ordered.{is_log_of}
use Rattle.ftc_replica.specs.Held.{Held as Replicated, pruned_by}
use Rattle.ftc_serial.specs.Take.{Outcome}
use Rattle.ftc_vector.specs.Commits.{vector_of}
use Rattle.ftc_vector.specs.Order.{is_log_ready}
use Rattle.ftc_protocol.specs.Changes.{is_changing}
use Rattle.ftc_protocol.specs.Known.{ServerHas}
use Rattle.ftc_protocol.specs.Legal.{MayHappen}
use Rattle.ftc_protocol.specs.Orderly.{IsOrderly}
use Rattle.ftc_protocol.specs.Setting.{Setting}
use Rattle.ftc_protocol.specs.State.{ChainState}
use Rattle.ftc_protocol.specs.Trace.{IsChanging}
use Rattle.ftc_protocol.specs.Visits.{In}
use Rattle.ftc_protocol.proofs.TraceLemmas.{stands_map}
use Rattle.ftc_ties.specs.Logs.{IsLogIn}
use Rattle.ftc_ties.specs.Messages.{names_log}
use Rattle.ftc_ties.specs.Numbers.{IsTrace}
use Rattle.ftc_ties.proofs.Logging.{only_one}
use Rattle.ftc_server.specs.declared.held.HeldMessage.{HeldMessage}
use Rattle.ftc_server.specs.declared.server.Server.{Server}
use Rattle.ftc_server.specs.Holding.{found}
use Rattle.ftc_server.specs.Looks.{log_of, may_apply_in, may_apply_one}
use Rattle.ftc_server.specs.Replicas.{is_had, may_apply_to, replica_at}
use Rattle.ftc_standing.specs.Stand.{IsReplicaSlot}
use Rattle.ftc_refinement.specs.Contents.{IsServerAt}
use Rattle.ftc_refinement.proofs.LegalLogs.{ReadySays, TestsSay, some_writes, taker, changing_if}
use Rattle.ftc_refinement.proofs.LogsToApply.{named_log}
use Rattle.ftc_refinement.proofs.Messages.{found_as, found_is, log_names}
use Rattle.ftc_refinement.proofs.NextWork.{found_with}
use Rattle.ftc_refinement.proofs.Readiness.{VectorsSay, had_alike, replica_for, rides_below, rides_stands}
use Rattle.ftc_refinement.proofs.Ring.{each_named}
use Rattle.ftc_refinement.proofs.VisitCalls.{changes_nothing}
use Rattle.ftc_refinement.proofs.Works.{held_in}
use Rattle.ftc_jobs.specs.Applies.{had_if_smaller, has_writes, may_apply_now, may_apply_of, smaller_had, writes_some}

-- ---- what the test says of a server

pub record IsApplicable (old : Server) (origin group packet : ℕ) : Type 0 where
  pub held : HeldMessage
  pub there : found origin old.held.items ≡ Some held
  pub log : Logged
  pub log_is : find (is_log_of packet group) held.message.logs ≡ Some log
  pub writes : not (length log.writes == 0) ≡ true
  pub may : may_apply_to (replica_at old.others.items log.group) log ≡ true
  pub smaller : smaller_had old.others.items group packet held.message.logs ≡ true

written : (o : Option Logged) → has_writes o ≡ true → (log : Logged) × (o ≡ Some log)
    × (not (length log.writes == 0) ≡ true)
written None is = absurd cc
written (Some log) is = (log, refl, is)

module _ (old : Server) (origin group packet : ℕ) where
  applicable_of : (o : Option HeldMessage) → found origin old.held.items ≡ o →
      may_apply_of old origin group packet (option_map (λ (held : HeldMessage). held.message) o) ≡ true →
      IsApplicable old origin group packet
  applicable_of None there is = absurd cc
  applicable_of (Some held) there is =
      let halves = and_parts (writes_some group packet held.message)
      (may_apply_in old origin group packet && smaller_had old.others.items group packet held.message.logs) is in
      let rest = and_parts (may_apply_in old origin group packet)
      (smaller_had old.others.items group packet held.message.logs)
      halves.1 in
      let log = written (find (is_log_of packet group) held.message.logs) halves.0 in
      record {
        held = held;
        there = there;
        log = log.0;
        log_is = log.1;
        writes = log.2;
        may = ap (may_apply_one old.others.items) (sym log.1)
            ∙ (ap (λ (o : Option HeldMessage). may_apply_one old.others.items (log_of group packet o))
            (sym there) ∙ rest.0);
        smaller = rest.1;
      }

  pub applicable : may_apply_now old origin group packet ≡ true → IsApplicable old origin group packet
  applicable is = applicable_of (found origin old.held.items) refl is

  pub is_applied : (held : HeldMessage) (log : Logged) → found origin old.held.items ≡ Some held →
      find (is_log_of packet group) held.message.logs ≡ Some log → not (length log.writes == 0) ≡ true →
      may_apply_in old origin group packet ≡ true → smaller_had old.others.items group packet held.message.logs ≡ true →
      may_apply_now old origin group packet ≡ true
  is_applied held log there log_is writes may smaller =
      ap (λ (o : Option HeldMessage). may_apply_of old origin group packet
      (option_map (λ (h : HeldMessage). h.message) o))
      there
      ∙ and_from (writes_some group packet held.message)
      (may_apply_in old origin group packet && smaller_had old.others.items group packet held.message.logs)
      (ap has_writes log_is ∙ writes)
      (and_from (may_apply_in old origin group packet)
      (smaller_had old.others.items group packet held.message.logs) may
      smaller)

-- ---- tests of one log

had_where : (a b had : Bool) → not (a && b) || had ≡ true → a ≡ true → b ≡ true → had ≡ true
had_where true true had is a_is b_is = is
had_where true false had is a_is b_is = absurd cc
had_where false b had is a_is b_is = absurd cc

where_had : (a b had : Bool) → (a ≡ true → b ≡ true → had ≡ true) → not (a && b) || had ≡ true
where_had true true had is = is refl refl
where_had true false had is = refl
where_had false b had is = refl

-- ---- the laws

module _ (setting : Setting) (state : ChainState) (server origin group packet : ℕ) (old : Server)
    (order : IsOrderly setting state) (trace : IsTrace setting.partitions state.trace)
    (is : IsServerAt setting state server old)
    (say : VectorsSay setting state server) (ready : ReadySays setting state server) (tests : TestsSay) where
  pub may_happen : IsApplicable old origin group packet →
      MayHappen setting state (event.Apply server origin group packet)
  may_happen can =
      let others = old.others.items in
      let held = can.held in
      let log = can.log in
      let logs = held.message.logs in
      let in_state = held_in setting state server origin held old.held.items can.there is.stands.held in
      let message = in_state.message in
      let place = in_state.stands.place in
      let are = in_state.stands.as_sent.logs in
      let of_log = found_is (IsLogIn setting.partitions state.trace)
      (is_log_of packet group) logs log are.each can.log_is in
      let names = log_names packet group log of_log.1 in
      let named = found_is (λ (l : Logged). names_log logs l.group l.origin ≡ true) (is_log_of packet group) logs log
      (each_named logs) can.log_is in
      let rides : In message.logs log.group log.origin = sym (are.names log.group log.origin) ∙ named.0 in
      let takes = taker (replica_at others log.group) log can.may in
      let slot = subst (IsReplicaSlot setting state server old.known log.group) takes.1
      (is.stands.replicas.others log.group
      (rides_below setting state server origin held.visited held.by_ring message old
      order is in_state.there place log.group log.origin rides)) in
      let changing = stands_map (λ (other : Outcome). other ≡ of_log.0.outcome)
      (λ (other : Outcome). is_changing setting.partitions other ≡ true)
      (λ other same. changing_if setting.partitions other log.writes
      (ap (λ (o : Outcome). o.writes) same ∙ sym of_log.0.writes) can.writes)
      state.trace log.group log.origin of_log.0.there in
      let lacks = (ready log (pruned_by (vector_of old.known log.group) takes.0) of_log.0 slot.2 changing).0
      ((tests takes.0.vector log.before log.changed).0 takes.2) in
      let known = all_zip (IsLogIn setting.partitions state.trace)
      (λ (l : Logged). had_if_smaller others group packet l ≡ true)
      (λ (l : Logged). IsLogIn setting.partitions state.trace l × (had_if_smaller others group packet l ≡ true))
      (λ l of_l had. (of_l, had)) logs are.each (tests_all (had_if_smaller others group packet) logs can.smaller) in
      let lower = λ (smaller : ℕ) (less : smaller < group) (carried : In message.logs smaller packet).
      let one = found_with
      (λ (l : Logged). IsLogIn setting.partitions state.trace l × (had_if_smaller others group packet l ≡ true))
      (λ (l : Logged). l.group == smaller && l.origin == packet) logs known (are.names smaller packet ∙ carried) in
      let its_names = and_parts (one.0.group == smaller) (one.0.origin == packet) one.1 in
      let group_is = eqb-true one.0.group smaller its_names.0 in
      let origin_is = eqb-true one.0.origin packet its_names.1 in
      let its : In message.logs one.0.group one.0.origin =
      ap (λ g. message.logs g one.0.origin) group_is ∙ (ap (message.logs smaller) origin_is ∙ carried) in
      let alike = had_alike setting state server origin held.visited held.by_ring message old order is in_state.there
      place
      say one.0 one.2.0 its in
      let stands = rides_stands setting state server origin held.visited held.by_ring message old order is
      in_state.there
      place one.0.group one.0.origin its in
      let had = had_where (one.0.origin == packet) (nat_lt one.0.group group) (is_had others one.0) one.2.1 its_names.1
      (lt-ltb one.0.group group (subst (λ g. g < group) (sym group_is) less)) in
      let has = (say one.0 (replica_for old one.0.group) one.2.0 stands).0 (sym alike ∙ had) in
      subst (λ g. ServerHas setting state server g packet) group_is
      (subst (λ o. ServerHas setting state server one.0.group o) origin_is has) in
      subst (λ p. (message.logs group p ≡ true → ((smaller : ℕ) → smaller < group → In message.logs smaller p →
      ServerHas setting state server smaller p) → MayHappen setting state (event.Apply server origin group p))) names.0
      (subst (λ g. (message.logs g log.origin ≡ true →
      ((smaller : ℕ) → smaller < g → In message.logs smaller log.origin →
      ServerHas setting state server smaller log.origin) →
      MayHappen setting state (event.Apply server origin g log.origin)))
      names.1
      (λ rides lower. (
        message,
        (in_state.there, held.visited, held.by_ring, place),
        rides,
        changing,
        lacks.0,
        (λ earlier before. lacks.1.each earlier before),
        lower,
      )))
      (subst (λ g. In message.logs g packet) names.1 (subst (λ p. In message.logs log.group p) names.0 rides)) lower

  pub test_of_legal : MayHappen setting state (event.Apply server origin group packet) →
      may_apply_in old origin group packet ≡ true → may_apply_now old origin group packet ≡ true
  test_of_legal legal may =
      let others = old.others.items in
      let message = legal.0 in
      let at = legal.1 in
      let there_as = found_as setting state server origin message at.1 at.2 old.held.items at.0 at.3 is.stands.held in
      let held = there_as.held in
      let logs = held.message.logs in
      let are = there_as.stands.as_sent.logs in
      let named = named_log group packet logs (are.names group packet ∙ legal.2) in
      let log = named.0 in
      let of_log = found_is (IsLogIn setting.partitions state.trace)
      (is_log_of packet group) logs log are.each named.1 in
      let names = log_names packet group log of_log.1 in
      let changing : IsChanging setting.partitions state.trace log.group log.origin =
      subst (λ g. IsChanging setting.partitions state.trace g log.origin) (sym names.1)
      (subst (λ p. IsChanging setting.partitions state.trace group p) (sym names.0) legal.3) in
      let changes = only_one setting.partitions (λ (outcome : Outcome). is_changing setting.partitions outcome ≡ true)
      of_log.0.outcome state.trace trace log.group log.origin changing of_log.0.there in
      let writes = some_writes log.writes (λ none. true≢false (sym changes
      ∙ changes_nothing setting.partitions of_log.0.outcome (sym of_log.0.writes ∙ none))) in
      let had = all_zip (IsLogIn setting.partitions state.trace)
      (λ (l : Logged). names_log logs l.group l.origin ≡ true)
      (λ (l : Logged). had_if_smaller others group packet l ≡ true)
      (λ l of_l its_name. where_had (l.origin == packet) (nat_lt l.group group) (is_had others l)
      (λ origin_test less_test.
      let origin_is = eqb-true l.origin packet origin_test in
      let its : In message.logs l.group l.origin = sym (are.names l.group l.origin) ∙ its_name in
      let has = subst (ServerHas setting state server l.group) (sym origin_is)
      (legal.6 l.group (ltb-true l.group group less_test) (subst (In message.logs l.group) origin_is its)) in
      let alike = had_alike setting state server origin at.1 at.2 message old order is at.0 at.3 say l of_l its in
      let stands = rides_stands setting state server origin at.1 at.2 message old order is at.0 at.3 l.group l.origin
      its in
      alike ∙ (say l (replica_for old l.group) of_l stands).1 has))
      logs are.each (each_named logs) in
      is_applied old origin group packet held log there_as.there named.1 writes may
      (all_tests (had_if_smaller others group packet) logs had)
