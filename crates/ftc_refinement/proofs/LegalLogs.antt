-- A log whose apply may happen is taken by the replicas of the server, and none that is applied next is above it.
use Rattle.std.proofs.Common.{◌≡◌, ◌∙◌, ◌<◌, ◌==◌, ◌&&◌, ◌↔◌, ◌∷◌, arith, ℕ, Bool, true, false, not, List, [], Option}
use Rattle.std.proofs.Common.{Some, None, length, refl, sym, ap, subst}
use Rattle.std.specs.List.{AllByRecursion}
use Rattle.std.proofs.lemmas.Bool.{eqb-true, ne_eqb, true≢false, and_parts}
use Rattle.ftc_base.specs.declared.ask.Write.{Write}
use Rattle.ftc_base.proofs.EachOf.{all_zip}
use Rattle.ftc_journal.specs.declared.event.Event.TheVariants as event
use Rattle.ftc_message.specs.Logged.{Logged, logs_rise}
use Rattle.ftc_replica.specs.Held.{Held as Replicated, pruned_by}
use Rattle.ftc_serial.specs.Take.{Outcome}
use Rattle.ftc_serial.specs.Words.{AnyOf}
use Rattle.ftc_vector.specs.Commits.{vector_of}
use Rattle.ftc_vector.specs.Order.{IsLogReady, is_log_ready}
use Rattle.ftc_txn.proofs.KeptByCalls.{some_of}
use Rattle.ftc_protocol.specs.Setting.{Setting}
use Rattle.ftc_protocol.specs.State.{ChainState, Message, Held}
use Rattle.ftc_protocol.specs.Visits.{In}
use Rattle.ftc_protocol.specs.Changes.{is_changing}
use Rattle.ftc_protocol.specs.Trace.{IsChanging}
use Rattle.ftc_protocol.specs.Known.{ServerHas}
use Rattle.ftc_protocol.specs.Legal.{MayHappen}
use Rattle.ftc_protocol.specs.Orderly.{IsOrderly}
use Rattle.ftc_ties.specs.Numbers.{HasBefore, IsTrace}
use Rattle.ftc_ties.specs.Logs.{IsLogIn}
use Rattle.ftc_ties.specs.Messages.{AreLogsOf, names_log}
use Rattle.ftc_ties.specs.Servers.{IsReplicaAt}
use Rattle.ftc_ties.proofs.Logging.{only_one}
use Rattle.ftc_server.specs.declared.held.HeldMessage.{HeldMessage}
use Rattle.ftc_server.specs.declared.server.Server.{Server}
use Rattle.ftc_server.specs.Holding.{found}
use Rattle.ftc_server.specs.Replicas.{replica_at, has_log, is_had, may_apply_to}
use Rattle.ftc_server.specs.Work.{next_log}
use Rattle.ftc_standing.specs.Stand.{IsReplicaSlot}
use Rattle.ftc_refinement.specs.Contents.{IsServerAt}
use Rattle.ftc_refinement.proofs.NextWork.{IsLowerHad}
use Rattle.ftc_refinement.proofs.LowestLog.{IsTakeable, IsNoLater, found_within, all_at, comes_by}
use Rattle.ftc_refinement.proofs.Readiness.{VectorsSay, replica_for, rides_below, rides_stands, had_alike}
use Rattle.ftc_refinement.proofs.Ring.{each_named}
use Rattle.ftc_refinement.proofs.VisitCalls.{changes_nothing, changes_some}
use Rattle.ftc_refinement.proofs.Works.{held_in}

-- a changing visit may be applied exactly where its log is ready
abbrev pub ReadySays : Setting → ChainState → ℕ → Type 0
ReadySays setting state server = (log : Logged) (held : Replicated) → IsLogIn setting.partitions state.trace log →
    IsReplicaAt setting state server log.group held →
    IsChanging setting.partitions state.trace log.group log.origin →
    IsLogReady held.vector log.before log.changed
    ↔ ((state.lists server log.group log.origin ≡ false)
    × HasBefore setting.partitions state.trace log.group (state.lists server log.group) log.origin)

abbrev pub TestsSay : Type 0
TestsSay = (vector : List ℕ) (before : List (Option ℕ)) (changed : ℕ) →
    (is_log_ready vector before changed ≡ true) ↔ IsLogReady vector before changed

pub some_writes : (writes : List Write) → (writes ≡ [] → ⊥) → not (length writes == 0) ≡ true
some_writes [] some = absurd (some refl)
some_writes (write ∷ writes) some = ap not (ne_eqb (length (write ∷ writes)) 0 (λ same. omega (arith, same)))

-- the replica to which a log may be applied
pub taker : (o : Option Replicated) (log : Logged) → may_apply_to o log ≡ true →
    (held : Replicated) × (o ≡ Some held) × (is_log_ready held.vector log.before log.changed ≡ true)
taker None log is = absurd cc
taker (Some held) log is = (held, refl, is)

-- a visit with writes is a changing one
pub changing_if : (partitions : ℕ) (outcome : Outcome) (writes : List Write) → outcome.writes ≡ writes →
    not (length writes == 0) ≡ true → is_changing partitions outcome ≡ true
changing_if partitions outcome [] same some = absurd cc
changing_if partitions outcome (write ∷ writes) same some = changes_some partitions outcome write writes same

-- the log of that visit, and what comes next is it or a lower one
pub record IsNotPassed (next : Option Logged) (group packet : ℕ) : Type 0 where
  pub log : Logged
  pub group_is : log.group ≡ group
  pub origin_is : log.origin ≡ packet
  pub no_later : IsNoLater log next

module _ (setting : Setting) (state : ChainState) (server origin : ℕ) (visited by_ring : Bool) (message : Message)
    (old : Server) (order : IsOrderly setting state) (is : IsServerAt setting state server old)
    (there : state.message origin ≡ Some message) (place : message.place ≡ Held server visited by_ring)
    (logs : List Logged) (are : AreLogsOf setting state message.logs logs)
    (trace : IsTrace setting.partitions state.trace) (say : VectorsSay setting state server)
    (ready : ReadySays setting state server) (tests : TestsSay) where
  rides_as : (log : Logged) → names_log logs log.group log.origin ≡ true → In message.logs log.group log.origin
  rides_as log named = sym (are.names log.group log.origin) ∙ named

  alike : (log : Logged) → IsLogIn setting.partitions state.trace log → In message.logs log.group log.origin →
      (is_had old.others.items log ≡ true) ↔ ServerHas setting state server log.group log.origin
  alike log of_log rides =
      let same = had_alike setting state server origin visited by_ring message old order is there place say log of_log
      rides in
      let says = say log (replica_for old log.group) of_log
      (rides_stands setting state server origin visited by_ring message old order is there place log.group log.origin
      rides) in
      ((λ had. says.0 (sym same ∙ had)), (λ has. same ∙ says.1 has))

  module _ (log : Logged) (of_log : IsLogIn setting.partitions state.trace log)
      (rides : In message.logs log.group log.origin)
      (changing : IsChanging setting.partitions state.trace log.group log.origin)
      (lacks : state.lists server log.group log.origin ≡ false)
      (before : HasBefore setting.partitions state.trace log.group (state.lists server log.group) log.origin)
      (smaller : (group : ℕ) → group < log.group → In message.logs group log.origin →
      ServerHas setting state server group log.origin) where
    is_lacking : is_had old.others.items log ≡ false
    is_lacking = elim (is_had old.others.items log) as (λ b. is_had old.others.items log ≡ b → b ≡ false) [
      | true ↦ λ had. let has = (alike log of_log rides).0 had in
          absurd (true≢false (sym (has.changing changing) ∙ lacks))
      | false ↦ λ isnt. refl
    ] refl

    -- the visit changes something, so that its log writes something
    has_writes : not (length log.writes == 0) ≡ true
    has_writes =
        let changes = only_one setting.partitions (λ (outcome : Outcome). is_changing setting.partitions outcome ≡ true)
        of_log.outcome state.trace trace log.group log.origin changing of_log.there in
        some_writes log.writes (λ none. true≢false (sym changes
        ∙ changes_nothing setting.partitions of_log.outcome (sym of_log.writes ∙ none)))

    taken_by : (o : Option Replicated) → IsReplicaSlot setting state server old.known log.group o →
        has_log o log ≡ false → may_apply_to o log ≡ true
    taken_by None slot lacking = absurd cc
    taken_by (Some replica) slot lacking =
        (tests replica.vector log.before log.changed).1
        ((ready log (pruned_by (vector_of old.known log.group) replica) of_log slot.2 changing).1 (lacks, before))

    takeable : IsTakeable old.others.items log
    takeable = record {
      lacking = is_lacking;
      allowed = ap (λ b. b && may_apply_to (replica_at old.others.items log.group) log) has_writes
          ∙ taken_by (replica_at old.others.items log.group)
          (is.stands.replicas.others log.group
          (rides_below setting state server origin visited by_ring message old order
          is there place log.group log.origin rides))
          is_lacking;
    }

    lower_logs_had : AllByRecursion (IsLowerHad old.others.items log) logs
    lower_logs_had = all_zip (IsLogIn setting.partitions state.trace)
        (λ (other : Logged). names_log logs other.group other.origin ≡ true) (IsLowerHad old.others.items log)
        (λ other of_other named same less.
        let its = rides_as other named in
        (alike other of_other its).1 (subst (ServerHas setting state server other.group) (sym same)
        (smaller other.group less (subst (In message.logs other.group) same its))))
        logs are.each (each_named logs)

    not_passed : logs_rise None logs ≡ true → AnyOf (λ other. other ≡ log) logs →
        IsNoLater log (next_log old.others.items None logs)
    not_passed rising at = comes_by old.others.items log takeable None None logs rising lower_logs_had
        (λ never. absurd cc) at

  not_passed_over : (group packet : ℕ) → MayHappen setting state (event.Apply server origin group packet) →
      logs_rise None logs ≡ true → IsNotPassed (next_log old.others.items None logs) group packet
  not_passed_over group packet may rising =
      let same = some_of (state.message origin) may.0 message may.1.0 there in
      let riding : In message.logs group packet = subst (λ (m : Message). In m.logs group packet) same may.2 in
      let one = found_within (λ (log : Logged). log.group == group && log.origin == packet) logs
      (are.names group packet ∙ riding) in
      let log = one.0 in
      let names = and_parts (log.group == group) (log.origin == packet) one.1 in
      let group_is = eqb-true log.group group names.0 in
      let origin_is = eqb-true log.origin packet names.1 in
      let of_log = all_at (IsLogIn setting.partitions state.trace) log logs are.each one.2 in
      let For : ℕ → ℕ → Type 0 = λ g o. In message.logs g o × IsChanging setting.partitions state.trace g o
      × (state.lists server g o ≡ false) × HasBefore setting.partitions state.trace g (state.lists server g) o
      × ((smaller : ℕ) → smaller < g → In message.logs smaller o → ServerHas setting state server smaller o) in
      let given : For group packet = (
        riding,
        may.3,
        may.4,
        record { each = may.5 },
        λ smaller less rides. may.6 smaller less (subst (λ (m : Message). In m.logs smaller packet) (sym same) rides),
      ) in
      let its = subst (λ g. For g log.origin) (sym group_is) (subst (For group) (sym origin_is) given) in
      record {
        log = log;
        group_is = group_is;
        origin_is = origin_is;
        no_later = not_passed log of_log its.0 its.1 its.2 its.3 its.4 rising one.2;
      }

-- of a message that a server holds
pub held_not_passed : (setting : Setting) (state : ChainState) (server origin group packet : ℕ) (held : HeldMessage)
    (old : Server) → IsOrderly setting state → IsTrace setting.partitions state.trace →
    VectorsSay setting state server →
    ReadySays setting state server → TestsSay → IsServerAt setting state server old →
    found origin old.held.items ≡ Some held → logs_rise None held.message.logs ≡ true →
    MayHappen setting state (event.Apply server origin group packet) →
    IsNotPassed (next_log old.others.items None held.message.logs) group packet
held_not_passed setting state server origin group packet held old order trace say ready tests is at rising may =
    let in_state = held_in setting state server origin held old.held.items at is.stands.held in
    not_passed_over setting state server origin held.visited held.by_ring in_state.message old order is in_state.there
    in_state.stands.place held.message.logs in_state.stands.as_sent.logs trace say ready tests group packet may rising
