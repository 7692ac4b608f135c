use Rattle.std.proofs.Common.{◌≡◌, ◌∙◌, ◌<◌, ◌==◌, ◌&&◌, ◌∷◌, ℕ, true, false, not, List, [], Option, Some, None, length}
use Rattle.std.proofs.Common.{refl, sym, ap, subst}
use Rattle.std.specs.Option.{is_some}
use Rattle.ftc_protocol.specs.State.{Held}
use Rattle.ftc_server.specs.declared.work.Work.TheVariants.{Visit, Send, Carry}
use Rattle.ftc_server.specs.Holding.{found}
use Rattle.ftc_server.specs.Work.{is_waiting, next_log, work_for_found}
use Rattle.ftc_server.proofs.Working.{held_with, last_of, visits, waits}
use Rattle.ftc_refinement.proofs.LegalLogs.{taker, changing_if}
use Rattle.ftc_refinement.proofs.Messages.{found_as}
use Rattle.ftc_refinement.proofs.Works.{last_comes, last_by, is_to_send, is_to_carry, is_done, done_is, held_in}
use Rattle.ftc_refinement.proofs.Works.{same_flags, next_applied}
use Rattle.std.proofs.lemmas.Bool.{eqb-true, and_parts}
use Rattle.ftc_base.specs.declared.ask.Write.{Write}
use Rattle.ftc_base.proofs.EachOf.{all_zip}
use Rattle.ftc_journal.specs.declared.event.Event.TheVariants as event
use Rattle.ftc_message.specs.Logged.{Logged}
use Rattle.ftc_replica.specs.Held.{Held as Replicated, pruned_by}
use Rattle.ftc_vector.specs.Order.{is_log_ready}
use Rattle.ftc_vector.specs.Commits.{vector_of}
use Rattle.ftc_serial.specs.Take.{Outcome}
use Rattle.ftc_protocol.specs.Visits.{In}
use Rattle.ftc_protocol.specs.Known.{ServerHas}
use Rattle.ftc_protocol.specs.Legal.{MayHappen}
use Rattle.ftc_protocol.specs.Changes.{is_changing}
use Rattle.ftc_protocol.proofs.TraceLemmas.{stands_map}
use Rattle.ftc_ties.specs.Logs.{IsLogIn}
use Rattle.ftc_ties.specs.Messages.{names_log}
use Rattle.ftc_server.specs.Replicas.{may_apply_to, replica_at}
use Rattle.ftc_server.proofs.NextLog.{next_is}
use Rattle.ftc_standing.specs.Stand.{IsReplicaSlot}
use Rattle.ftc_refinement.proofs.NextWork.{all_next, lower_had, IsLowerHad, found_with}
use Rattle.ftc_refinement.proofs.Readiness.{replica_for, rides_below, rides_stands, had_alike}
use Rattle.ftc_refinement.proofs.Ring.{each_named}
use Rattle.ftc_refinement.proofs.working.what_work_says.Goals as goal

pub returns-clause-visit : goal.returns-clause-visit
returns-clause-visit c setting state server origin worker old run is = (
  (λ works.
      let with = held_with old.others.items (found origin old.held.items) Visit works in
      let in_state = held_in setting state server origin with.held old.held.items with.there is.stands.held in
      let place = in_state.stands.place in
      let last = last_of old.others.items with.held Visit (λ g p same. absurd cc) with.works in
      let ready = (c.what_is_ready.ensures setting state server origin with.held.visited with.held.by_ring
      in_state.message with.held old run is in_state.there place with.there).0 last.0 in
      let waiting = waits with.held (visits old.others.items with.held with.works) in (
        in_state.message,
        waiting.packet,
        with.held.by_ring,
        in_state.there,
        place ∙ ap (λ b. Held server b with.held.by_ring) waiting.unvisited,
        sym in_state.stands.as_sent.packet ∙ waiting.with_packet,
        ready,
      )),
  (λ may.
      let there_as = found_as setting state server origin may.0 false may.2 old.held.items may.3 may.4 is.stands.held in
      let held = there_as.held in
      let flags = same_flags server held.visited held.by_ring false may.2 (sym there_as.stands.place ∙ may.4) in
      let ready = (c.what_is_ready.ensures setting state server origin false may.2 may.0 held old run is may.3 may.4
      there_as.there).1 may.6 in
      let waiting = ap (λ v. not v && is_some held.message.packet) flags.0
      ∙ ap (λ (p : Option (List ℕ)). is_some p) (there_as.stands.as_sent.packet ∙ may.5) in
      ap (work_for_found old.others.items) there_as.there ∙ (last_comes old.others.items held ready
      ∙ ap (λ b. Some (last_by b held.by_ring)) waiting)),
)

pub returns-clause-send : goal.returns-clause-send
returns-clause-send c setting state server origin old run is = (
  (λ works.
      let with = held_with old.others.items (found origin old.held.items) Send works in
      let in_state = held_in setting state server origin with.held old.held.items with.there is.stands.held in
      let place = in_state.stands.place in
      let last = last_of old.others.items with.held Send (λ g p same. absurd cc) with.works in
      let ready = (c.what_is_ready.ensures setting state server origin with.held.visited with.held.by_ring
      in_state.message with.held old run is in_state.there place with.there).0 last.0 in
      let sends = is_to_send (is_waiting with.held) with.held.by_ring last.1 in (
        in_state.message,
        record {
          there = in_state.there;
          visited = with.held.visited;
          held = place ∙ ap (λ b. Held server with.held.visited b) sends.1;
          ready = ready;
          done = is_done with.held.visited in_state.message.packet
              (ap (λ (p : Option (List ℕ)). not with.held.visited
              && is_some p) (sym in_state.stands.as_sent.packet) ∙ sends.0);
        },
      )),
  (λ may.
      let there_as = found_as setting state server origin may.0 may.1.visited false old.held.items may.1.there
      may.1.held
      is.stands.held in
      let held = there_as.held in
      let flags = same_flags server held.visited held.by_ring may.1.visited false
      (sym there_as.stands.place ∙ may.1.held) in
      let ready = (c.what_is_ready.ensures setting state server origin may.1.visited false may.0 held old run is
      may.1.there
      may.1.held there_as.there).1 may.1.ready in
      let waiting = ap (λ v. not v && is_some held.message.packet) flags.0
      ∙ (ap (λ (p : Option (List ℕ)). not may.1.visited && is_some p) there_as.stands.as_sent.packet
      ∙ done_is may.1.visited may.0.packet may.1.done) in
      ap (work_for_found old.others.items) there_as.there ∙ (last_comes old.others.items held ready
      ∙ (ap (λ b. Some (last_by b held.by_ring)) waiting ∙ ap (λ b. Some (last_by false b)) flags.1))),
)

pub returns-clause-carry : goal.returns-clause-carry
returns-clause-carry c setting state origin old run is works =
    let with = held_with old.others.items (found origin old.held.items) Carry works in
    let in_state = held_in setting state 0 origin with.held old.held.items with.there is.stands.held in
    let place = in_state.stands.place in
    let last = last_of old.others.items with.held Carry (λ g p same. absurd cc) with.works in
    let ready = (c.what_is_ready.ensures setting state 0 origin with.held.visited with.held.by_ring in_state.message
    with.held old run is in_state.there place with.there).0 last.0 in
    let carries = is_to_carry (is_waiting with.held) with.held.by_ring last.1 in
    (in_state.message, in_state.there, with.held.visited, place ∙ ap (λ b. Held 0 with.held.visited b) carries, ready)

pub returns-clause-apply : goal.returns-clause-apply
returns-clause-apply c setting state server origin group packet held old run is at rising works =
    let others = old.others.items in
    let logs = held.message.logs in
    let order = c.order_of_a_state.ensures setting state run in
    let in_state = held_in setting state server origin held old.held.items at is.stands.held in
    let message = in_state.message in
    let are = in_state.stands.as_sent.logs in
    let next = next_applied others held (next_log others None logs) group packet
    (sym (ap (work_for_found others) at) ∙ works) in
    let log = next.0 in
    let of_log = all_next others (IsLogIn setting.partitions state.trace) None logs log are.each next.1 in
    let named = all_next others (λ (l : Logged). names_log logs l.group l.origin ≡ true) None logs log
    (each_named logs) next.1 in
    let rides : In message.logs log.group log.origin = sym (are.names log.group log.origin) ∙ named in
    let tests = next_is others None None logs log rising next.1 in
    let halves = and_parts (not (length log.writes == 0)) (may_apply_to (replica_at others log.group) log)
    tests.allowed in
    let takes = taker (replica_at others log.group) log halves.1 in
    let slot = subst (IsReplicaSlot setting state server old.known log.group) takes.1
    (is.stands.replicas.others log.group
    (rides_below setting state server origin held.visited held.by_ring message old order is
    in_state.there in_state.stands.place log.group log.origin rides)) in
    let changing = stands_map (λ (other : Outcome). other ≡ of_log.outcome)
    (λ (other : Outcome). is_changing setting.partitions other ≡ true)
    (λ other same. changing_if setting.partitions other log.writes
    (ap (λ (o : Outcome). o.writes) same ∙ sym of_log.writes) halves.0)
    state.trace log.group log.origin of_log.there in
    let lacks = (c.what_vectors_say.ensures.ready setting state server log
    (pruned_by (vector_of old.known log.group) takes.0)
    run of_log slot.2 changing).0
    ((c.order_tests.ensures.ready takes.0.vector log.before log.changed).0 takes.2) in
    let say = λ (l : Logged) (h : Replicated) (of_l : IsLogIn setting.partitions state.trace l).
    c.what_vectors_say.ensures.had setting state server l h run of_l in
    let known = all_zip (IsLogIn setting.partitions state.trace) (IsLowerHad others log)
    (λ (l : Logged). IsLogIn setting.partitions state.trace l × IsLowerHad others log l)
    (λ l of_l lower. (of_l, lower)) logs are.each (lower_had others None None logs log rising next.1) in
    let lower = λ (smaller : ℕ) (less : smaller < log.group) (carried : In message.logs smaller log.origin).
    let one = found_with (λ (l : Logged). IsLogIn setting.partitions state.trace l × IsLowerHad others log l)
    (λ (l : Logged). l.group == smaller && l.origin == log.origin) logs known
    (are.names smaller log.origin ∙ carried) in
    let names = and_parts (one.0.group == smaller) (one.0.origin == log.origin) one.1 in
    let group_is = eqb-true one.0.group smaller names.0 in
    let origin_is = eqb-true one.0.origin log.origin names.1 in
    let its : In message.logs one.0.group one.0.origin =
    ap (λ g. message.logs g one.0.origin) group_is ∙ (ap (message.logs smaller) origin_is ∙ carried) in
    let alike = had_alike setting state server origin held.visited held.by_ring message old order is in_state.there
    in_state.stands.place say one.0 one.2.0 its in
    let stands = rides_stands setting state server origin held.visited held.by_ring message old order is in_state.there
    in_state.stands.place one.0.group one.0.origin its in
    let has = (say one.0 (replica_for old one.0.group) one.2.0 stands).0
    (sym alike ∙ one.2.1 origin_is (subst (λ g. g < log.group) (sym group_is) less)) in
    subst (λ g. ServerHas setting state server g log.origin) group_is
    (subst (λ o. ServerHas setting state server one.0.group o) origin_is has) in
    subst (λ p. MayHappen setting state (event.Apply server origin group p)) next.3
    (subst (λ g. MayHappen setting state (event.Apply server origin g log.origin)) next.2 (
      message,
      (in_state.there, held.visited, held.by_ring, in_state.stands.place),
      rides,
      changing,
      lacks.0,
      (λ earlier before. lacks.1.each earlier before),
      lower,
    ))
