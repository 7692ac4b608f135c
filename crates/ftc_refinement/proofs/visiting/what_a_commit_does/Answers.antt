use Rattle.std.proofs.Common.{◌≡◌, ◌∙◌, ◌++◌, ◌∷◌, ℕ, true, false, List, [], Option, Some, None, length, refl, sym, ap}
use Rattle.std.proofs.Common.{subst}
use Rattle.std.proofs.Math.Logic.{∥∥₁_map}
use Rattle.std.specs.List.{AllByRecursion}
use Rattle.std.specs.Option.{is_some, option_map}
use Rattle.std.specs.Prelude.{IfSome}
use Rattle.std.proofs.lemmas.Option.{same_Some}
use Rattle.ftc_base.specs.declared.ask.Ask.TheVariants.{Finish}
use Rattle.ftc_base.specs.declared.ask.Write.{Write}
use Rattle.ftc_journal.specs.declared.event.Event.TheVariants as event
use Rattle.ftc_message.specs.Logged.{Logged}
use Rattle.ftc_mbox.specs.Ask.{ask}
use Rattle.ftc_mbox.specs.InTurn.{InTurn}
use Rattle.ftc_protocol.specs.Changes.{is_touching, is_changing}
use Rattle.ftc_protocol.specs.Setting.{servers, shape, rule_at}
use Rattle.ftc_protocol.specs.State.{Where}
use Rattle.ftc_protocol.specs.Trace.{content_of}
use Rattle.ftc_protocol.specs.Orderly.{aim}
use Rattle.ftc_protocol.specs.Next.{next, outcome_at, message_bytes, bytes_in}
use Rattle.ftc_serial.specs.Take.{Outcome, taken}
use Rattle.ftc_serial.specs.Reads.{IsRead}
use Rattle.ftc_ring.specs.Ring.{RingShape}
use Rattle.ftc_replica.specs.Held.{Held as Replicated}
use Rattle.ftc_txn.specs.Logs.{IsLogOf}
use Rattle.ftc_vector.proofs.Partitions.{length-by_partition}
use Rattle.ftc_txn.proofs.KeptByCalls.{some_of}
use Rattle.ftc_ties.specs.Numbers.{count_of}
use Rattle.ftc_ties.specs.Replica.{committed}
use Rattle.ftc_server.specs.declared.held.HeldMessage.{HeldMessage}
use Rattle.ftc_server.specs.Looks.{ask_of_slot, replica_or_own}
use Rattle.ftc_server.specs.Slots.{ask_of_held, AreSlots}
use Rattle.ftc_server.specs.Holding.{found}
use Rattle.ftc_server.specs.Standing.{with_own}
use Rattle.ftc_server.specs.Visited.{visit_of, visited_by}
use Rattle.ftc_standing.specs.Stand.{IsVisited, item_of}
use Rattle.ftc_refinement.specs.Contents.{items_of, item_of_held, contents_of, IsServerAt}
use Rattle.ftc_refinement.proofs.Messages.{found_as, among, items_among}
use Rattle.ftc_refinement.proofs.VisitCalls.{outcome_of, visits_message, changes_nothing, changes_some, touches_some}
use Rattle.ftc_refinement.proofs.VisitCalls.{logs_what_touches, commits, committed_beside, head_stays, known_stays}
use Rattle.ftc_refinement.proofs.VisitCalls.{head_commits, known_with}
use Rattle.ftc_refinement.proofs.Ring.{knows_own}
use Rattle.ftc_refinement.proofs.visiting.what_a_commit_does.Goals as goal

pub returns : goal.returns
returns c setting state server worker running end old new run legal is runs asked done =
    ∥∥₁_map old.slots (λ (slots : AreSlots old.rule old.head old.held.items).
    let packet = running.packet in
    let after = next setting state (event.Visit server packet worker) in
    let order = c.order_of_a_state.ensures setting state run in
    let message = legal.0.0 in
    let there = legal.0.3 in
    let there_as = found_as setting state server packet message false legal.0.2 old.held.items there legal.0.4
    is.stands.held in
    let up = subst (λ (p : Where). state.up (aim (servers setting) p)
    ≡ true) legal.0.4 (order.awake packet message there) in
    let inside = order.inside server up in
    let slot = slots.each worker running runs.slot in
    let at = found packet old.held.items in
    let slot_bytes = same_Some slot.packet done.packet (sym slot.with_packet
    ∙ (ap (λ (h : HeldMessage). h.message.packet)
    (some_of at slot.held done.before slot.there done.there) ∙ done.with_packet)) in
    let turn = subst (λ (bytes : List ℕ). InTurn old.rule bytes running.answers) slot_bytes slot.turn in
    let ask_is = same_Some (ask old.rule done.packet running.answers) (Finish end)
    (sym (ap (ask_of_slot old) runs.slot ∙ (ap (ask_of_held old.rule running) done.there
    ∙ ap (option_map (λ bytes. ask old.rule bytes running.answers)) done.with_packet)) ∙ asked) in
    let bytes_are = ap message_bytes there ∙ ap bytes_in (sym there_as.stands.as_sent.packet
    ∙ (ap (λ (h : HeldMessage). h.message.packet)
    (some_of at there_as.held done.before there_as.there done.there) ∙ done.with_packet)) in
    let content = content_of state.trace (state.lists server server) server in
    let made = outcome_of running end done.packet in
    let outcome = outcome_at setting state server packet in
    let outcome_is : outcome ≡ made = ap (λ r. taken r (message_bytes (state.message packet)) content) (sym is.rule)
    ∙ (ap (λ b. taken old.rule b content) bytes_are
    ∙ (ap (taken old.rule done.packet) (sym is.stands.replicas.own.content)
    ∙ c.what_is_taken_in_turn.ensures old.rule done.packet old.head.content end running.answers turn done.head.current
    ask_is)) in
    let split = among packet old.held.items done.before done.there in
    let items = ap items_of split.parts ∙ items_among split.before split.after done.before in
    let change = visited_by (visit_of old.ring.failures done.log done.packet end.verdict done.before.message) in
    let sent = (change done.before).message in
    let held = items_of split.before ++ item_of true done.before.by_ring sent ∷ items_of split.after in
    let holds = ap items_of (done.held ∙ split.changed change) ∙ items_among split.before split.after
    (change done.before) in
    let visited = subst (λ (o : Outcome). IsVisited setting.failures o done.log done.before.message sent)
    (sym outcome_is)
    (visits_message setting.failures old.ring.failures running end done.packet done.log done.before
    (ap (λ (r : RingShape). r.failures) is.ring)) in
    let beside = committed_beside old new worker running end done in
    let partitions_are = old.head_partitions ∙ is.partitions in
    let of_visit = λ (log : Logged) (is_it : done.log ≡ Some log).
    subst (λ (o : Outcome). IsLogOf server setting.partitions old.head.vector packet o.answers o.writes log)
    (sym outcome_is)
    (subst (λ g. IsLogOf g setting.partitions old.head.vector packet running.answers end.writes.items log)
    (old.head_group ∙ is.number_is)
    (subst (λ p. IsLogOf old.head.group p old.head.vector packet running.answers end.writes.items log) partitions_are
    (subst (λ (o : Option Logged). IfSome o (IsLogOf old.head.group old.head.partitions old.head.vector packet
    running.answers end.writes.items)) is_it done.head.logged))) in
    let touching = logs_what_touches running.answers done.log done.head.no_log ∙ ap is_touching (sym outcome_is) in
    let reads = subst (λ (o : Outcome). AllByRecursion
    (λ (write : Write). IsRead o.answers write.key) o.writes) outcome_is
    (c.what_it_reads.ensures (rule_at setting server) (message_bytes (state.message packet)) content) in
    elim end.writes.items as (λ w. end.writes.items ≡ w → IsServerAt setting after server new) [
      | [] ↦ λ none. commits setting state after server old new (replica_or_own old None) old.known held is beside
          (head_stays old new worker running end done none
          (ap length is.stands.replicas.own.vector
          ∙ length-by_partition (count_of setting.partitions state.trace server (state.lists server server))))
          (known_stays old new worker running end done none) holds
          (c.a_visit_is_made.ensures.unchanging setting state server packet worker (contents_of old)
          (items_of split.before)
          (item_of_held done.before) (items_of split.after) sent done.log run legal up items split.origin_is touching
          of_visit visited
          (ap (is_changing setting.partitions) outcome_is ∙ changes_nothing setting.partitions made none) is.stands)
      | write ∷ writes ↦ λ some.
          let changing = ap (is_changing setting.partitions) outcome_is
          ∙ changes_some setting.partitions made write writes some in
          let answers = touches_some running.answers write.key
          (subst (λ (w : List Write). AllByRecursion
          (λ (write : Write). IsRead running.answers write.key) w) some reads).0 in
          elim done.log as (λ o. done.log ≡ o → IsServerAt setting after server new) [
            | None ↦ λ none. let no_log = logs_what_touches running.answers done.log done.head.no_log in absurd cc
            | Some log ↦ λ logged.
                let old_own = replica_or_own old None in
                let head = committed setting.partitions outcome log old_own in
                let head_is : replica_or_own new None ≡ head =
                head_commits old new worker running end done setting.partitions
                done.packet write writes log partitions_are some logged
                ∙ ap (λ (o : Outcome). committed setting.partitions o log old_own) (sym outcome_is) in
                let touches = sym touching ∙ ap (λ (o : Option Logged). is_some o) logged in
                let knows = known_with old new worker running end done write writes some
                ∙ (ap (λ v. with_own old.ring old.id old.id v old.known) (ap (λ (h : Replicated). h.vector) head_is)
                ∙ (ap (λ r. with_own r old.id old.id head.vector old.known) is.ring
                ∙ (ap (λ n. with_own (shape setting) n n head.vector old.known) is.number_is
                ∙ knows_own c.ends.ensures setting server server head.vector old.known run.right.ring inside inside)))
                in
                let seen = subst (λ (o : Option Logged). IsVisited setting.failures outcome o done.before.message sent)
                logged
                visited in
                commits setting state after server old new head _ held is beside head_is knows holds
                (c.a_visit_is_made.ensures.changing setting state server packet worker (contents_of old)
                (items_of split.before) (item_of_held done.before) (items_of split.after) sent log run legal up items
                split.origin_is touches (of_visit log logged) seen changing is.stands)
          ] refl
    ] refl)
