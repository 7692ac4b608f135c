use Rattle.std.proofs.Common.{◌≡◌, ◌∙◌, ◌++◌, ◌∷◌, ℕ, true, false, List, [], Some, None, inr, sym, ap, subst}
use Rattle.std.proofs.Math.Logic.{∥∥₁_map}
use Rattle.std.specs.List.{AllByRecursion}
use Rattle.std.specs.Option.{option_map}
use Rattle.std.specs.Prelude.{IfSome}
use Rattle.std.proofs.lemmas.Option.{same_Some}
use Rattle.ftc_base.specs.declared.ask.Ask.TheVariants.{Finish}
use Rattle.ftc_base.specs.declared.ask.Write.{Write}
use Rattle.ftc_base.proofs.EachOf.{all_push}
use Rattle.ftc_journal.specs.declared.event.Event.TheVariants as event
use Rattle.ftc_journal.specs.declared.event.VisitName.{VisitName}
use Rattle.ftc_mbox.specs.Ask.{ask}
use Rattle.ftc_mbox.specs.InTurn.{InTurn}
use Rattle.ftc_protocol.specs.Setting.{servers, rule_at}
use Rattle.ftc_protocol.specs.State.{Where}
use Rattle.ftc_protocol.specs.Trace.{content_of}
use Rattle.ftc_protocol.specs.Orderly.{aim}
use Rattle.ftc_protocol.specs.Recovery.{visits_in}
use Rattle.ftc_protocol.specs.Next.{next, outcome_at, message_bytes, bytes_in}
use Rattle.ftc_serial.specs.Take.{Outcome, taken}
use Rattle.ftc_serial.specs.Reads.{IsRead}
use Rattle.ftc_txn.specs.Logs.{IsLogOf}
use Rattle.ftc_txn.specs.Touched.{vector_after}
use Rattle.ftc_vector.specs.Commits.{vector_of}
use Rattle.ftc_replica.specs.Held.{pruned_by}
use Rattle.ftc_txn.proofs.KeptByCalls.{some_of}
use Rattle.ftc_server.specs.declared.held.HeldMessage.{HeldMessage}
use Rattle.ftc_server.specs.Looks.{ask_of_slot, replica_or_own}
use Rattle.ftc_server.specs.Slots.{ask_of_held, AreSlots}
use Rattle.ftc_server.specs.Holding.{found}
use Rattle.ftc_refinement.proofs.Messages.{found_as}
use Rattle.ftc_refinement.proofs.VisitCalls.{outcome_of}
use Rattle.ftc_visits.specs.Made.{name_of, IsMadeIn}
use Rattle.ftc_visits.proofs.Adding.{made_with, log_made, named}
use Rattle.ftc_visits.proofs.Dropping.{all_last}
use Rattle.ftc_visits.proofs.Lists.{map_end}
use Rattle.ftc_visits.proofs.laws.a_made_visit_is_added.Goals as goal

pub returns : goal.returns
returns c setting state server worker running end old new visits made run legal is runs asked done by are =
    ∥∥₁_map old.slots (λ (slots : AreSlots old.rule old.head old.held.items).
    let packet = running.packet in
    let after = next setting state (event.Visit server packet worker) in
    let order = c.order_of_a_state.ensures setting state run in
    let message = legal.0.0 in
    let there = legal.0.3 in
    let there_as = found_as setting state server packet message false legal.0.2 old.held.items there legal.0.4
    is.stands.held in
    let up = subst (λ (p : Where). state.up (aim (servers setting) p) ≡ true) legal.0.4
    (order.awake packet message there) in
    let slot = slots.each worker running runs.slot in
    let at = found packet old.held.items in
    let slot_bytes = same_Some slot.packet done.packet (sym slot.with_packet
    ∙ (ap (λ (h : HeldMessage). h.message.packet) (some_of at slot.held done.before slot.there done.there)
    ∙ done.with_packet)) in
    let turn = subst (λ (bytes : List ℕ). InTurn old.rule bytes running.answers) slot_bytes slot.turn in
    let ask_is = same_Some (ask old.rule done.packet running.answers) (Finish end)
    (sym (ap (ask_of_slot old) runs.slot ∙ (ap (ask_of_held old.rule running) done.there
    ∙ ap (option_map (λ bytes. ask old.rule bytes running.answers)) done.with_packet)) ∙ asked) in
    let bytes_are = ap message_bytes there ∙ ap bytes_in (sym there_as.stands.as_sent.packet
    ∙ (ap (λ (h : HeldMessage). h.message.packet) (some_of at there_as.held done.before there_as.there done.there)
    ∙ done.with_packet)) in
    let content = content_of state.trace (state.lists server server) server in
    let outcome = outcome_at setting state server packet in
    let outcome_is : outcome ≡ outcome_of running end done.packet =
    ap (λ r. taken r (message_bytes (state.message packet)) content) (sym is.rule)
    ∙ (ap (λ b. taken old.rule b content) bytes_are
    ∙ (ap (taken old.rule done.packet) (sym is.stands.replicas.own.content)
    ∙ c.what_is_taken_in_turn.ensures old.rule done.packet old.head.content end running.answers turn done.head.current
    ask_is)) in
    let partitions_are = old.head_partitions ∙ is.partitions in
    let reads = subst (λ (o : Outcome). AllByRecursion (λ (write : Write). IsRead o.answers write.key) o.writes)
    outcome_is
    (c.what_it_reads.ensures (rule_at setting server) (message_bytes (state.message packet)) content) in
    let logged = log_made server setting.partitions old.head.vector packet running.answers end.writes.items done.log
    (subst (λ g. IfSome done.log (IsLogOf g setting.partitions old.head.vector packet running.answers end.writes.items))
    (old.head_group ∙ is.number_is)
    (subst (λ p. IfSome done.log (IsLogOf old.head.group p old.head.vector packet running.answers end.writes.items))
    partitions_are done.head.logged)) done.head.no_log reads in
    let log_in = c.logs_last.ensures.made setting state server packet worker
    (pruned_by (vector_of old.known server) (replica_or_own old None)) logged.0 run legal up is.stands.replicas.own
    (subst (λ (o : Outcome). IsLogOf server setting.partitions old.head.vector packet o.answers o.writes logged.0)
    (sym outcome_is) logged.1) in
    let raised = done.head.vector ∙ ap (λ p. vector_after p end.writes.items old.head.vector) partitions_are in
    let name : VisitName = record { server = server; packet = packet } in
    record {
      names = map_end name_of visits made
          ∙ (ap (λ (list : List VisitName). list ++ name_of made ∷ []) are.names
          ∙ ap (λ (last : VisitName). visits_in state.trace ++ last ∷ [])
          (named setting.partitions server packet running.answers new.head.vector made by));
      each = all_push (IsMadeIn setting.partitions after.trace) visits made
          (all_last setting.partitions state.trace after.trace
          (λ group p marks. c.logs_last.ensures.need setting state
          (event.Visit server packet worker) group p marks run legal)
          visits are.names (λ group p stood. inr stood) are.each)
          (made_with setting.partitions server packet run.right.some_partition run.right.few_partitions old.head.vector
          new.head.vector running.answers end.writes.items logged.0 logged.1 raised after.trace made log_in by);
    })
