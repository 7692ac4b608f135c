use Rattle.std.proofs.Common.{◌≡◌, ◌<◌, ◌∙◌, ◌+◌, ◌++◌, ◌∷◌, ℕ, not, length, List, [], refl, sym, ap, subst, slice_set}
use Rattle.std.proofs.Common.{slice_index_or, arith}
use Rattle.std.specs.Prelude.{nat_lt, ◌&&◌}
use Rattle.ftc_serial.specs.Trace.{names}
use Rattle.ftc_machine.specs.Represents.{fate_in}
use Rattle.ftc_protocol.specs.Next.{logs_of, fate_by}
use Rattle.std.proofs.lemmas.List.{get_or_read}
use Rattle.ftc_journal.specs.declared.event.VisitName.{VisitName}
use Rattle.ftc_serial.specs.Contents.{content_at}
use Rattle.ftc_serial.specs.Take.{Outcome}
use Rattle.ftc_serial.specs.Words.{with_at}
use Rattle.ftc_store.specs.Store.{written}
use Rattle.ftc_vector.specs.Vector.{number_at}
use Rattle.ftc_vector.specs.Commits.{vector_of, group_raised}
use Rattle.ftc_machine.specs.declared.state.footprint.Footprint.{Footprint}
use Rattle.ftc_protocol.specs.Changes.{is_touching}
use Rattle.ftc_machine.specs.Represents.{footprints_in, frontiers_of}
use Rattle.ftc_machine.specs.FootprintMaking.{IsFootprintMade}
use Rattle.ftc_machine.specs.FootprintMarks.{marked_at}
use Rattle.ftc_protocol.specs.Next.{outcome_at}
use Rattle.ftc_machine.specs.Frontier.{IsFootprint, numbers_of}
use Rattle.ftc_protocol.specs.Visits.{union, just}
use Rattle.ftc_machine.proofs.AfterVisit.{made_here, rises, footprints_after, known_grows, messages_grow, lists_grow}
use Rattle.ftc_machine.proofs.AfterVisit.{stores_grow, footprint_put, some_length}
use Rattle.ftc_machine.proofs.SameParts.{content_read, content_put}
use Rattle.ftc_machine.proofs.state.MachineState.add_visit.Goals as goal

pub returns-clause-ok : goal.returns-clause-ok
returns-clause-ok c setting s worker now outcome logs may is =
    let k = c.args.self.now in
    let server = c.args.server in
    let packet = c.args.packet in
    let place : c.from-place.result ≡ server = c.from-place.ensures ∙ c.number.ensures.same in
    let within : server < k.ring.servers = c.requires.within in
    let each_list : length k.lists.items ≡ k.ring.servers = k.each_list in
    let each_store : length k.stores.items ≡ k.ring.servers = k.each_store in
    let each_visits : length k.visits.items ≡ k.ring.servers = k.each_visits in
    let footprint : Footprint = c.of-footprint.result in
    let old_row : c.index.result.now ≡ frontiers_of k.lists.items server =
    get_or_read k.lists.items c.from-place.result c.index.result.now (omega arith) c.index.ensures [] ∙ ap
    (frontiers_of k.lists.items) place in
    let new_row : c.index_mut-2.result.now ≡ frontiers_of k.lists.items server =
    get_or_read k.lists.items c.from-place.result c.index_mut-2.result.now
    (omega arith) c.index_mut-2.ensures.value [] ∙ ap (frontiers_of k.lists.items) place in
    let row : c.index_mut-3.result.now ≡ slice_index_or k.visits.items c.from-place.result [] =
    get_or_read k.visits.items c.from-place.result c.index_mut-3.result.now
    (omega arith) c.index_mut-3.ensures.value [] in
    let vector : c.of.result.now ≡ vector_of (frontiers_of k.lists.items server) server =
    c.of.ensures.same ∙ ap (λ (reach : List (List ℕ)). vector_of reach server) old_row in
    let made : IsFootprint setting.partitions s.trace (numbers_of (footprints_in k.visits.items)) server
    (outcome_at setting s server packet) footprint =
    made_here setting s server packet worker may k is c.of.result.now footprint vector
    (subst (λ (partitions : ℕ). IsFootprintMade partitions (outcome_at setting s server packet).answers
    (outcome_at setting s server packet).writes c.of.result.now footprint) is.partitions
    (subst (λ (o : Outcome). IsFootprintMade k.partitions o.answers o.writes c.of.result.now footprint) outcome
    c.of-footprint.ensures.made)) in
    let put = footprint_put k.visits.items _ c.from-place.result server packet c.index_mut-3.result.now c.put.new.self
    footprint refl c.put.ensures row place (omega arith) c.requires.room.visits in
    let number : footprint.number ≡ s.events + 1 = c.of-footprint.ensures.number ∙ ap (λ n. n + 1) now in
    let touched : is_touching (outcome_at setting s server packet) ≡ not c.is_empty-is_touched.result =
    ap is_touching (sym outcome) ∙
    (some_length c.args.told.answers.items ∙ ap not (sym c.is_empty-is_touched.ensures)) in
    let stores = content_put k.stores.items c.from-place.result server c.apply.new.self place (omega arith) in
    record {
      ring = is.ring;
      partitions = is.partitions;
      up = is.up;
      sets = record {
        rising = rises setting s server packet worker may k is footprint _ put.0 put.1 number made;
        footprints = footprints_after setting s server packet worker may k is footprint _ put.0 put.1 number made;
        order = c.in_ok-push.ensures.ok ∙ ap (λ (names : List VisitName). names
            ++ record { server = server; packet = packet } ∷ []) is.sets.order;
        lists = lists_grow setting s server packet worker may k is footprint _ put.0 put.1 number made c.mark.new.vector
            c.raise.new.self _
            (λ partition. c.mark.ensures partition ∙ ap
            (λ (v : List ℕ). marked_at footprint (number_at v) partition) vector)
            (ap (λ (reach : List (List ℕ)). length reach) (sym old_row) ∙ c.of.ensures.size)
            (c.raise.ensures ∙ ap (λ (reach : List (List ℕ)). group_raised reach server c.mark.new.vector) new_row)
            (ap (λ p. slice_set k.lists.items p c.raise.new.self) place);
        known = known_grows setting s server packet worker may k is footprint _ put.0 put.1 number made;
        messages = c.visit_message.ensures setting _ _ (outcome_at setting s server packet) s.message
            (ap (λ (o : Outcome). o.packet) (sym outcome)) touched
            (subst (λ (o : Outcome). (group number : ℕ) →
            names c.args.logs group number
            ≡ union (logs_of (s.message packet))
            (just server packet (is_touching o && nat_lt 0 setting.failures)) group number) outcome logs)
            (messages_grow setting s server packet worker may k is footprint _ put.0 put.1 number made);
        stores = stores_grow setting s server packet worker may k is
            (content_at (slice_set k.stores.items c.from-place.result c.apply.new.self))
            (stores.0 ∙ (c.apply.ensures.content ∙
            (ap (written c.args.told.writes.items)
            (content_read k.stores.items c.from-place.result c.index_mut.result.now
            (omega arith) c.index_mut.ensures.value ∙ ap (content_at k.stores.items) place)
            ∙ ap (λ (o : Outcome). written o.writes (content_at k.stores.items server)) outcome)))
            stores.1;
      };
      forwarder = is.forwarder;
      buffer = is.buffer;
      gaps = is.gaps;
      lines = is.lines;
      entered = is.entered;
      propagates = is.propagates;
      fates = subst (λ (o : Outcome). (number : ℕ) →
          fate_in c.visit_fate.new.fates number
          ≡ with_at s.fate packet (fate_by server (s.fate packet) o.packet) number) outcome
          (c.visit_fate.ensures s.fate is.fates);
    }
