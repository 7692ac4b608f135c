use Rattle.std.proofs.Common.{rules, ◌≡◌, ◌+◌, ◌<◌, ◌==◌, ◌∙◌, ℕ, List, [], Option, Some, refl, sym, ap, subst, arith}
use Rattle.std.proofs.lemmas.List.{get_or_read}
use Rattle.ftc_journal.specs.declared.event.Event.TheVariants as event
use Rattle.ftc_ring.specs.Ring.{RingShape, next_of}
use Rattle.ftc_vector.specs.Commits.{all_merged}
use Rattle.ftc_machine.specs.Represents.{footprints_in, frontiers_of}
use Rattle.ftc_protocol.specs.Next.{taken_message, known_by}
use Rattle.ftc_machine.specs.Frontier.{numbers_of, AreFrontiers}
use Rattle.ftc_protocol.specs.Setting.{servers}
use Rattle.ftc_protocol.specs.State.{Message}
use Rattle.ftc_machine.proofs.LegalEvents.{visits_within}
use Rattle.ftc_machine.proofs.MovedMessages.{carried, kept_message, taken_kept, known_merges}
use Rattle.ftc_machine.proofs.NextParts.{goes_on, message_put}
use Rattle.ftc_machine.proofs.ReplacedPlaces.{others_left}
use Rattle.ftc_machine.proofs.state.MachineState.take.Goals as goal

pub returns-clause-ok : goal.returns-clause-ok
returns-clause-ok c setting s now may is =
    let k = c.args.self.now in
    let n = servers setting in
    let numbers = numbers_of (footprints_in k.visits.items) in
    let message : Message = may.legal.0.0 in
    let there : s.message c.args.origin ≡ Some message = may.legal.0.1 in
    let slot = sym c.take_out.ensures.item ∙ c.in-Some.is in
    let servers_are : k.ring.servers ≡ n = ap (λ (ring : RingShape). ring.servers) is.ring in
    let receiver : c.next-receiver.result ≡ next_of n c.args.link =
    c.next-receiver.ensures.same ∙ ap (λ servers. next_of servers c.args.link) servers_are in
    let place : c.from.result ≡ next_of n c.args.link = c.from.ensures ∙ c.number-2.ensures.same ∙ receiver in
    let below : next_of n c.args.link < n = let within = c.next-receiver.ensures.within in omega arith in
    let row : c.index_mut.result.now ≡ frontiers_of k.known.items c.from.result =
    get_or_read k.known.items c.from.result c.index_mut.result.now (let long = k.each_known in
    omega arith) c.index_mut.ensures.value [] in
    let merged : c.merge.new.self ≡ all_merged (frontiers_of k.known.items c.from.result) c.in-Queued.known.value =
    c.merge.ensures ∙ ap (λ (reach : List (List ℕ)). all_merged reach c.deref.result.now) row ∙ ap
    (all_merged (frontiers_of k.known.items c.from.result)) c.deref.ensures in
    let known : AreFrontiers setting.partitions s.trace numbers
    (known_by (s.message c.args.origin)) c.in-Queued.known.value =
    subst (λ (o : Option Message). AreFrontiers setting.partitions s.trace numbers (known_by o) c.in-Queued.known.value)
    (sym there)
    (carried setting.partitions s.trace numbers message c.in-Some.message c.args.link c.in-Queued.link c.in-Queued.known
    may.legal.0.2 c.in-Queued.is
    (kept_message setting s k is c.args.origin message c.in-Some.message there slot)) in
    let number : c.number.result ≡ c.args.link = c.number.ensures.same in
    let by_ring : (c.number.result + 1 == c.servers.result) ≡ (c.args.link + 1 == n) =
    ap (λ link. link + 1 == c.servers.result) number ∙ ap (λ servers. c.args.link
    + 1 == servers) (c.servers.ensures.same ∙ servers_are) in
    let messages = message_put is c.take_out.new.self c.put.new.self c.args.origin
    (taken_message setting s c.args.link (s.message c.args.origin)) _ c.put.ensures c.in-Some.ensures.room
    (others_left k.messages c.take_out.new.self c.args.origin c.take_out.ensures.left)
    (taken_kept setting s k is c.args.origin c.args.link message c.in-Some.message _ there slot (
      receiver,
      refl,
      by_ring,
    ) now refl refl refl) in
    goes_on is (search rules) is.sets.lists
    (known_merges setting s k is (visits_within setting s (event.Take c.args.link c.args.origin) may k is)
    (next_of n c.args.link) c.from.result (known_by (s.message c.args.origin)) c.in-Queued.known.value
    c.merge.new.self _ known below place merged refl)
    messages is.sets.stores is.forwarder is.buffer is.gaps is.entered is.propagates is.fates
