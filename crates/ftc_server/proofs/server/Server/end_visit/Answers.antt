use Rattle.std.proofs.Common.{◌≡◌, ◌∙◌, ◌&&◌, not, ℕ, Bool, List, Option, Some, refl, ap, sym, subst, true, false}
use Rattle.std.specs.Prelude.{is_some, nat_le, IfSome}
use Rattle.std.proofs.lemmas.Bool.{eq-eqb}
use Rattle.std.proofs.Math.Logic.{∥∥₁_map}
use Rattle.std.proofs.lemmas.Option.{same_Some}
use Rattle.std.specs.List.{list_all}
use Rattle.ftc_base.specs.declared.ask.Ask.TheVariants.{Finish}
use Rattle.ftc_server.specs.declared.held.HeldMessage.{HeldMessage}
use Rattle.ftc_server.specs.declared.visited.Visited.{Visited}
use Rattle.ftc_txn.specs.Head.{HeadState, RunsUnwounded}
use Rattle.ftc_base.specs.declared.ask.Write.{Write}
use Rattle.ftc_message.specs.Logged.{Logged}
use Rattle.ftc_ring.specs.Ring.{RingShape, apart}
use Rattle.ftc_txn.specs.Logs.{IsLogOf}
use Rattle.ftc_txn.specs.Slots.{Running, packet_of, slot_at}
use Rattle.ftc_txn.specs.Steps.{HasCommitted}
use Rattle.ftc_server.specs.Steps.{with_kept, with_written}
use Rattle.ftc_server.specs.declared.server.Server.{Server}
use Rattle.ftc_server.specs.Holding.{found, with_changed, are_rising}
use Rattle.ftc_server.specs.Prepared.{IsLogLeft}
use Rattle.ftc_server.specs.Replicas.{replica_at}
use Rattle.ftc_server.specs.Standing.{is_later_member}
use Rattle.ftc_server.specs.Waiting.{AreWatched}
use Rattle.ftc_server.specs.Slots.{AreSlots, is_open}
use Rattle.ftc_message.specs.Added.{logs_with}
use Rattle.ftc_server.specs.Visited.{visited_by}
use Rattle.ftc_server.proofs.Finding.{all_changed}
use Rattle.ftc_server.proofs.Lent.{its_writes}
use Rattle.ftc_server.proofs.VisitedWaits.{AreAfter, logs_are_after, visited_watched}
use Rattle.ftc_server.proofs.Slotting.{slots_commit, asked_of}
use Rattle.ftc_server.proofs.WouldLog.{runs_unwounded, committed}
use Rattle.ftc_server.proofs.HadBefore.{had_visited}
use Rattle.ftc_server.proofs.server.Server.end_visit.Goals as goal

pub log_left-log-requires-clause-writes : goal.log_left-log-requires-clause-writes
log_left-log-requires-clause-writes c running runs =
    let server = c.args.self.now in
    its_writes server.rule server.head server.held.items c.args.worker running c.args.finish.now server.slots runs
    (asked_of server c.args.worker running (Finish c.args.finish.now) runs c.requires.asked)

pub commit_logged-requires-clause-writes : goal.commit_logged-requires-clause-writes
commit_logged-requires-clause-writes c =
    let server = c.args.self.now in
    let prepared = c.in-Ok.ensures in
    let runs = runs_unwounded server.head c.args.worker prepared.running prepared.runs c.requires.unwounded in (
      prepared.running,
      runs,
      its_writes server.rule server.head server.held.items c.args.worker prepared.running c.args.finish.now server.slots
          runs (asked_of server c.args.worker prepared.running (Finish c.args.finish.now) runs c.requires.asked),
    )

-- the head's commit of what the slot ran
has_committed : (c : goal.After-visit) → RunsUnwounded c.args.self.now.head c.args.worker c.in-Ok.ensures.running
    × HasCommitted c.args.self.now.head c.commit_logged.new.self c.args.worker c.in-Ok.ensures.running
    c.args.finish.now.writes.items c.log_left-log.result
has_committed c =
    committed c.args.self.now.head c.commit_logged.new.self c.args.worker c.in-Ok.ensures.running
    c.args.finish.now.writes.items c.log_left-log.result c.commit_logged.result c.in-Ok.ensures.runs
    c.requires.unwounded c.log_left-log.ensures
    (sym c.is_err-2.ensures.value ∙ c.if-is_err-2.false) c.commit_logged.ensures.ok

pub invariant_of-self-2-clause-head_group : goal.invariant_of-self-2-clause-head_group
invariant_of-self-2-clause-head_group c =
    ap (λ (head : HeadState). head.group) (has_committed c).1.rest ∙ c.args.self.now.head_group

pub invariant_of-self-2-clause-head_partitions : goal.invariant_of-self-2-clause-head_partitions
invariant_of-self-2-clause-head_partitions c =
    ap (λ (head : HeadState). head.partitions) (has_committed c).1.rest ∙ c.args.self.now.head_partitions

pub invariant_of-self-2-clause-slots : goal.invariant_of-self-2-clause-slots
invariant_of-self-2-clause-slots c =
    let server = c.args.self.now in
    let running = c.in-Ok.ensures.running in
    let change = visited_by c.in-Ok.visited in
    let same : running.packet ≡ c.in-Some.packet =
    same_Some running.packet c.in-Some.packet (sym (ap packet_of c.in-Ok.ensures.runs) ∙ sym c.in-Some.ensures) in
    subst (λ (items : List HeldMessage). ∥ AreSlots server.rule c.commit_logged.new.self items ∥₁)
    (ap (λ (packet : ℕ). with_changed packet change server.held.items) same ∙ sym c.visit.ensures.items)
    (∥∥₁_map server.slots (slots_commit server.rule server.head c.commit_logged.new.self server.held.items c.args.worker
    running c.args.finish.now.writes.items c.log_left-log.result change (λ held. refl) (has_committed c).0.slot
    (has_committed c).1))

pub invariant_of-self-2-clause-open : goal.invariant_of-self-2-clause-open
invariant_of-self-2-clause-open c =
    let server = c.args.self.now in
    subst (λ (items : List HeldMessage). list_all (is_open server.id) items ≡ true) (sym c.visit.ensures.items)
    (all_changed (is_open server.id) _ (visited_by _) server.held.items (λ held. refl) server.«open»)

pub invariant_of-self-2-clause-rising : goal.invariant_of-self-2-clause-rising
invariant_of-self-2-clause-rising c =
    let server = c.args.self.now in
    ap (list_all are_rising) c.visit.ensures.items
    ∙ all_changed are_rising c.in-Some.packet (visited_by c.in-Ok.visited) server.held.items
    (λ held. c.len.ensures.bounds.rising) server.«rising»

not_its_own : (ring : RingShape) (id : ℕ) → is_later_member ring id id ≡ false
not_its_own ring id =
    ap (λ (b : Bool). not b && nat_le (apart ring.servers id id) ring.failures) (eq-eqb id id refl)

-- the log of a visit is of the server's own group, of which there is no replica beside the head
own_group : (server : Server) (log : Option Logged) (worker : ℕ) (running : Running) (writes : List Write) →
    slot_at server.head.slots worker ≡ Some running →
    IsLogLeft server.head (slot_at server.head.slots worker) writes log → (own : Logged) → log ≡ Some own →
    is_some (replica_at server.others.items own.group) ≡ false
own_group server log worker running writes runs left own is =
    let left_so : IsLogLeft server.head (Some running) writes log =
    subst (λ (slot : Option Running). IsLogLeft server.head slot writes log) runs left in
    let of = subst (λ (l : Option Logged). IfSome l (IsLogOf server.head.group server.head.partitions server.head.vector
    running.packet running.answers writes)) is left_so.1 in
    ap (λ (group : ℕ). is_some (replica_at server.others.items group)) (of.group ∙ server.head_group)
    ∙ (server.members server.id server.within ∙ not_its_own server.ring server.id)

pub invariant_of-self-2-clause-watched : goal.invariant_of-self-2-clause-watched
invariant_of-self-2-clause-watched c =
    let server = c.args.self.now in
    let others = server.others.items in
    let prepared = c.in-Ok.ensures in
    let log = c.log_left-log.result in
    let same : c.in-Some.packet ≡ prepared.running.packet =
    same_Some c.in-Some.packet prepared.running.packet (c.in-Some.ensures ∙ ap packet_of prepared.runs) in
    let there : found c.in-Some.packet server.held.items ≡ Some prepared.before =
    ap (λ (packet : ℕ). found packet server.held.items) same ∙ prepared.there in
    let logs_are : c.in-Ok.visited.logs ≡ logs_with server.ring.failures log prepared.before.message.logs =
    ap (λ (visited : Visited). visited.logs) prepared.visited_is in
    let after = subst (λ (logs : List Logged). AreAfter others prepared.before.message.logs logs) (sym logs_are)
    (logs_are_after others server.ring.failures log prepared.before.message.logs
    (own_group server log c.args.worker prepared.running c.args.finish.now.writes.items prepared.runs
    c.log_left-log.ensures)) in
    subst (λ (items : List HeldMessage). AreWatched others items c.visit.new.self.resting server.waits.items)
    (sym c.visit.ensures.items)
    (visited_watched others server.held.items server.held.resting c.visit.new.self.resting server.waits.items
    c.in-Some.packet c.in-Ok.visited prepared.before server.«watched» server.«unreached» there after
    c.visit.ensures.resting)

pub returns : goal.returns
returns c =
    let server = c.args.self.now in
    let writes = c.args.finish.now.writes.items in
    let prepared = c.in-Ok.ensures in
    let running = prepared.running in
    let made = committed server.head c.commit_logged.new.self c.args.worker running writes c.log_left-log.result
    c.commit_logged.result prepared.runs c.requires.unwounded c.log_left-log.ensures
    (sym c.is_err-2.ensures.value ∙ c.if-is_err-2.false) c.commit_logged.ensures.ok in
    let same : c.in-Some.packet ≡ running.packet =
    same_Some c.in-Some.packet running.packet (c.in-Some.ensures ∙ ap packet_of prepared.runs) in (
      running,
      c.args.finish.now,
      made.0,
      c.requires.asked,
      record {
        log = c.log_left-log.result;
        head = made.1;
        own = c.keep.ensures ∙ ap (with_kept writes c.log_left-log.result) c.reserve.ensures.items;
        known = c.learn_own.ensures
            ∙ ap (λ (vector : List ℕ). with_written server.ring server.id writes vector server.known) c.vector.ensures;
        before = prepared.before;
        there = prepared.there;
        packet = prepared.packet;
        with_packet = prepared.with_packet;
        held = c.visit.ensures.items
            ∙ ap (λ (packet : ℕ). with_changed packet (visited_by c.in-Ok.visited) server.held.items) same
            ∙ ap (λ (visited : Visited). with_changed running.packet (visited_by visited) server.held.items)
            prepared.visited_is;
        rest = refl;
      },
    )

pub invariant_of-self-2-clause-had : goal.invariant_of-self-2-clause-had
invariant_of-self-2-clause-had c =
    let server = c.args.self.now in
    had_visited server.others.items server.held.items c.visit.new.self.items server.held.had c.visit.new.self.had
    c.in-Some.packet c.in-Ok.visited c.visit.ensures.items c.visit.ensures.unseen c.visit.ensures.had server.«had»
