use Rattle.std.proofs.Common.{◌≡◌, ◌∙◌, ◌&&◌, ◌||◌, ℕ, List, Option, Some, true, refl, ap, sym, subst}
use Rattle.std.specs.Prelude.{◌==◌, find}
use Rattle.std.specs.List.{list_all}
use Rattle.std.proofs.lemmas.Bool.{eqb-true, and_parts}
use Rattle.ftc_base.proofs.Firsts.{test_of_found}
use Rattle.ftc_replica.specs.Held.{Held}
use Rattle.ftc_message.specs.Logged.{Logged}
use Rattle.ftc_message.specs.Ordered.{is_log_of}
use Rattle.ftc_server.specs.declared.held.HeldMessage.{HeldMessage}
use Rattle.ftc_server.specs.declared.server.Server.{Server}
use Rattle.ftc_server.specs.Holding.{found, are_rising, rests}
use Rattle.ftc_server.specs.Looks.{log_of, log_in, may_apply_one, may_apply_in}
use Rattle.ftc_server.specs.Replicas.{replica_at, may_rise_in, may_apply_to, with_applied}
use Rattle.ftc_server.specs.Standing.{with_replica}
use Rattle.ftc_server.specs.Slots.{AreSlots, is_open}
use Rattle.ftc_server.specs.Waiting.{AreHadBefore, AreWatched, is_due, is_unreached, is_idle_one}
use Rattle.ftc_server.proofs.StillWatched.{settled_watched}
use Rattle.ftc_server.proofs.Grown.{applied_grown, applied_due, watched_grown}
use Rattle.ftc_server.proofs.Installing.{applied_at, ready_replica}
use Rattle.ftc_server.proofs.HadBefore.{had_grown, had_same}
use Rattle.ftc_server.proofs.server.Server.apply.Goals as goal

pub apply-requires-clause-rise : goal.apply-requires-clause-rise
apply-requires-clause-rise c =
    let server = c.args.self.now in
    let log = c.in-Some-find.log.now in
    let is = test_of_found (is_log_of c.args.packet c.args.group) c.in-Some.held.now.message.logs log
    (sym c.in-Some-find.ensures) in
    let same = eqb-true log.group c.args.group
    (and_parts (log.origin == c.args.packet) (log.group == c.args.group) is).1 in
    ap (λ (group : ℕ). may_rise_in (replica_at server.others.items group)) same ∙ c.requires.rise

pub returns-clause-ok : goal.returns-clause-ok
returns-clause-ok c =
    let server = c.args.self.now in
    let log = c.in-Some-find.log.now in
    let is = test_of_found (is_log_of c.args.packet c.args.group) c.in-Some.held.now.message.logs log
    (sym c.in-Some-find.ensures) in
    let same = eqb-true log.group c.args.group
    (and_parts (log.origin == c.args.packet) (log.group == c.args.group) is).1 in
    let named : log_in server c.args.origin c.args.group c.args.packet ≡ Some log =
    sym (ap (log_of c.args.group c.args.packet) c.in-Some.ensures) ∙ sym c.in-Some-find.ensures in
    let ready : may_apply_to (replica_at server.others.items log.group) log ≡ true =
    sym (ap (may_apply_one server.others.items) named) ∙ c.requires.ready in
    let replica = ready_replica (replica_at server.others.items log.group) log ready in
    let before : replica_at server.others.items c.args.group ≡ Some replica.0 =
    ap (replica_at server.others.items) (sym same) ∙ replica.1 in
    let after = c.as_slice.ensures.value ∙ c.in_ok-apply.ensures.ok in
    record {
      log = log;
      named = named;
      replica = replica.0;
      before = before;
      others = c.in_ok-apply.ensures.ok;
      known = c.learn_from.ensures
          ∙ ap (λ (slot : Option Held). with_replica server.ring server.id c.args.group slot server.known)
          (ap (λ (others : List (Option Held)). replica_at others c.args.group) after
          ∙ applied_at server.others.items c.args.group log replica.0 same before);
      held = c.settle.ensures.items ∙ (c.note_had.ensures.items ∙ c.wake_changed.ensures.items);
      rest = refl;
    }

-- the log that is applied is of the group, whose replica is there
abbrev OfGroup : Server → ℕ → Logged → Type 0
OfGroup server group log = (was : Held) × (log.group ≡ group) × (replica_at server.others.items log.group ≡ Some was)

of_group : (server : Server) (origin group packet : ℕ) (held : HeldMessage) (log : Logged) →
    Some held ≡ found origin server.held.items → Some log ≡ find (is_log_of packet group) held.message.logs →
    may_apply_in server origin group packet ≡ true → OfGroup server group log
of_group server origin group packet held log there in_logs ready =
    let is = test_of_found (is_log_of packet group) held.message.logs log (sym in_logs) in
    let same = eqb-true log.group group (and_parts (log.origin == packet) (log.group == group) is).1 in
    let named : log_in server origin group packet ≡ Some log = sym (ap (log_of group packet) there) ∙ sym in_logs in
    let replica = ready_replica (replica_at server.others.items log.group) log
    (sym (ap (may_apply_one server.others.items) named) ∙ ready) in
    (replica.0, same, replica.1)

pub wake_changed-requires-clause-watched : goal.wake_changed-requires-clause-watched
wake_changed-requires-clause-watched c =
    let server = c.args.self.now in
    let log = c.in-Some-find.log.now in
    let of = of_group server c.args.origin c.args.group c.args.packet c.in-Some.held.now log c.in-Some.ensures
    c.in-Some-find.ensures c.requires.ready in
    let after = c.as_slice-replicas.ensures.value ∙ c.in_ok-apply.ensures.ok in
    subst (λ (others : List (Option Held)). AreWatched others server.held.items server.held.resting server.waits.items)
    (sym after)
    (watched_grown server.others.items (with_applied server.others.items log) server.held.items server.held.resting
    server.waits.items (applied_grown server.others.items log of.0 of.2) server.«watched»)

pub wake_changed-requires-clause-due : goal.wake_changed-requires-clause-due
wake_changed-requires-clause-due c =
    let server = c.args.self.now in
    let log = c.in-Some-find.log.now in
    let of = of_group server c.args.origin c.args.group c.args.packet c.in-Some.held.now log c.in-Some.ensures
    c.in-Some-find.ensures c.requires.ready in
    let after = c.as_slice-replicas.ensures.value ∙ c.in_ok-apply.ensures.ok in
    let due = applied_due server.others.items log of.0 server.held.items server.waits.items of.2
    server.«watched».named server.«unreached» in
    ap (λ (others : List (Option Held)). list_all (is_due others c.args.group c.changed-changed.result 0)
    server.waits.items) after
    ∙ (ap (λ (changed : ℕ). list_all (is_due (with_applied server.others.items log) c.args.group changed 0)
    server.waits.items) c.changed-changed.ensures
    ∙ (ap (λ (group : ℕ). list_all (is_due (with_applied server.others.items log) group log.changed 0)
    server.waits.items) (sym of.1) ∙ due))

pub invariant_of-self-2-clause-open : goal.invariant_of-self-2-clause-open
invariant_of-self-2-clause-open c =
    let server = c.args.self.now in
    ap (list_all (is_open server.id))
    (c.settle.ensures.items ∙ (c.note_had.ensures.items ∙ c.wake_changed.ensures.items)) ∙ server.«open»

pub invariant_of-self-2-clause-slots : goal.invariant_of-self-2-clause-slots
invariant_of-self-2-clause-slots c =
    let server = c.args.self.now in
    subst (λ (items : List HeldMessage). ∥ AreSlots server.rule server.head items ∥₁)
    (sym (c.settle.ensures.items ∙ (c.note_had.ensures.items ∙ c.wake_changed.ensures.items))) server.«slots»

pub invariant_of-self-2-clause-rising : goal.invariant_of-self-2-clause-rising
invariant_of-self-2-clause-rising c =
    ap (list_all are_rising) (c.settle.ensures.items ∙ (c.note_had.ensures.items ∙ c.wake_changed.ensures.items))
    ∙ c.args.self.now.«rising»

both_same : (a b : List (Option Held)) (x y : List HeldMessage) → a ≡ b → x ≡ y →
    ◌≡◌ {A = List (Option Held) × List HeldMessage} (a, x) (b, y)
both_same a b x y first second = cc

pub invariant_of-self-2-clause-watched : goal.invariant_of-self-2-clause-watched
invariant_of-self-2-clause-watched c =
    let server = c.args.self.now in
    let others = c.apply.new.replicas.items in
    let items = server.held.items in
    let woken = c.wake_changed.new.held.resting in
    let waiting = c.wake_changed.new.waits.items in
    let stands : AreWatched others items woken waiting =
    subst (λ (all : List (Option Held) × List HeldMessage). AreWatched all.0 all.1 woken waiting)
    (both_same c.as_slice-replicas.result.now others c.wake_changed.new.held.items items
    c.as_slice-replicas.ensures.value c.wake_changed.ensures.items) c.wake_changed.ensures.watched in
    subst (λ (all : List HeldMessage). AreWatched others all c.settle.new.held.resting waiting)
    (sym (c.settle.ensures.items ∙ (c.note_had.ensures.items ∙ c.wake_changed.ensures.items)))
    (settled_watched others items woken c.settle.new.held.resting waiting c.args.origin server.«rising» stands
    (λ other. c.settle.ensures.resting other
    ∙ (ap (λ (resting : List ℕ). rests other resting || (other == c.args.origin
    && is_idle_one c.as_slice-replicas.result.now (found c.args.origin c.note_had.new.held.items)))
    c.note_had.ensures.resting
    ∙ (ap (λ (all : List HeldMessage). rests other woken || (other == c.args.origin
    && is_idle_one c.as_slice-replicas.result.now (found c.args.origin all))) c.note_had.ensures.items
    ∙ (ap (λ (replicas : List (Option Held)). rests other woken || (other == c.args.origin
    && is_idle_one replicas (found c.args.origin c.wake_changed.new.held.items))) c.as_slice-replicas.ensures.value
    ∙ ap (λ (all : List HeldMessage). rests other woken || (other == c.args.origin
    && is_idle_one others (found c.args.origin all))) c.wake_changed.ensures.items)))))

pub invariant_of-self-2-clause-unreached : goal.invariant_of-self-2-clause-unreached
invariant_of-self-2-clause-unreached c =
    ap (λ (others : List (Option Held)). list_all (is_unreached others) c.wake_changed.new.waits.items)
    (sym c.as_slice-replicas.ensures.value) ∙ c.wake_changed.ensures.unreached

pub note_had-requires : goal.note_had-requires
note_had-requires c =
    let server = c.args.self.now in
    let log = c.in-Some-find.log.now in
    let later = with_applied server.others.items log in
    let of = of_group server c.args.origin c.args.group c.args.packet c.in-Some.held.now log c.in-Some.ensures
    c.in-Some-find.ensures c.requires.ready in
    subst (λ (others : List (Option Held)). AreHadBefore others c.wake_changed.new.held.items
    c.wake_changed.new.held.had) (sym (c.as_slice-replicas.ensures.value ∙ c.in_ok-apply.ensures.ok))
    (had_same later server.held.items c.wake_changed.new.held.items server.held.had c.wake_changed.new.held.had
    c.wake_changed.ensures.items c.wake_changed.ensures.had
    (had_grown server.others.items later server.held.items server.held.had
    (applied_grown server.others.items log of.0 of.2) server.«had»))

pub invariant_of-self-2-clause-had : goal.invariant_of-self-2-clause-had
invariant_of-self-2-clause-had c =
    subst (λ (others : List (Option Held)). AreHadBefore others c.settle.new.held.items c.settle.new.held.had)
    c.as_slice-replicas.ensures.value
    (had_same c.as_slice-replicas.result.now c.note_had.new.held.items c.settle.new.held.items c.note_had.new.held.had
    c.settle.new.held.had c.settle.ensures.items c.settle.ensures.had c.note_had.ensures.had)
