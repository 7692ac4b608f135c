use Rattle.std.proofs.Common.{◌≡◌, ◌∙◌, ◌++◌, ◌&&◌, ◌||◌, [], ◌∷◌, ap, sym, subst, List, Option, true, ℕ}
use Rattle.std.specs.Prelude.{◌==◌}
use Rattle.std.proofs.Math.Logic.{∥∥₁_map}
use Rattle.std.specs.List.{list_all, flat_map}
use Rattle.ftc_server.specs.declared.held.HeldMessage.{HeldMessage}
use Rattle.ftc_message.specs.Logged.{Logged}
use Rattle.ftc_replica.specs.Held.{Held}
use Rattle.ftc_replica.specs.declared.waits.Wait.{Wait}
use Rattle.ftc_server.specs.Holding.{is_of, found, arrived, are_rising, rests}
use Rattle.ftc_server.specs.Slots.{is_open}
use Rattle.ftc_server.specs.Waiting.{AreWatched, AreHadBefore, is_unreached, waits_of, is_idle_one}
use Rattle.ftc_server.proofs.Finding.{all_behind, found_behind}
use Rattle.ftc_server.proofs.Slotting.{slots_found}
use Rattle.ftc_server.proofs.Taken.{all_more}
use Rattle.ftc_server.proofs.StillWatched.{taken_watched, settled_watched, logs_unreached}
use Rattle.ftc_server.proofs.HadBefore.{had_same, had_taken}
use Rattle.ftc_server.proofs.server.Server.take.Goals as goal

pub invariant_of-self-clause-open : goal.invariant_of-self-clause-open
invariant_of-self-clause-open c =
    let server = c.args.self.now in
    subst (λ (items : List HeldMessage). list_all (is_open server.id) items ≡ true)
    (sym (c.settle.ensures.items ∙ c.hold.ensures.items))
    (all_behind (is_open server.id) server.held.items
    (arrived c.args.message c.args.by_ring) server.«open» c.requires.«open»)

pub invariant_of-self-clause-slots : goal.invariant_of-self-clause-slots
invariant_of-self-clause-slots c =
    let server = c.args.self.now in
    ∥∥₁_map server.slots (λ slots.
    slots_found server.rule server.head server.held.items c.settle.new.held.items
    (λ worker running held runs there.
    ap (found running.packet) (c.settle.ensures.items ∙ c.hold.ensures.items)
    ∙ found_behind (is_of running.packet) server.held.items (arrived c.args.message c.args.by_ring
    ∷ []) held there) slots)

pub invariant_of-self-clause-rising : goal.invariant_of-self-clause-rising
invariant_of-self-clause-rising c =
    let server = c.args.self.now in
    subst (λ (items : List HeldMessage). list_all are_rising items ≡ true)
    (sym (c.settle.ensures.items ∙ c.hold.ensures.items))
    (all_behind are_rising server.held.items (arrived c.args.message c.args.by_ring) server.«rising»
    c.len.ensures.bounds.rising)

abbrev added : List Wait → ℕ → List (Option Held) → List Logged → List Wait
added waits packet replicas logs = waits ++ flat_map (waits_of replicas packet) logs

pub invariant_of-self-clause-watched : goal.invariant_of-self-clause-watched
invariant_of-self-clause-watched c =
    let server = c.args.self.now in
    let replicas = server.others.items in
    let held = arrived c.args.message c.args.by_ring in
    let origin = c.args.message.origin in
    let waits_are : c.watch.new.waits.items ≡ added server.waits.items origin replicas c.args.message.logs =
    c.watch.ensures.items
    ∙ (ap (λ (others : List (Option Held)). added server.waits.items origin others c.as_slice-2.result.now)
    c.as_slice.ensures.value
    ∙ ap (added server.waits.items origin replicas) c.as_slice-2.ensures) in
    let all = server.held.items ++ held ∷ [] in
    let rising : list_all are_rising all ≡ true =
    all_behind are_rising server.held.items held server.«rising» c.len.ensures.bounds.rising in
    let held_so = taken_watched replicas server.held.items server.held.resting c.hold.new.self.resting
    server.waits.items held server.«watched» c.requires.new c.len.ensures.bounds.rising
    (λ other. ap (rests other) c.hold.ensures.resting) c.hold.ensures.awake in
    subst (λ (items : List HeldMessage). AreWatched replicas items c.settle.new.held.resting c.watch.new.waits.items)
    (sym (c.settle.ensures.items ∙ c.hold.ensures.items))
    (subst (λ (waits : List Wait). AreWatched replicas all c.settle.new.held.resting waits) (sym waits_are)
    (settled_watched replicas all c.hold.new.self.resting c.settle.new.held.resting
    (added server.waits.items origin replicas c.args.message.logs) origin rising held_so
    (λ other. c.settle.ensures.resting other
    ∙ (ap (λ (others : List (Option Held)). rests other c.hold.new.self.resting
    || (other == origin && is_idle_one others (found origin c.hold.new.self.items))) c.as_slice-3.ensures.value
    ∙ ap (λ (items : List HeldMessage). rests other c.hold.new.self.resting
    || (other == origin && is_idle_one replicas (found origin items))) c.hold.ensures.items))))

pub invariant_of-self-clause-unreached : goal.invariant_of-self-clause-unreached
invariant_of-self-clause-unreached c =
    let server = c.args.self.now in
    let replicas = server.others.items in
    let origin = c.args.message.origin in
    let waits_are : c.watch.new.waits.items ≡ added server.waits.items origin replicas c.args.message.logs =
    c.watch.ensures.items
    ∙ (ap (λ (others : List (Option Held)). added server.waits.items origin others c.as_slice-2.result.now)
    c.as_slice.ensures.value
    ∙ ap (added server.waits.items origin replicas) c.as_slice-2.ensures) in
    ap (list_all (is_unreached replicas)) waits_are
    ∙ all_more (is_unreached replicas) server.waits.items (flat_map (waits_of replicas origin) c.args.message.logs)
    server.«unreached» (logs_unreached replicas origin c.args.message.logs)

pub settle-requires : goal.settle-requires
settle-requires c =
    let server = c.args.self.now in
    subst (λ (others : List (Option Held)). AreHadBefore others c.hold.new.self.items c.hold.new.self.had)
    (sym c.as_slice-3.ensures.value)
    (had_taken server.others.items server.held.items c.hold.new.self.items server.held.had c.hold.new.self.had
    (arrived c.args.message c.args.by_ring) c.hold.ensures.items c.requires.new c.hold.ensures.unseen c.hold.ensures.had
    server.«had»)

pub invariant_of-self-clause-had : goal.invariant_of-self-clause-had
invariant_of-self-clause-had c =
    let server = c.args.self.now in
    had_same server.others.items c.hold.new.self.items c.settle.new.held.items c.hold.new.self.had
    c.settle.new.held.had c.settle.ensures.items c.settle.ensures.had
    (had_taken server.others.items server.held.items c.hold.new.self.items server.held.had c.hold.new.self.had
    (arrived c.args.message c.args.by_ring) c.hold.ensures.items c.requires.new c.hold.ensures.unseen c.hold.ensures.had
    server.«had»)
