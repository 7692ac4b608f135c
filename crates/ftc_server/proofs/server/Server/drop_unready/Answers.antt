use Rattle.std.proofs.Common.{◌≡◌, ◌∙◌, List, Option, ap, sym, subst, true}
use Rattle.std.proofs.Math.Logic.{∥∥₁_map}
use Rattle.std.specs.List.{list_all, filter}
use Rattle.ftc_replica.specs.Held.{Held}
use Rattle.ftc_server.specs.declared.held.HeldMessage.{HeldMessage}
use Rattle.ftc_server.specs.Replicas.{is_ready}
use Rattle.ftc_replica.specs.declared.waits.Wait.{Wait}
use Rattle.ftc_server.specs.Holding.{are_rising, noted}
use Rattle.ftc_server.specs.Slots.{AreSlots, is_open}
use Rattle.ftc_server.specs.Waiting.{AreWatched, is_settled}
use Rattle.ftc_server.proofs.Anew.{nothing_watched, kept_ready}
use Rattle.ftc_server.proofs.Finding.{all_kept}
use Rattle.ftc_server.proofs.Slotting.{slots_dropped}
use Rattle.ftc_server.proofs.HadBefore.{none_noted}
use Rattle.ftc_server.proofs.server.Server.drop_unready.Goals as goal

pub invariant_of-self-clause-open : goal.invariant_of-self-clause-open
invariant_of-self-clause-open c =
    let server = c.args.self.now in
    subst (λ (items : List HeldMessage). list_all (is_open server.id) items ≡ true)
    (sym (c.settle_all.ensures.items ∙ c.drop_unready.ensures.items))
    (all_kept (is_open server.id) (is_ready c.as_slice.result.now) server.held.items server.«open»)

pub invariant_of-self-clause-slots : goal.invariant_of-self-clause-slots
invariant_of-self-clause-slots c =
    let server = c.args.self.now in
    let kept = c.settle_all.ensures.items ∙ c.drop_unready.ensures.items
    ∙ ap (λ (replicas : List (Option Held)). filter (is_ready replicas) server.held.items) c.as_slice.ensures.value in
    subst (λ (items : List HeldMessage). ∥ AreSlots server.rule server.head items ∥₁) (sym kept)
    (∥∥₁_map server.slots (slots_dropped server.rule server.head server.held.items server.others.items c.requires))

pub invariant_of-self-clause-rising : goal.invariant_of-self-clause-rising
invariant_of-self-clause-rising c =
    let server = c.args.self.now in
    ap (list_all are_rising) (c.settle_all.ensures.items ∙ c.drop_unready.ensures.items)
    ∙ all_kept are_rising (is_ready c.as_slice.result.now) server.held.items server.«rising»

pub invariant_of-self-clause-watched : goal.invariant_of-self-clause-watched
invariant_of-self-clause-watched c =
    let server = c.args.self.now in
    let others = server.others.items in
    let left = filter (is_ready others) server.held.items in
    let resting = c.settle_all.new.held.resting in
    let kept : c.settle_all.new.held.items ≡ left = c.settle_all.ensures.items ∙ (c.drop_unready.ensures.items
    ∙ ap (λ (replicas : List (Option Held)). filter (is_ready replicas) server.held.items) c.as_slice.ensures.value) in
    let settled : list_all (is_settled others resting) left ≡ true =
    ap (list_all (is_settled others resting)) (sym kept)
    ∙ (ap (λ (replicas : List (Option Held)). list_all (is_settled replicas resting) c.settle_all.new.held.items)
    (sym c.as_slice-2.ensures.value) ∙ c.settle_all.ensures.resting) in
    subst (λ (items : List HeldMessage). AreWatched others items resting c.new.result.items) (sym kept)
    (subst (λ (waits : List Wait). AreWatched others left resting waits) (sym c.new.ensures)
    (nothing_watched others left resting (kept_ready others server.held.items) settled))

pub settle_all-requires : goal.settle_all-requires
settle_all-requires c =
    none_noted c.as_slice-2.result.now c.drop_unready.new.self.items c.drop_unready.new.self.had
    c.drop_unready.ensures.had

pub invariant_of-self-clause-had : goal.invariant_of-self-clause-had
invariant_of-self-clause-had c =
    none_noted c.args.self.now.others.items c.settle_all.new.held.items c.settle_all.new.held.had (λ packet.
    ap (noted packet) c.settle_all.ensures.had ∙ c.drop_unready.ensures.had packet)
