use Rattle.std.proofs.Common.{◌≡◌, ◌∙◌, ◌++◌, List, Option, true, ap, sym, subst}
use Rattle.std.specs.List.{list_all}
use Rattle.ftc_replica.specs.Held.{Held}
use Rattle.ftc_replica.specs.declared.waits.Wait.{Wait}
use Rattle.ftc_server.specs.declared.held.HeldMessage.{HeldMessage}
use Rattle.ftc_server.specs.Holding.{are_rising, noted}
use Rattle.ftc_server.specs.Slots.{AreSlots, is_open}
use Rattle.ftc_server.specs.Waiting.{AreWatched, waits_of_all, is_settled, is_unreached}
use Rattle.ftc_server.proofs.Anew.{all_watched, all_unreached}
use Rattle.ftc_server.proofs.HadBefore.{none_noted}
use Rattle.ftc_server.proofs.server.Server.install.Goals as goal

pub invariant_of-self-2-clause-open : goal.invariant_of-self-2-clause-open
invariant_of-self-2-clause-open c =
    ap (list_all (is_open c.args.self.now.id)) (c.settle_all.ensures.items ∙ c.forget_all.ensures.items)
    ∙ c.args.self.now.«open»

pub invariant_of-self-2-clause-slots : goal.invariant_of-self-2-clause-slots
invariant_of-self-2-clause-slots c =
    let server = c.args.self.now in
    subst (λ (items : List HeldMessage). ∥ AreSlots server.rule server.head items ∥₁)
    (sym (c.settle_all.ensures.items ∙ c.forget_all.ensures.items)) server.«slots»

pub invariant_of-self-2-clause-rising : goal.invariant_of-self-2-clause-rising
invariant_of-self-2-clause-rising c =
    ap (list_all are_rising) (c.settle_all.ensures.items ∙ c.forget_all.ensures.items) ∙ c.args.self.now.«rising»

pub invariant_of-self-2-clause-watched : goal.invariant_of-self-2-clause-watched
invariant_of-self-2-clause-watched c =
    let server = c.args.self.now in
    let others = c.put_all.new.others.items in
    let items = server.held.items in
    let resting = c.settle_all.new.held.resting in
    let waits_are : c.watch_all.new.waits.items ≡ waits_of_all others items =
    c.watch_all.ensures
    ∙ (ap (λ (old : List Wait). old ++ waits_of_all c.as_slice-replicas.result.now items)
    (c.in_ok-reserve.ensures.items ∙ c.new-waits.ensures)
    ∙ ap (λ (replicas : List (Option Held)). waits_of_all replicas items) c.as_slice-replicas.ensures.value) in
    let settled : list_all (is_settled others resting) items ≡ true =
    ap (list_all (is_settled others resting)) (sym (c.settle_all.ensures.items ∙ c.forget_all.ensures.items))
    ∙ (ap (λ (replicas : List (Option Held)). list_all (is_settled replicas resting) c.settle_all.new.held.items)
    (sym c.as_slice-replicas.ensures.value) ∙ c.settle_all.ensures.resting) in
    subst (λ (all : List HeldMessage). AreWatched others all resting c.watch_all.new.waits.items)
    (sym (c.settle_all.ensures.items ∙ c.forget_all.ensures.items))
    (subst (λ (waits : List Wait). AreWatched others items resting waits) (sym waits_are)
    (all_watched others items resting c.len.ensures.distinct server.«rising» settled))

pub invariant_of-self-2-clause-unreached : goal.invariant_of-self-2-clause-unreached
invariant_of-self-2-clause-unreached c =
    let server = c.args.self.now in
    let others = c.put_all.new.others.items in
    let items = server.held.items in
    let waits_are : c.watch_all.new.waits.items ≡ waits_of_all others items =
    c.watch_all.ensures
    ∙ (ap (λ (old : List Wait). old ++ waits_of_all c.as_slice-replicas.result.now items)
    (c.in_ok-reserve.ensures.items ∙ c.new-waits.ensures)
    ∙ ap (λ (replicas : List (Option Held)). waits_of_all replicas items) c.as_slice-replicas.ensures.value) in
    ap (list_all (is_unreached others)) waits_are ∙ all_unreached others items

pub settle_all-requires : goal.settle_all-requires
settle_all-requires c =
    none_noted c.as_slice-replicas.result.now c.forget_all.new.self.items c.forget_all.new.self.had
    c.forget_all.ensures.had

pub invariant_of-self-2-clause-had : goal.invariant_of-self-2-clause-had
invariant_of-self-2-clause-had c =
    none_noted c.put_all.new.others.items c.settle_all.new.held.items c.settle_all.new.held.had (λ packet.
    ap (noted packet) c.settle_all.ensures.had ∙ c.forget_all.ensures.had packet)
