use Rattle.std.proofs.Common.{◌≡◌, ◌<◌, ◌≤◌, ◌∙◌, ◌++◌, ◌∷◌, ◌+◌, ℕ, List, drop, length, false, sym, ap, subst, arith}
use Rattle.std.proofs.Common.{nat_cmp, append-nil, drop_of_length-le}
use Rattle.std.specs.BTreeMap.{is_at}
use Rattle.std.specs.BTreeSet.{BTreeSet, contains}
use Rattle.std.specs.List.{list_any}
use Rattle.ftc_journal.specs.declared.event.VisitName.{VisitName}
use Rattle.ftc_visits.specs.declared.visit.MadeVisit.{MadeVisit}
use Rattle.ftc_visits.specs.Made.{MadeVisitList}
use Rattle.ftc_visits.specs.Undoing.{undone_from, is_undone_alone}
use Rattle.ftc_visits.proofs.Passing.{drop_read, one_undone, one_left, more_packets}
use Rattle.ftc_visits.proofs.visits.MadeVisits.undone_between.Goals as goal
use Rattle.ftc_visits.proofs.visits.MadeVisits.undone_between.Goals.{then-is_undone+in_ok-insert+in_ok-push}
use Rattle.ftc_visits.proofs.visits.MadeVisits.undone_between.Goals.{else-is_undone}

pub loop-place-init : goal.loop-place-init
loop-place-init c =
    let alone = is_undone_alone c.args.previous c.args.following.now in
    let items = c.args.self.now.items in
    ap (λ (names : List VisitName). names ++ undone_from alone (contains nat_cmp c.new-packets.result) items)
    c.new-names.ensures
    ∙ ap (λ (keys : List ℕ). undone_from alone (λ packet. list_any (is_at (nat_cmp packet)) keys) items)
    c.new-packets.ensures.empty

pub loop-place-preserved : goal.loop-place-preserved
loop-place-preserved c =
    let alone = is_undone_alone c.args.previous c.args.following.now in
    let items = c.args.self.now.items in
    let visit = c.index-visit.result.now in
    let place = c.loop-place.place in
    let whole = undone_from alone (λ packet. false) items in
    let items_are = ap (λ (list : MadeVisitList). list.items) c.self.view_is in
    let inside : c.loop-place.place < length c.self.inside.visits.items = omega (arith, c.self.inside.visits.ok) in
    let dropped = subst (λ (list : List MadeVisit). drop place list ≡ visit ∷ drop (place + 1) list) items_are
    (drop_read c.self.inside.visits.items place visit inside c.index-visit.ensures) in
    elim c.if-is_undone.branch [
      | then-is_undone+in_ok-insert+in_ok-push w ↦
          ap (λ (names : List VisitName). names ++ undone_from alone (contains nat_cmp c.if-is_undone.packets)
          (drop (place + 1) items))
          (w.names-is ∙ w.in_ok-push.ensures.ok)
          ∙ one_undone alone whole c.loop-place.names (contains nat_cmp c.loop-place.packets) items place visit dropped
          c.loop-place.invariant (contains nat_cmp c.if-is_undone.packets)
          (λ packet. ap (λ (packets : BTreeSet ℕ). contains nat_cmp packets packet) w.packets-is
          ∙ more_packets c.loop-place.packets w.insert.new.self visit.packet w.in_ok-insert.ensures.updates.0 packet)
          (sym c.is_undone.ensures ∙ w.if-is_undone.true)
      | else-is_undone w ↦
          ap (λ (names : List VisitName). names ++ undone_from alone (contains nat_cmp c.if-is_undone.packets)
          (drop (place + 1) items)) w.names-is
          ∙ (ap (λ (packets : BTreeSet ℕ). c.loop-place.names ++ undone_from alone (contains nat_cmp packets)
          (drop (place + 1) items)) w.packets-is
          ∙ one_left alone whole c.loop-place.names (contains nat_cmp c.loop-place.packets) items place visit dropped
          c.loop-place.invariant (sym c.is_undone.ensures ∙ w.if-is_undone.false))
    ]

pub returns : goal.returns
returns c =
    let alone = is_undone_alone c.args.previous c.args.following.now in
    let items_are = ap (λ (list : MadeVisitList). list.items) c.self.view_is in
    let past : length c.self.inside.visits.items ≤ c.loop-place.place = omega (arith, c.self.inside.visits.ok) in
    let none = drop_of_length-le c.args.self.now.items
    (subst (λ (list : List MadeVisit). length list ≤ c.loop-place.place) items_are past) in
    sym (append-nil c.loop-place.names)
    ∙ (ap (λ (list : List MadeVisit). c.loop-place.names ++ undone_from alone
    (contains nat_cmp c.loop-place.packets) list) (sym none)
    ∙ c.loop-place.invariant)
