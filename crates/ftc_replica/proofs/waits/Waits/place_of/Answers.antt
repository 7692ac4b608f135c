use Rattle.std.proofs.Common.{rules, ◌∙◌, nat_lt, sym, ap, arith}
use Rattle.std.specs.List.{position}
use Rattle.std.proofs.lemmas.Bool.Decides.{nat_tests}
use Rattle.std.proofs.lemmas.List.Sorted.{IsPartitionedBy-ltb, IsPartitionPoint-from_clause}
use Rattle.ftc_replica.specs.Waiting.{waits_for, WaitList}
use Rattle.ftc_replica.specs.declared.waits.Ticketed.{Ticketed}
use Rattle.ftc_replica.proofs.Tickets.{none_noted, none_lower, place_of_wait, rising}
use Rattle.ftc_replica.proofs.waits.Waits.place_of.Goals as goal

pub returns-in_err-from : goal.returns-in_err-from
returns-in_err-from c =
    let sought = waits_for c.args.number.now.group c.args.number.now.partition c.args.number.now.number in
    let inside = c.self.inside in
    let none = none_noted inside.held.items inside.next inside.is_noted inside.numbers.entries c.args.number.now
    c.self.invariant (sym c.in_err-from.ensures) in
    c.from_residual.ensures ∙ sym none ∙ sym (place_of_wait sought inside.held.items)
    ∙ ap (λ (waits : WaitList). position sought waits.items) c.self.view_is

pub place_behind-requires : goal.place_behind-requires
place_behind-requires c = λ place other less.
    let inside = c.self.inside in
    let items = inside.held.items in
    let from = c.in_ok-from.from in
    let lower = none_lower items inside.next inside.is_noted inside.numbers.entries c.args.number.now from
    c.self.invariant (sym c.in_ok-from.ensures) in
    let parted = IsPartitionedBy-ltb (λ (one : Ticketed). one.ticket) items from (rising items c.self.invariant.rise) in
    let point = IsPartitionPoint-from_clause (λ (one : Ticketed). nat_lt one.ticket from) _ _
    c.partition_point-start.ensures.partitioned parted (λ a r q k. search rules) in
    let low = point.0 place other (omega arith) less in
    lower place other (omega (arith, less, c.partition_point-start.ensures.bound, inside.held.ok.0))
    (grind (arith, nat_tests, low))

pub returns : goal.returns
returns c =
    let sought = waits_for c.args.number.now.group c.args.number.now.partition c.args.number.now.number in
    c.place_behind.ensures ∙ sym (place_of_wait sought c.self.inside.held.items)
    ∙ ap (λ (waits : WaitList). position sought waits.items) c.self.view_is
