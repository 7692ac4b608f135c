use Rattle.std.proofs.Common.{◌≡◌, ℕ, Bool, ◌∙◌, refl}
use Rattle.ftc_base.specs.declared.ask.Answer.{Answer}
use Rattle.ftc_base.specs.Partition.{partition_of}
use Rattle.ftc_locks.specs.Locks.{conflicts}
use Rattle.ftc_txn.specs.Slots.{Running}
use Rattle.ftc_txn.specs.Head.{HeadState, RunsUnwounded}
use Rattle.ftc_txn.specs.Steps.{IsGranted, HasHeadRead}
use Rattle.ftc_txn.specs.contracts.head.Head.{the_view}
use Rattle.ftc_txn.proofs.Kept.{ages_differ}
use Rattle.ftc_txn.proofs.KeptByCalls.{read_keeps}
use Rattle.ftc_txn.proofs.ReadSlots.{conflicts_self, AreReadSlots, read_slots}
use Rattle.ftc_txn.proofs.head.Head.read_unwounded.Goals as goal

pub acquire-requires-clause-age_differs : goal.acquire-requires-clause-age_differs
acquire-requires-clause-age_differs c = λ other p differs held.
    let runs = rw (← c.self.view_is) at c.requires in
    rw (← runs.2) (ages_differ
    (the_view c.self.inside) c.args.worker runs.0 c.self.invariant.2 runs.1.slot other p differs held)

-- the head after the read
abbrev after : goal.After-add → HeadState
after c = record {
  group = c.self.inside.group;
  content = c.self.inside.store.content;
  partitions = c.self.inside.partitions;
  vector = c.self.inside.vector;
  locks = c.acquire.new.self;
  slots =
      c.add.new.self;
  last = c.self.inside.last;
}

has_read : (c : goal.After-add) → (running : Running) × RunsUnwounded (the_view c.self.inside) c.args.worker running
    × HasHeadRead (the_view c.self.inside) (after c) c.args.worker running c.args.key.now c.args.change
    c.get-value.result
has_read c =
    let runs = rw (← c.self.view_is) at c.requires in
    let place : c.partition_of-partition.result ≡ partition_of c.self.inside.partitions c.args.key.now =
    c.partition_of-partition.ensures.same in
    let test : ℕ → Bool = λ other. conflicts c.self.inside.locks c.args.worker c.partition_of-partition.result
    c.args.change other in
    let granted : IsGranted c.self.inside.locks c.acquire.new.self c.args.worker c.args.age
    c.partition_of-partition.result c.args.change = record {
      younger = c.in-Granted.ensures.granted;
      held = c.in-Granted.ensures.held;
      exclusive = c.in-Granted.ensures.exclusive;
      with_age = c.in-Granted.ensures.age;
      own = c.in-Granted.ensures.own;
      wounded = λ other is. c.in-Granted.ensures.freed other (c.in-Granted.ensures.wounded other ∙ is);
      others = λ other differs isnt. c.in-Granted.ensures.others other differs
          (c.in-Granted.ensures.wounded other ∙ isnt);
      partitions = c.in-Granted.ensures.partitions;
    } in
    let answer : Answer = record { key = c.args.key.now; value = c.get-value.result } in
    let slots : AreReadSlots c.self.inside.slots c.add.new.self c.args.worker runs.0 answer test =
    read_slots c.self.inside.slots c.wound_each.new.self c.add.new.self c.args.worker c.in-Granted.wounded runs.0 answer
    test c.in-Granted.ensures.wounded
    (conflicts_self c.self.inside.locks c.args.worker c.partition_of-partition.result c.args.change) runs.1.slot
    c.wound_each.ensures c.add.ensures in (
      runs.0,
      runs.1,
      record {
        read = c.get-value.ensures;
        locks = rw (← place, runs.2) granted;
        answered = slots.own;
        wounded = rw (← place) slots.wounded;
        others = rw (← place) slots.others;
        rest = refl;
      },
    )

pub returns-in-Granted : goal.returns-in-Granted
returns-in-Granted c = rw (← c.self.view_is) (has_read c)

pub invariant_of-self-in-Granted : goal.invariant_of-self-in-Granted
invariant_of-self-in-Granted c =
    let read = has_read c in (
      c.self.invariant.0,
      c.in-Granted.ensures.partitions ∙ c.self.invariant.1,
      read_keeps (the_view c.self.inside)
          (after c) c.args.worker read.0 c.args.key.now c.args.change c.get-value.result c.self.invariant.2 read.1
          read.2,
    )
