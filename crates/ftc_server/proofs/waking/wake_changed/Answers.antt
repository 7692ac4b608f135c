use Rattle.std.proofs.Common.{◌≡◌, ◌+◌, ◌∙◌, ℕ, List, Option, true, false, sym, subst, arith}
use Rattle.std.specs.List.{list_all}
use Rattle.ftc_base.specs.Sets.{has}
use Rattle.ftc_replica.specs.Held.{Held}
use Rattle.ftc_replica.specs.Waiting.{WaitList}
use Rattle.ftc_server.specs.Holding.{Holding}
use Rattle.ftc_server.specs.Waiting.{AreWatched, is_due}
use Rattle.ftc_server.proofs.Due.{due_next, due_skipped, all_woken}
use Rattle.ftc_server.proofs.waking.wake_changed.Goals.{then-has, else-has}
use Rattle.ftc_server.proofs.waking.wake_changed.Goals as goal

abbrev IsHere : Holding → List (Option Held) → ℕ → ℕ → ℕ → Holding → WaitList → Type 0
IsHere first replicas group changed from held waits = record {
  watched : AreWatched replicas held.items held.resting waits.items;
  items : held.items ≡ first.items;
  spare : held.spare ≡ first.spare;
  had : held.had ≡ first.had;
  due : list_all (is_due replicas group changed from) waits.items ≡ true;
}

pair_is : (a b : Holding) (x y : WaitList) → a ≡ b → x ≡ y → ◌≡◌ {A = Holding × WaitList} (a, x) (b, y)
pair_is a b x y first second = cc

pub loop-partition-preserved : goal.loop-partition-preserved
loop-partition-preserved c =
    let inv = c.loop-partition.invariant in
    let replicas = c.args.replicas.now in
    let from = c.loop-partition.partition in
    let group = c.args.group in
    let changed = c.args.changed in
    elim c.if-has.branch [
      | then-has w ↦
          let waits = w.wake_all.new.waits in
          let held = w.wake_all.new.held in
          subst (λ (now : Holding × WaitList). IsHere c.args.held.now replicas group changed (from + 1) now.0 now.1)
          (sym (pair_is c.if-has.held held c.if-has.waits waits w.held-is w.waits-is))
          (record {
            watched = w.wake_all.ensures.watched;
            items = w.wake_all.ensures.items ∙ inv.items;
            spare = w.wake_all.ensures.spare ∙ inv.spare;
            had = w.wake_all.ensures.had ∙ inv.had;
            due = due_next replicas group changed from w.number_of-number.result c.loop-partition.waits.items
                waits.items w.wake_all.ensures.others w.number_of-number.ensures w.wake_all.ensures.none inv.due;
          })
      | else-has w ↦
          let isnt : has changed from ≡ false = sym c.has.ensures ∙ w.if-has.false in
          subst (λ (now : Holding × WaitList). IsHere c.args.held.now replicas group changed (from + 1) now.0 now.1)
          (sym (pair_is c.if-has.held c.loop-partition.held c.if-has.waits c.loop-partition.waits w.held-is w.waits-is))
          (record {
            watched = inv.watched;
            items = inv.items;
            spare = inv.spare;
            had = inv.had;
            due = due_skipped replicas group changed from c.loop-partition.waits.items isnt inv.due;
          })
    ]

pub returns-clause-unreached : goal.returns-clause-unreached
returns-clause-unreached c =
    all_woken c.args.replicas.now c.args.group c.args.changed c.loop-partition.partition c.loop-partition.waits.items
    (omega (arith, c.loop-partition-test.false)) c.loop-partition.invariant.due
