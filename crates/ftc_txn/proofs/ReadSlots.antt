-- What a read that is granted leaves of the slots.
use Rattle.std.proofs.Common.{◌≡◌, ◌≢◌, ℕ, Bool, true, false, cond, List, Option, Some, refl, ◌∙◌}
use Rattle.std.specs.Prelude.{slice_set, IfSome}
use Rattle.std.proofs.lemmas.Bool.{cond-true, cond-false, eq-eqb}
use Rattle.ftc_base.specs.declared.ask.Answer.{Answer}
use Rattle.ftc_base.specs.Sets.{has}
use Rattle.ftc_locks.specs.Locks.{Locks, conflicts}
use Rattle.ftc_txn.specs.Slots.{Running, slot_at, answered, wounded_by}
use Rattle.ftc_txn.proofs.Kept.{not_both, slot_within, slot_set, slot_other}

-- nobody is in its own way
pub conflicts_self : (locks : Locks) (worker partition : ℕ) (change : Bool) →
    conflicts locks worker partition change worker ≡ false
conflicts_self locks worker partition change = rw (eq-eqb worker worker refl) refl

-- a slot has one more answer, those that were in the way are wounded, and the others are as before
pub record AreReadSlots (old new : List (Option Running)) (worker : ℕ) (running : Running) (answer : Answer) (test : ℕ →
    Bool) : Type 0 where
  pub own : slot_at new worker ≡ Some (answered running answer)
  pub wounded : (other : ℕ) → test other ≡ true → slot_at new other ≡ wounded_by worker (slot_at old other)
  pub others : (other : ℕ) → other ≢ worker → test other ≡ false → slot_at new other ≡ slot_at old other

pub read_slots : (old mid new : List (Option Running)) (worker set : ℕ) (running : Running) (answer : Answer)
    (test : ℕ → Bool)
    → ((w : ℕ) → has set w ≡ test w) → test worker ≡ false → slot_at old worker ≡ Some running
    → ((w : ℕ) → slot_at mid w ≡ cond (has set w) (wounded_by worker (slot_at old w)) (slot_at old w))
    → IfSome (slot_at mid worker) (λ r. new ≡ slice_set mid worker (Some (answered r answer)))
    → AreReadSlots old new worker running answer test
read_slots old mid new worker set running answer test alike own runs wounds added =
    let mid_is : slot_at mid worker ≡ Some running = wounds worker ∙ cond-false _ _ _ (alike worker ∙ own) ∙ runs in
    let new_is = rw mid_is at added in
    record {
      own = rw new_is (slot_set mid worker (Some (answered running answer)) (slot_within mid worker running mid_is));
      wounded = λ other is.
          let differs : other ≢ worker = λ same. not_both (test worker) own (rw (← same) is) in
          rw new_is (slot_other mid worker other
          (Some (answered running answer)) differs) ∙ wounds other ∙ cond-true _ _ _ (alike other ∙ is);
      others = λ other differs isnt. rw new_is
          (slot_other mid worker other (Some (answered running answer)) differs) ∙ wounds other ∙ cond-false _ _ _
          (alike other ∙ isnt);
    }
