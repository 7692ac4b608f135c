-- A table in which a worker was granted a partition.
use Rattle.std.proofs.Common.{◌≡◌, ◌≢◌, ◌<◌, ℕ, Bool, true, false, length, arith, sym, ◌∙◌, inl, inr}
use Rattle.std.specs.Prelude.{◌||◌, ◌&&◌, ◌==◌}
use Rattle.std.proofs.lemmas.Bool.{cases_eq}
use Rattle.ftc_base.specs.declared.limits.TheConstants.{MOST_SLOTS}
use Rattle.ftc_locks.specs.Locks.{Locks, holds, holds_exclusively, age_of, conflicts, IsLockTable}

-- where nobody else's holding conflicts, and no other holder has that age, it is a lock table still
pub granted-valid : (old new : Locks) (worker age partition : ℕ) (change : Bool) → IsLockTable old →
    partition < old.partitions →
    ((other : ℕ) → conflicts old worker partition change other ≡ false) →
    ((other p : ℕ) → other ≢ worker → holds old other p ≡ true → age_of old other ≢ age) →
    length new.held ≡ MOST_SLOTS → length new.exclusive ≡ MOST_SLOTS → length new.ages ≡ MOST_SLOTS →
    new.partitions ≡ old.partitions →
    ((w p : ℕ) → holds new w p ≡ (w == worker && p == partition || holds old w p)) →
    ((w p : ℕ) → holds_exclusively new w p ≡
    (w == worker && p == partition && change || holds_exclusively old w p)) →
    age_of new worker ≡ age → ((other : ℕ) → other ≢ worker → age_of new other ≡ age_of old other) → IsLockTable new
granted-valid old new worker age partition change valid within free differs held_size exclusive_size ages_size count
    held exclusive own_age ages = record {
      some = rw count valid.some;
      within = rw count valid.within;
      held_size = held_size;
      exclusive_size = exclusive_size;
      ages_size = ages_size;
      partitions = λ w p is. grind (arith, valid.partitions, held);
      held = λ w p is. grind (arith, valid.held, held, exclusive);
      alone = λ w other p is also. elim (cases_eq w worker) [
        | inl own ↦ elim (cases_eq other worker) [
          | inl same ↦ same ∙ sym own
          | inr apart ↦ grind (arith, valid.alone w other p, free other, held other p, exclusive w p)
        ]
        | inr apart ↦ grind (arith, valid.alone w other p, valid.held w p, free w, held other p, exclusive w p)
      ];
      ages = λ w other p q apart is also. grind (arith, valid.ages, differs, held, ages);
    }
