-- A key that was read with leave to change it may be written.
use Rattle.std.proofs.Common.{◌≡◌, ℕ, true, List, [], ◌∷◌, Option, refl, sym, ap, ◌∙◌, inl, inr}
use Rattle.std.specs.Prelude.{◌==◌}
use Rattle.std.proofs.lemmas.Bool.{or_cases, eqb-true}
use Rattle.std.proofs.lemmas.List.Quantifiers.{Any-push}
use Rattle.ftc_base.specs.declared.ask.Answer.{Answer}
use Rattle.ftc_base.specs.declared.ask.Write.{Write}
use Rattle.ftc_base.specs.Partition.{partition_of}
use Rattle.ftc_txn.specs.Slots.{Running, slot_at, answered}
use Rattle.ftc_txn.specs.Touched.{is_changed}
use Rattle.ftc_txn.specs.Head.{HeadState, RunsUnwounded, AreItsWrites}
use Rattle.ftc_txn.specs.Steps.{HasHeadRead}
use Rattle.ftc_txn.proofs.Kept.{not_both}
use Rattle.ftc_txn.proofs.KeptByCalls.{some_of}
use Rattle.ftc_txn.proofs.TouchedLists.{changed_none, changed_cases}

pub may_write : (old new : HeadState) (worker : ℕ) (before running : Running) (key : List ℕ)
    (value written : Option (List ℕ)) → HasHeadRead old new worker before key true value →
    RunsUnwounded new worker running → AreItsWrites new worker running ((record { key = key; value = written }) ∷ [])
may_write old new worker before running key value written read runs =
    let answer : Answer = record { key = key; value = value } in
    let same : answered before answer ≡ running =
    some_of (slot_at new.slots worker) (answered before answer) running read.answered runs.slot in
    let partitions : new.partitions ≡ old.partitions = ap (λ (h : HeadState). h.partitions) read.rest in
    record {
      rising = refl;
      were_read = (
        rw (← ap (λ (r : Running). r.answers) same)
            (Any-push (λ (a : Answer). a.key ≡ key) before.answers answer refl),
        tt,
      );
      exclusive = (rw partitions read.locks.exclusive, tt);
    }

-- one write changes its key's partition alone
pub changed_one : (partitions : ℕ) (write : Write) (partition : ℕ) →
    is_changed partitions (write ∷ []) partition ≡ true → partition ≡ partition_of partitions write.key
changed_one partitions write partition is =
    elim (or_cases (partition == partition_of partitions write.key) (is_changed partitions [] partition)
    (sym (changed_cases partitions write [] partition) ∙ is)) [
      | inl same ↦ eqb-true partition (partition_of partitions write.key) same
      | inr later ↦ not_both (is_changed partitions [] partition) (changed_none partitions partition) later
    ]
