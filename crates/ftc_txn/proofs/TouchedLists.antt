-- The partitions of one more key, and that what is changed is touched.
use Rattle.std.proofs.Common.{◌≡◌, ◌<◌, ◌≤◌, ◌+◌, ℕ, Bool, cond, Some, None, true, false, List, [], ◌∷◌, length, take}
use Rattle.std.proofs.Common.{get_or, refl, sym, ap, ◌∙◌, inl, inr, arith}
use Rattle.std.specs.Prelude.{◌==◌, ◌||◌, IsSome}
use Rattle.std.specs.List.{AllByRecursion, list_any}
use Rattle.std.proofs.lemmas.Bool.{eqb-true, eq-eqb, or_cases}
use Rattle.std.proofs.lemmas.List.{take_more}
use Rattle.std.proofs.lemmas.List.Folds.{list_any-append, list_any_at}
use Rattle.ftc_base.specs.declared.ask.Answer.{Answer}
use Rattle.ftc_base.specs.declared.ask.Write.{Write}
use Rattle.ftc_base.specs.Partition.{partition_of}
use Rattle.ftc_base.specs.Sets.{has}
use Rattle.ftc_base.specs.declared.limits.TheConstants.{MOST_PARTITIONS}
use Rattle.ftc_vector.specs.Vector.{number_at, mark_at, raised, marks_of}
use Rattle.ftc_vector.proofs.Partitions.{get_or-by_partition, by_partition-same}
use Rattle.ftc_txn.specs.Touched.{is_touched, is_changed, vector_after, numbers_before}
use Rattle.ftc_txn.specs.Head.{IsAnswered}

either : (a b : Bool) → (a || (b || false)) ≡ (b || a)
either true true = refl
either true false = refl
either false true = refl
either false false = refl

any_more : {X : Type 0} (p : X → Bool) (xs : List X) (i : ℕ) (x : X) → i < length xs → get_or xs i x ≡ x →
    list_any p (take (i + 1) xs) ≡ (p x || list_any p (take i xs))
any_more p xs i x within is =
    rw (
      take_more xs i x within,
      list_any-append p (take i xs) (get_or xs i x ∷ []),
      is,
    ) (either (list_any p (take i xs)) (p x))

pub touched_none : (partitions partition : ℕ) → is_touched partitions [] partition ≡ false
unfolding is_touched
touched_none partitions partition = refl

pub changed_none : (partitions partition : ℕ) → is_changed partitions [] partition ≡ false
unfolding is_changed
changed_none partitions partition = refl

pub touched_more : (partitions : ℕ) (answers : List Answer) (i : ℕ) (answer : Answer) (partition : ℕ) →
    i < length answers → get_or answers i answer ≡ answer →
    is_touched partitions (take (i + 1) answers) partition
    ≡ (partition == partition_of partitions answer.key || is_touched partitions (take i answers) partition)
unfolding is_touched
touched_more partitions answers i answer partition within is =
    any_more (λ (a : Answer). partition == partition_of partitions a.key) answers i answer within is

pub changed_more : (partitions : ℕ) (writes : List Write) (i : ℕ) (write : Write) (partition : ℕ) → i < length writes →
    get_or writes i write ≡ write →
    is_changed partitions (take (i + 1) writes) partition
    ≡ (partition == partition_of partitions write.key || is_changed partitions (take i writes) partition)
unfolding is_changed
changed_more partitions writes i write partition within is =
    any_more (λ (w : Write). partition == partition_of partitions w.key) writes i write within is

touched_by_key : (partitions : ℕ) (answers : List Answer) (key : List ℕ) → IsAnswered key answers →
    is_touched partitions answers (partition_of partitions key) ≡ true
unfolding is_touched
touched_by_key partitions answers key found =
    list_any_at (λ (a : Answer). partition_of partitions key == partition_of partitions a.key) answers found.0 found.1
    found.2
    (rw (found.3, found.4) (eq-eqb (partition_of partitions key) (partition_of partitions key) refl))

pub changed_cases : (partitions : ℕ) (write : Write) (writes : List Write) (partition : ℕ) →
    is_changed partitions (write ∷ writes) partition
    ≡ ((partition == partition_of partitions write.key) || is_changed partitions writes partition)
unfolding is_changed
changed_cases partitions write writes partition = refl

-- a partition that is changed is touched, where each key that is written was read
pub changed_is_touched : (partitions : ℕ) (answers : List Answer) (writes : List Write) (partition : ℕ) →
    AllByRecursion (λ write. IsAnswered write.key answers) writes → is_changed partitions writes partition ≡ true →
    is_touched partitions answers partition ≡ true
changed_is_touched partitions answers [] partition read is =
    absurd (let no : false ≡ true = sym (changed_none partitions partition) ∙ is in cc)
changed_is_touched partitions answers (write ∷ writes) partition read is =
    elim (or_cases (partition == partition_of partitions write.key) (is_changed partitions writes partition)
    (sym (changed_cases partitions write writes partition) ∙ is)) [
      | inl same ↦ rw (eqb-true partition (partition_of partitions write.key) same)
          (touched_by_key partitions answers write.key read.0)
      | inr later ↦ changed_is_touched partitions answers writes partition read.1 later
    ]

-- only a partition of the count is changed
pub changed_within : (partitions : ℕ) (writes : List Write) (partition : ℕ) → 1 ≤ partitions →
    is_changed partitions writes partition ≡ true → partition < partitions
changed_within partitions [] partition some is =
    absurd (let no : false ≡ true = sym (changed_none partitions partition) ∙ is in cc)
changed_within partitions (write ∷ writes) partition some is =
    elim (or_cases (partition == partition_of partitions write.key) (is_changed partitions writes partition)
    (sym (changed_cases partitions write writes partition) ∙ is)) [
      | inl same ↦ rw (eqb-true partition (partition_of partitions write.key) same) (omega arith)
      | inr later ↦ changed_within partitions writes partition some later
    ]

-- raising the changed partitions of a set, where it has those that the writes change
pub raised_is_after : (partitions : ℕ) (writes : List Write) (vector : List ℕ) (changed : ℕ) →
    ((p : ℕ) → has changed p ≡ is_changed partitions writes p) →
    raised vector changed ≡ vector_after partitions writes vector
raised_is_after partitions writes vector changed alike =
    by_partition-same _ _ 0 (λ p within. ap (λ (b : Bool). cond b (number_at vector p + 1) (number_at vector p))
    (alike p))

pub marks_are_before : (partitions : ℕ) (answers : List Answer) (vector : List ℕ) (touched : ℕ) →
    ((p : ℕ) → has touched p ≡ is_touched partitions answers p) →
    marks_of vector touched ≡ numbers_before partitions answers vector
marks_are_before partitions answers vector touched alike =
    by_partition-same _ _ None (λ p within. ap (λ (b : Bool). cond b (Some (number_at vector p)) None) (alike p))

-- each changed partition has its number among those before
pub changed_is_marked : (partitions : ℕ) (answers : List Answer) (writes : List Write) (vector : List ℕ)
    (touched changed : ℕ) → 1 ≤ partitions → partitions ≤ MOST_PARTITIONS →
    AllByRecursion (λ write. IsAnswered write.key answers) writes →
    ((p : ℕ) → has touched p ≡ is_touched partitions answers p) →
    ((p : ℕ) → has changed p ≡ is_changed partitions writes p) → (p : ℕ) → has changed p ≡ true →
    IsSome (mark_at (marks_of vector touched) p)
changed_is_marked partitions answers writes vector touched changed some within read are_touched are_changed p is =
    let is_in : is_changed partitions writes p ≡ true = sym (are_changed p) ∙ is in
    let below : p < MOST_PARTITIONS = omega (arith, changed_within partitions writes p some is_in) in
    let found : has touched p ≡ true = are_touched p ∙ changed_is_touched partitions answers writes p read is_in in
    rw (
      get_or-by_partition (λ partition. cond (has touched partition)
          (Some (number_at vector partition)) None) p None below,
      found,
    ) refl
