-- Logs that are left where others among them are dropped.
use Rattle.std.proofs.Common.{◌≡◌, ◌≤◌, ◌<◌, ◌∙◌, append-nil, ◌+◌, ℕ, zero, suc, Bool, true, false, not, List}
use Rattle.std.proofs.Common.{[], ◌∷◌, ◌++◌, length, get_or, take, filter, Option, Some, None, refl, sym, ap, arith}
use Rattle.std.specs.Prelude.{IfSome, if◌then◌else◌, slice_get}
use Rattle.std.proofs.lemmas.List.Elements.{filter-append, filter_more}
use Rattle.std.proofs.lemmas.List.Sums.{length-filter, count_by-le-length}
use Rattle.ftc_vector.specs.Vector.{need_of}
use Rattle.ftc_vector.specs.Order.{IsBelow}
use Rattle.ftc_vector.proofs.Needs.{covered_above}
use Rattle.ftc_vector.proofs.OrderTests.{covered}
use Rattle.ftc_message.specs.Logged.{Logged}
use Rattle.ftc_replica.specs.Kept.{covers_log, missing, is_dropped, left}

-- what a vector covers a greater one covers
pub covers_above : (vector other : List ℕ) → IsBelow vector other → (log : Logged)
    → covers_log vector log ≡ true → covers_log other log ≡ true
covers_above vector other below log is =
    let need = need_of log.before log.changed in
    (covered other need).1 (covered_above vector other need below ((covered vector need).0 is))

-- so nothing more is missing where a vector below it dropped some before
pub missing_above : (vector other : List ℕ) → IsBelow vector other → (logs : List Logged)
    → missing other (missing vector logs) ≡ missing other logs
missing_above vector other below [] = refl
missing_above vector other below (log ∷ logs) =
    let left = missing vector logs in
    elim (covers_log vector log) as (λ t. covers_log vector log ≡ t
    → missing other (if not t then log ∷ left else left) ≡ missing other (log ∷ logs)) [
      | true ↦ λ is. rw (covers_above vector other below log is) (missing_above vector other below logs)
      | false ↦ λ is.
          elim (covers_log other log) as (λ t. (if not t then log ∷ missing other left else missing other left)
          ≡ (if not t then log ∷ missing other logs else missing other logs)) [
            | true ↦ missing_above vector other below logs
            | false ↦ ap (λ (rest : List Logged). log ∷ rest) (missing_above vector other below logs)
          ]
    ] refl

-- what was dropped by a vector isn't dropped by it once more
pub missing_twice : (vector : List ℕ) (logs : List Logged) → missing vector (missing vector logs) ≡ missing vector logs
missing_twice vector logs = missing_above vector vector (record { each = λ partition within. omega arith }) logs

-- where the logs weren't pruned, all are left
pub left_none : (logs : List Logged) → left None logs ≡ logs
left_none [] = refl
left_none (log ∷ logs) = ap (λ (rest : List Logged). log ∷ rest) (left_none logs)

-- a vector that covers all that is dropped finds the same missing among all logs and among those that are left
pub missing_left : (pruned : Option (List ℕ)) (commit : List ℕ) (logs : List Logged)
    → IfSome pruned (λ vector. IsBelow vector commit) → missing commit (left pruned logs) ≡ missing commit logs
missing_left None commit logs below = ap (missing commit) (left_none logs)
missing_left (Some vector) commit logs below = missing_above vector commit below logs

-- no more are left than there were
pub left_few : (pruned : Option (List ℕ)) (logs : List Logged) → length (left pruned logs) ≤ length logs
left_few pruned logs =
    let test : Logged → Bool = λ log. not (is_dropped pruned log) in
    omega (arith, length-filter test logs, count_by-le-length test logs)

-- a log that isn't dropped is left behind the others
pub left_added : (pruned : Option (List ℕ)) (logs : List Logged) (log : Logged) → is_dropped pruned log ≡ false
    → left pruned (logs ++ log ∷ []) ≡ left pruned logs ++ log ∷ []
left_added pruned logs log stays =
    filter-append (λ log. not (is_dropped pruned log)) logs (log ∷ []) ∙ rw stays refl

-- of the elements that pass a test, one that has so many of them in front of it is the one with that number
pub passed_at : {A : Type 0} (test : A → Bool) (items : List A) (place : ℕ) (other : A) → place < length items
    → test (get_or items place other) ≡ true
    → slice_get (filter test items) (length (filter test (take place items))) ≡ slice_get items place
passed_at test [] place other within passes = absurd (omega arith)
passed_at test (item ∷ items) zero other within passes = rw passes refl
passed_at {A} test (item ∷ items) (suc place) other within passes =
    let rest = passed_at test items place other (omega (arith, within)) passes in
    let all = filter test items in
    let so_far = filter test (take place items) in
    elim (test item) as (λ t. slice_get (if t then item ∷ all else all) (length (if t then item ∷ so_far else so_far))
    ≡ slice_get items place) [
      | true ↦ rest
      | false ↦ rest
    ]

-- the next log is left behind those so far, or isn't
pub left_one_more : (pruned : Option (List ℕ)) (logs : List Logged) (place : ℕ) (log : Logged) (so_far : List Logged)
    → place < length logs → log ≡ get_or logs place log → is_dropped pruned log ≡ false
    → so_far ≡ left pruned (take place logs) → so_far ++ log ∷ [] ≡ left pruned (take (place + 1) logs)
left_one_more pruned logs place log so_far within is stays before =
    let test : Logged → Bool = λ log. not (is_dropped pruned log) in
    let kept : test (get_or logs place log) ≡ true = ap test (sym is) ∙ ap not stays in
    sym (filter_more test logs place log within ∙ rw (← before, kept, ← is) refl)

pub left_no_more : (pruned : Option (List ℕ)) (logs : List Logged) (place : ℕ) (log : Logged) (so_far : List Logged)
    → place < length logs → log ≡ get_or logs place log → is_dropped pruned log ≡ true
    → so_far ≡ left pruned (take place logs) → so_far ≡ left pruned (take (place + 1) logs)
left_no_more pruned logs place log so_far within is dropped before =
    let test : Logged → Bool = λ log. not (is_dropped pruned log) in
    let kept : test (get_or logs place log) ≡ false = ap test (sym is) ∙ ap not dropped in
    sym (filter_more test logs place log within ∙ rw (← before, kept) (append-nil so_far))
