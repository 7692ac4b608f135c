-- Logs that rise: where one of them stands, by halves.
use Rattle.std.proofs.Common.{◌≡◌, ◌≤◌, ◌+◌, ◌∙◌, ℕ, suc, zero, Bool, true, false, List, [], ◌∷◌, length, Option}
use Rattle.std.proofs.Common.{Some, None, refl, sym, ap, cond, arith, get_or}
use Rattle.std.specs.Prelude.{slice_get}
use Rattle.std.specs.List.{AllByRecursion, find, prefix_len}
use Rattle.std.specs.List.Sorted.{IsPartitionedBy, IsPartitionPoint}
use Rattle.std.proofs.lemmas.Bool.Decides.{nat_tests}
use Rattle.std.proofs.lemmas.List.Elements.{All-from_recursion}
use Rattle.std.proofs.lemmas.List.Sums.{prefix_len_is}
use Rattle.ftc_base.proofs.EachOf.{all-weaker}
use Rattle.ftc_message.specs.Logged.{Logged, logs_rise}
use Rattle.ftc_message.specs.Ordered.{is_earlier, is_before, is_log_of}
use Rattle.ftc_message.specs.OrderLaws.{earlier_is_order}
use Rattle.ftc_message.specs.Rises.{Rises}
use Rattle.ftc_message.proofs.InOrder.{transitive}
use Rattle.ftc_message.proofs.RiseLaws.{logs_by_order}

-- ---- those that stand before a log are the first ones

abbrev blank : Logged
blank = record { group = 0; origin = 0; before = []; changed = 0; writes = [] }

pub parted : (origin group : ℕ) (logs : List Logged) → Rises is_earlier logs →
    IsPartitionedBy (is_before origin group) logs
parted origin group [] rising i j d order within is = absurd (omega arith)
parted origin group (log ∷ logs) rising zero zero d order within is = is
parted origin group (log ∷ logs) rising zero (suc j) d order within is =
    transitive is_earlier earlier_is_order log (get_or logs j d) (record blank { origin = origin; group = group })
    (All-from_recursion (λ later. is_earlier log later ≡ true) logs rising.0 j d (omega arith)) is
parted origin group (log ∷ logs) rising (suc i) zero d order within is = absurd (omega arith)
parted origin group (log ∷ logs) rising (suc i) (suc j) d order within is =
    parted origin group logs rising.1 i j d (omega arith) (omega arith) is

pub point_is : (test : Logged → Bool) (logs : List Logged) (place : ℕ) → place ≤ length logs →
    IsPartitionPoint (λ log. test log ≡ true) (λ log. test log ≡ false) logs place → place ≡ prefix_len test logs
point_is test logs place within point =
    sym (prefix_len_is test logs place blank within (λ k below. point.0 k blank (omega arith) below)
    (λ inside. point.1 place blank (omega arith) inside))

-- ---- a log is found at its place

-- a log, where it is that of the packet and group
abbrev pub if_it : ℕ → ℕ → Option Logged → Option Logged
if_it origin group None = None
if_it origin group (Some log) = cond (is_log_of origin group log) (Some log) None

before_isnt : (origin group : ℕ) (log : Logged) → is_before origin group log ≡ true →
    is_log_of origin group log ≡ false
before_isnt origin group log is = grind (arith, nat_tests, is)

-- none is behind the first that doesn't stand before it
behind_isnt : (origin group : ℕ) (log other : Logged) → is_before origin group log ≡ false →
    is_log_of origin group log ≡ false → is_earlier log other ≡ true → is_log_of origin group other ≡ false
behind_isnt origin group log other isnt differs earlier = grind (arith, nat_tests, isnt, differs, earlier)

none_there : {A : Type 0} (test : A → Bool) (items : List A) → AllByRecursion (λ item. test item ≡ false) items →
    find test items ≡ None
none_there test [] none = refl
none_there {A} test (item ∷ items) none =
    ap (λ (b : Bool). cond b (Some item) (find test items)) none.0 ∙ none_there test items none.1

found_there : (origin group : ℕ) (logs : List Logged) → Rises is_earlier logs →
    find (is_log_of origin group) logs ≡ if_it origin group (slice_get logs (prefix_len (is_before origin group) logs))
found_there origin group [] rising = refl
found_there origin group (log ∷ logs) rising =
    let n = prefix_len (is_before origin group) logs in
    elim (is_before origin group log) as (λ t. is_before origin group log ≡ t →
    find (is_log_of origin group) (log ∷ logs) ≡ if_it origin group (slice_get (log ∷ logs) (cond t (1 + n) 0))) [
      | true ↦ λ is.
          let next : suc n ≡ 1 + n = omega arith in
          ap (λ (b : Bool). cond b (Some log) (find (is_log_of origin group) logs)) (before_isnt origin group log is)
          ∙ found_there origin group logs rising.1
          ∙ ap (λ (k : ℕ). if_it origin group (slice_get (log ∷ logs) k)) next
      | false ↦ λ isnt.
          elim (is_log_of origin group log) as (λ b. is_log_of origin group log ≡ b →
          cond b (Some log) (find (is_log_of origin group) logs) ≡ cond b (Some log) None) [
            | true ↦ λ _. refl
            | false ↦ λ differs. none_there (is_log_of origin group) logs
                (all-weaker _ _ (λ other. behind_isnt origin group log other isnt differs) logs rising.0)
          ] refl
    ] refl

pub found_by : (origin group place : ℕ) (items slice now : List Logged) (there : Option Logged) →
    logs_rise None items ≡ true → slice ≡ items → items ≡ now → place ≡ prefix_len (is_before origin group) slice →
    there ≡ slice_get slice place → if_it origin group there ≡ find (is_log_of origin group) now
found_by origin group place items slice now there rising same view at is =
    ap (if_it origin group) (is ∙ (ap (slice_get slice) at
    ∙ ap (λ (logs : List Logged). slice_get logs (prefix_len (is_before origin group) logs)) same))
    ∙ (sym (found_there origin group items (logs_by_order items rising)) ∙ ap (find (is_log_of origin group)) view)
