-- Logs that rise: each is found by its packet and group.
use Rattle.std.proofs.Common.{◌≡◌, ◌≤◌, ◌∙◌, ◌||◌, ℕ, Bool, true, false, List, [], ◌∷◌, Option, Some, None, length}
use Rattle.std.proofs.Common.{refl, ap, cond, subst, arith}
use Rattle.std.specs.Prelude.{◌==◌, find, filter}
use Rattle.std.specs.List.{list_all, list_any}
use Rattle.std.proofs.lemmas.Bool.{eqb-true, and_parts}
use Rattle.std.proofs.lemmas.Bool.Decides.{nat_tests}
use Rattle.ftc_message.specs.Logged.{Logged, log_follows, logs_rise}
use Rattle.ftc_message.specs.Ordered.{is_log_of}
use Rattle.ftc_server.proofs.Finding.{and_both, passes_found}
use Rattle.ftc_server.proofs.NextLog.{goes_on, another, is_itself}

-- a log behind another is another
follows_other : (first log : Logged) → log_follows (Some (first.origin, first.group)) log.origin log.group ≡ true →
    is_log_of log.origin log.group first ≡ false
follows_other first log later = another first log later

through : (last : Option (ℕ × ℕ)) (first : Logged) (logs : List Logged) →
    log_follows last first.origin first.group ≡ true →
    list_all (λ (log : Logged). log_follows (Some (first.origin, first.group)) log.origin log.group) logs ≡ true →
    list_all (λ (log : Logged). log_follows last log.origin log.group) logs ≡ true
through last first [] follows all = refl
through last first (log ∷ logs) follows all =
    let parts = and_parts (log_follows (Some (first.origin, first.group)) log.origin log.group)
    (list_all (λ (l : Logged). log_follows (Some (first.origin, first.group)) l.origin l.group) logs) all in
    and_both (log_follows last log.origin log.group)
    (list_all (λ (l : Logged). log_follows last l.origin l.group) logs)
    (goes_on last first log follows parts.0) (through last first logs follows parts.1)

-- each of the logs behind one follows it
all_follow : (last : Option (ℕ × ℕ)) (logs : List Logged) → logs_rise last logs ≡ true →
    list_all (λ (log : Logged). log_follows last log.origin log.group) logs ≡ true
all_follow last [] rising = refl
all_follow last (first ∷ logs) rising =
    let parts = and_parts (log_follows last first.origin first.group)
    (logs_rise (Some (first.origin, first.group)) logs) rising in
    and_both (log_follows last first.origin first.group)
    (list_all (λ (log : Logged). log_follows last log.origin log.group) logs) parts.0
    (through last first logs parts.0 (all_follow (Some (first.origin, first.group)) logs parts.1))

-- what holds of each log that is found so holds of all
pub record IsFoundIn (logs : List Logged) (log : Logged) : Type 0 where
  pub there : find (is_log_of log.origin log.group) logs ≡ Some log

found_first : (first : Logged) (logs : List Logged) → IsFoundIn (first ∷ logs) first
found_first first logs = record {
  there = ap (λ (b : Bool). cond b (Some first) (find (is_log_of first.origin first.group) logs)) (is_itself first);
}

found_later : (first : Logged) (logs : List Logged) (log : Logged) →
    list_all (λ (l : Logged). log_follows (Some (first.origin, first.group)) l.origin l.group) logs ≡ true →
    IsFoundIn logs log → IsFoundIn (first ∷ logs) log
found_later first logs log follow is = record {
  there = ap (λ (b : Bool). cond b (Some first) (find (is_log_of log.origin log.group) logs))
      (follows_other first log (passes_found (λ (l : Logged). log_follows (Some (first.origin, first.group)) l.origin
      l.group) (is_log_of log.origin log.group) logs log follow is.there))
      ∙ is.there;
}

each_in : (test : Logged → Bool) (last : Option (ℕ × ℕ)) (logs : List Logged) → logs_rise last logs ≡ true →
    ((log : Logged) → IsFoundIn logs log → test log ≡ true) → list_all test logs ≡ true
each_in test last [] rising each = refl
each_in test last (first ∷ logs) rising each =
    let parts = and_parts (log_follows last first.origin first.group)
    (logs_rise (Some (first.origin, first.group)) logs) rising in
    let follow = all_follow (Some (first.origin, first.group)) logs parts.1 in
    and_both (test first) (list_all test logs) (each first (found_first first logs))
    (each_in test (Some (first.origin, first.group)) logs parts.1
    (λ log is. each log (found_later first logs log follow is)))

pub each_found : (test : Logged → Bool) (logs : List Logged) → logs_rise None logs ≡ true →
    ((log : Logged) → find (is_log_of log.origin log.group) logs ≡ Some log → test log ≡ true) →
    list_all test logs ≡ true
each_found test logs rising each = each_in test None logs rising (λ log is. each log is.there)

-- one that passes is found so
some_in : (test : Logged → Bool) (last : Option (ℕ × ℕ)) (logs : List Logged) → logs_rise last logs ≡ true →
    list_any test logs ≡ true → (log : Logged) × IsFoundIn logs log × (test log ≡ true)
some_in test last [] rising any = absurd cc
some_in test last (first ∷ logs) rising any =
    let parts = and_parts (log_follows last first.origin first.group)
    (logs_rise (Some (first.origin, first.group)) logs) rising in
    let follow = all_follow (Some (first.origin, first.group)) logs parts.1 in
    elim (test first) as (λ t. test first ≡ t → t || list_any test logs ≡ true →
    (log : Logged) × IsFoundIn (first ∷ logs) log × (test log ≡ true)) [
      | true ↦ λ is _. (first, found_first first logs, is)
      | false ↦ λ _ later.
          let found = some_in test (Some (first.origin, first.group)) logs parts.1 later in
          (found.0, found_later first logs found.0 follow found.1, found.2)
    ] refl any

pub some_found : (test : Logged → Bool) (logs : List Logged) → logs_rise None logs ≡ true →
    list_any test logs ≡ true →
    (log : Logged) × (find (is_log_of log.origin log.group) logs ≡ Some log) × (test log ≡ true)
some_found test logs rising any =
    let found = some_in test None logs rising any in (found.0, found.1.there, found.2)

pub any_found : {A : Type 0} (test is : A → Bool) (items : List A) (item : A) → find is items ≡ Some item →
    test item ≡ true → list_any test items ≡ true
any_found test is [] item there passes = absurd cc
any_found {A} test is (first ∷ items) item there passes =
    elim (is first) as (λ t. cond t (Some first) (find is items) ≡ Some item →
    test first || list_any test items ≡ true) [
      | true ↦ λ same. let e : first ≡ item = cc in
          ap (λ (b : Bool). b || list_any test items) (ap test e ∙ passes)
      | false ↦ λ later. elim (test first) as (λ t. t || list_any test items ≡ true) [
        | true ↦ refl
        | false ↦ any_found test is items item later passes
      ]
    ] there

isnt_of : (origin group : ℕ) (log : Logged) → log_follows (Some (origin, group)) log.origin log.group ≡ true →
    is_log_of origin group log ≡ false
isnt_of origin group log follows = grind (arith, nat_tests, follows)

-- at most one is of that packet and group
none_of : (origin group : ℕ) (logs : List Logged) →
    list_all (λ (log : Logged). log_follows (Some (origin, group)) log.origin log.group) logs ≡ true →
    filter (is_log_of origin group) logs ≡ []
none_of origin group [] follow = refl
none_of origin group (first ∷ logs) follow =
    let parts = and_parts (log_follows (Some (origin, group)) first.origin first.group)
    (list_all (λ (log : Logged). log_follows (Some (origin, group)) log.origin log.group) logs) follow in
    ap (λ (b : Bool). cond b (first ∷ filter (is_log_of origin group) logs) (filter (is_log_of origin group) logs))
    (isnt_of origin group first parts.0)
    ∙ none_of origin group logs parts.1

pub one_of_each : (origin group : ℕ) (last : Option (ℕ × ℕ)) (logs : List Logged) → logs_rise last logs ≡ true →
    length (filter (is_log_of origin group) logs) ≤ 1
one_of_each origin group last [] rising = omega arith
one_of_each origin group last (first ∷ logs) rising =
    let parts = and_parts (log_follows last first.origin first.group)
    (logs_rise (Some (first.origin, first.group)) logs) rising in
    let follow = all_follow (Some (first.origin, first.group)) logs parts.1 in
    elim (is_log_of origin group first) as (λ t. is_log_of origin group first ≡ t →
    length (cond t (first ∷ filter (is_log_of origin group) logs) (filter (is_log_of origin group) logs)) ≤ 1) [
      | true ↦ λ is.
          let same = and_parts (first.origin == origin) (first.group == group) is in
          let none : filter (is_log_of first.origin first.group) logs ≡ [] =
          none_of first.origin first.group logs follow in
          let none_so : filter (is_log_of origin group) logs ≡ [] =
          subst (λ (o : ℕ). filter (is_log_of o group) logs ≡ []) (eqb-true first.origin origin same.0)
          (subst (λ (g : ℕ). filter (is_log_of first.origin g) logs ≡ []) (eqb-true first.group group same.1) none) in
          let count : length (first ∷ filter (is_log_of origin group) logs) ≡ 1 =
          ap (λ (rest : List Logged). length (first ∷ rest)) none_so in
          omega (arith, count)
      | false ↦ λ _. one_of_each origin group (Some (first.origin, first.group)) logs parts.1
    ] refl
