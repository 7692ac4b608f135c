-- Logs that a vector covers, and logs that it doesn't.
use Rattle.std.proofs.Common.{◌≡◌, ◌<◌, ◌∙◌, ℕ, true, false, List, [], ◌∷◌, length, drop, refl, sym, ap, arith}
use Rattle.std.specs.Prelude.{slice_index_or, ◌||◌}
use Rattle.std.specs.List.{AllByRecursion, list_any}
use Rattle.ftc_message.specs.Logged.{Logged}
use Rattle.ftc_replica.specs.Kept.{covers_log, missing}

-- the vector covers none of the logs
abbrev pub LacksAll : List ℕ → List Logged → Type 0
LacksAll vector logs = AllByRecursion (λ log. covers_log vector log ≡ false) logs

-- the log in front is covered, so nothing else is dropped with it
pub front_dropped : (vector : List ℕ) (logs : List Logged) (log : Logged) → 0 < length logs
    → log ≡ slice_index_or logs 0 log → covers_log vector log ≡ true →
    missing vector (drop 1 logs) ≡ missing vector logs
front_dropped vector [] log some is covered = absurd (omega arith)
front_dropped vector (first ∷ logs) log some is covered =
    let same : covers_log vector first ≡ true = ap (covers_log vector) (sym is) ∙ covered in rw same refl

-- nothing is covered, so nothing is dropped
pub all_missing : (vector : List ℕ) (logs : List Logged) → LacksAll vector logs → missing vector logs ≡ logs
all_missing vector [] lacks = refl
all_missing vector (log ∷ logs) lacks =
    rw lacks.0 (ap (λ (rest : List Logged). log ∷ rest) (all_missing vector logs lacks.1))

-- no log is found that is covered
pub none_covered : (vector : List ℕ) (logs : List Logged) → list_any (covers_log vector) logs ≡ false
    → LacksAll vector logs
none_covered vector [] none = tt
none_covered vector (log ∷ logs) none =
    elim (covers_log vector log) as (λ t. covers_log vector log ≡ t → (t || list_any (covers_log vector) logs) ≡ false
    → LacksAll vector (log ∷ logs)) [
      | true ↦ λ is never. absurd cc
      | false ↦ λ is later. (is, none_covered vector logs later)
    ] refl none
