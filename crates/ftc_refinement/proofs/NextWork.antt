-- The log of a held message that is applied next: which logs of its packet are had.
use Rattle.std.proofs.Common.{◌≡◌, ◌≢◌, ◌∙◌, ◌<◌, ◌≤◌, ◌==◌, ◌||◌, ◌∷◌, ℕ, Bool, true, false, List, [], Option, Some}
use Rattle.std.proofs.Common.{None, refl, sym, ap, subst, cond, arith}
use Rattle.std.specs.List.{AllByRecursion, list_any}
use Rattle.std.proofs.lemmas.Bool.{eqb-true, eq-eqb, and_parts}
use Rattle.std.proofs.lemmas.Bool.Decides.{nat_tests}
use Rattle.ftc_base.proofs.EachOf.{all-weaker, all_zip}
use Rattle.ftc_message.specs.Logged.{Logged, log_follows, logs_rise}
use Rattle.ftc_replica.specs.Held.{Held as Replicated}
use Rattle.ftc_server.specs.Replicas.{is_had, may_apply}
use Rattle.ftc_server.specs.Work.{is_packet_of, next_log}

-- ---- logs that rise

follows_at : (o g origin group : ℕ) → log_follows (Some (o, g)) origin group ≡ true → o ≤ origin
follows_at o g origin group follows = grind (arith, nat_tests, follows)

follows_by : (o g origin group : ℕ) → log_follows (Some (o, g)) origin group ≡ true → origin ≡ o → g < group
follows_by o g origin group follows same = grind (arith, nat_tests, follows, same)

no_less : (a b d : ℕ) → a ≤ b → b ≤ d → a ≤ d
no_less a b d first second = omega (arith, first, second)

pub not_less : (o g : ℕ) (logs : List Logged) → logs_rise (Some (o, g)) logs ≡ true →
    AllByRecursion (λ (log : Logged). o ≤ log.origin) logs
not_less o g [] rising = tt
not_less o g (log ∷ logs) rising =
    let parts = and_parts (log_follows (Some (o, g)) log.origin log.group)
    (logs_rise (Some (log.origin, log.group)) logs) rising in
    let here = follows_at o g log.origin log.group parts.0 in (
      here,
      all-weaker (λ (other : Logged). log.origin ≤ other.origin) (λ (other : Logged). o ≤ other.origin)
          (λ other more. no_less o log.origin other.origin here more) logs (not_less log.origin log.group logs parts.1),
    )

greater_at : (o g a b d e : ℕ) → log_follows (Some (o, g)) a b ≡ true → a ≤ d → (d ≡ a → b < e) → d ≡ o → g < e
greater_at o g a b d e follows least greater same =
    let first = follows_at o g a b follows in
    let one : d ≡ a = omega (arith, first, least, same) in
    let more = follows_by o g a b follows (sym one ∙ same) in
    let most = greater one in
    omega (arith, more, most)

pub greater : (o g : ℕ) (logs : List Logged) → logs_rise (Some (o, g)) logs ≡ true →
    AllByRecursion (λ (log : Logged). log.origin ≡ o → g < log.group) logs
greater o g [] rising = tt
greater o g (log ∷ logs) rising =
    let parts = and_parts (log_follows (Some (o, g)) log.origin log.group)
    (logs_rise (Some (log.origin, log.group)) logs) rising in (
      follows_by o g log.origin log.group parts.0,
      all_zip (λ (other : Logged). log.origin ≤ other.origin) (λ (other : Logged). other.origin ≡ log.origin →
          log.group < other.group)
          (λ (other : Logged). other.origin ≡ o → g < other.group)
          (λ other least more. greater_at o g log.origin log.group other.origin other.group parts.0 least more) logs
          (not_less log.origin log.group logs parts.1) (greater log.origin log.group logs parts.1),
    )

-- ---- what comes next

-- the log that comes next, by what is so of the log in front
by_tests : (P : Type 0) (first log : Logged) (one two : Option Logged) (had skipped may : Bool) →
    (had ≡ true → one ≡ Some log → P) → (skipped ≡ true → one ≡ Some log → P) → (skipped ≡ false → first ≡ log → P) →
    (skipped ≡ false → two ≡ Some log → P) → cond had one (cond skipped one (cond may (Some first) two)) ≡ Some log → P
by_tests P first log one two true skipped may if_had if_skipped if_it if_not is = if_had refl is
by_tests P first log one two false true may if_had if_skipped if_it if_not is = if_skipped refl is
by_tests P first log one two false false true if_had if_skipped if_it if_not is = if_it refl cc
by_tests P first log one two false false false if_had if_skipped if_it if_not is = if_not refl is

same_number : (n : ℕ) → n ≤ n
same_number n = omega arith

same_then : (a b : ℕ) → a ≤ b → b ≤ a → a ≡ b
same_then a b first second = omega (arith, first, second)

differs_by : (a b : ℕ) → (a == b) ≡ false → a ≡ b → ⊥
differs_by a b isnt same = let is = eq-eqb a b same in absurd cc

lower_than : (one other : Logged) → one ≡ other → one.group < other.group → ⊥
lower_than one other same less = let equal = ap (λ (l : Logged). l.group) same in omega (arith, equal, less)

never_both : (a b d : ℕ) → a < b → b < d → a ≡ d → ⊥
never_both a b d first second same = omega (arith, first, second, same)

pub waits_as : (waiting : Option ℕ) (log : Logged) → is_packet_of waiting log ≡ true → waiting ≡ Some log.origin
waits_as None log is = absurd cc
waits_as (Some packet) log is = ap (λ n. Some n) (sym (eqb-true log.origin packet is))

module _ (replicas : List (Option Replicated)) where
  -- what is so of all logs is so of it
  pub all_next : (P : Logged → Type 0) (waiting : Option ℕ) (logs : List Logged) (log : Logged) →
      AllByRecursion P logs →
      next_log replicas waiting logs ≡ Some log → P log
  all_next P waiting [] log all next = absurd cc
  all_next P waiting (first ∷ logs) log all next =
      by_tests (P log) first log (next_log replicas waiting logs) (next_log replicas (Some first.origin) logs)
      (is_had replicas first) (is_packet_of waiting first) (may_apply replicas first)
      (λ test is. all_next P waiting logs log all.1 is) (λ test is. all_next P waiting logs log all.1 is)
      (λ test same. subst P same all.0) (λ test is. all_next P (Some first.origin) logs log all.1 is) next

  -- a packet that waits is passed over
  skipped_over : (packet o g : ℕ) (logs : List Logged) (log : Logged) → packet ≤ o →
      logs_rise (Some (o, g)) logs ≡ true →
      next_log replicas (Some packet) logs ≡ Some log → log.origin ≢ packet
  skipped_over packet o g [] log bound rising next = absurd cc
  skipped_over packet o g (first ∷ logs) log bound rising next =
      let parts = and_parts (log_follows (Some (o, g)) first.origin first.group)
      (logs_rise (Some (first.origin, first.group)) logs) rising in
      let higher = no_less packet o first.origin bound (follows_at o g first.origin first.group parts.0) in
      by_tests (log.origin ≢ packet) first log (next_log replicas (Some packet) logs)
      (next_log replicas (Some first.origin) logs) (is_had replicas first) (first.origin == packet)
      (may_apply replicas first)
      (λ test is. skipped_over packet first.origin first.group logs log higher parts.1 is)
      (λ test is. skipped_over packet first.origin first.group logs log higher parts.1 is)
      (λ isnt one same. differs_by first.origin packet isnt (ap (λ (l : Logged). l.origin) one ∙ same))
      (λ isnt is same. differs_by first.origin packet isnt (same_then first.origin packet
      (subst (λ n. first.origin ≤ n) same
      (all_next (λ (l : Logged). first.origin ≤ l.origin) (Some first.origin) logs log
      (not_less first.origin first.group logs parts.1) is)) higher))
      next

  -- of its packet each log of a lower group is had
  abbrev pub IsLowerHad : Logged → Logged → Type 0
  IsLowerHad log other = other.origin ≡ log.origin → other.group < log.group → is_had replicas other ≡ true

  pub lower_had : (waiting : Option ℕ) (last : Option (ℕ × ℕ)) (logs : List Logged) (log : Logged) →
      logs_rise last logs ≡ true → next_log replicas waiting logs ≡ Some log → AllByRecursion (IsLowerHad log) logs
  lower_had waiting last [] log rising next = tt
  lower_had waiting last (first ∷ logs) log rising next =
      let parts = and_parts (log_follows last first.origin first.group)
      (logs_rise (Some (first.origin, first.group)) logs)
      rising in
      let passed : next_log replicas (Some first.origin) logs ≡ Some log → IsLowerHad log first = λ is same less.
      absurd (skipped_over first.origin first.origin first.group logs log (same_number first.origin) parts.1 is
      (sym same)) in
      by_tests (AllByRecursion (IsLowerHad log) (first ∷ logs)) first log (next_log replicas waiting logs)
      (next_log replicas (Some first.origin) logs) (is_had replicas first) (is_packet_of waiting first)
      (may_apply replicas first)
      (λ has is. ((λ same less. has), lower_had waiting (Some (first.origin, first.group)) logs log parts.1 is))
      (λ test is. (
        passed (ap (λ w. next_log replicas w logs) (sym (waits_as waiting first test)) ∙ is),
        lower_had waiting (Some (first.origin, first.group)) logs log parts.1 is,
      ))
      (λ test one. (
        (λ same less. absurd (lower_than first log one less)),
        all-weaker (λ (other : Logged). other.origin ≡ first.origin → first.group < other.group) (IsLowerHad log)
            (λ other more same less. absurd (never_both first.group other.group log.group
            (more (same ∙ ap (λ (l : Logged). l.origin) (sym one))) less (ap (λ (l : Logged). l.group) one)))
            logs (greater first.origin first.group logs parts.1),
      ))
      (λ test is. (
        passed is,
        lower_had (Some first.origin) (Some (first.origin, first.group)) logs log parts.1 is,
      ))
      next

-- one of the logs is found by a test, with what is so of all
pub found_with : (P : Logged → Type 0) (test : Logged → Bool) (logs : List Logged) → AllByRecursion P logs →
    list_any test logs ≡ true → (log : Logged) × (test log ≡ true) × P log
found_with P test [] all some = absurd cc
found_with P test (log ∷ logs) all some =
    elim (test log) as (λ b. test log ≡ b → b || list_any test logs ≡ true → (log : Logged) × (test log ≡ true)
    × P log) [
      | true ↦ λ is some. (log, is, all.0)
      | false ↦ λ isnt some. found_with P test logs all.1 some
    ] refl some
