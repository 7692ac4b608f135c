-- What is still to be woken after a partition was looked at.
use Rattle.std.proofs.Common.{◌≡◌, ◌≤◌, ◌+◌, ◌∙◌, ◌&&◌, ◌||◌, not, ℕ, Bool, true, false, List, Option, None, refl, sym}
use Rattle.std.proofs.Common.{ap, arith}
use Rattle.std.specs.Prelude.{◌==◌, nat_le, nat_lt, find}
use Rattle.std.specs.List.{list_all}
use Rattle.std.proofs.lemmas.Bool.{eqb-true, or_left, false≢true, and_parts}
use Rattle.std.proofs.lemmas.Bool.Decides.{nat_tests}
use Rattle.ftc_base.specs.Sets.{has}
use Rattle.ftc_base.specs.declared.limits.TheConstants.{MOST_PARTITIONS}
use Rattle.ftc_replica.specs.Held.{Held}
use Rattle.ftc_replica.specs.declared.waits.Wait.{Wait}
use Rattle.ftc_replica.specs.Waiting.{waits_for}
use Rattle.ftc_server.specs.Replicas.{replica_at}
use Rattle.ftc_server.specs.Waiting.{is_unreached, is_changed_to, is_due, number_in, StaysWhere}
use Rattle.ftc_server.proofs.ListTests.{all_both, implies_all, none_passes}

later_due : (unreached group changed from_here below number at wait : Bool) →
    unreached || (group && (changed && (from_here && (below && number)))) ≡ true →
    not (group && (at && wait)) ≡ true → (number ≡ true → at ≡ true → wait ≡ true) → (later : Bool) →
    (from_here ≡ true → at ≡ false → later ≡ true) →
    unreached || (group && (changed && (later && (below && number)))) ≡ true
later_due true group changed from_here below number at wait is isnt same later next = refl
later_due false false changed from_here below number at wait is isnt same later next = absurd cc
later_due false true false from_here below number at wait is isnt same later next = absurd cc
later_due false true true false below number at wait is isnt same later next = absurd cc
later_due false true true true false number at wait is isnt same later next = absurd cc
later_due false true true true true false at wait is isnt same later next = absurd cc
later_due false true true true true true true true is isnt same later next = absurd cc
later_due false true true true true true true false is isnt same later next = absurd (false≢true (same refl refl))
later_due false true true true true true false wait is isnt same later next =
    ap (λ (l : Bool). l && true) (next refl refl)

-- the places from that one on, but for it
after_place : (from place : ℕ) → nat_le from place ≡ true → (place == from) ≡ false → nat_le (from + 1) place ≡ true
after_place from place at isnt = grind (arith, nat_tests, at, isnt)

one_later : (replicas : List (Option Held)) (group changed from : ℕ) (wait : Wait) →
    is_due replicas group changed from wait
    && not (waits_for group from (number_in (replica_at replicas group) from) wait) ≡ true →
    is_due replicas group changed (from + 1) wait ≡ true
one_later replicas group changed from wait is =
    let parts = and_parts (is_due replicas group changed from wait)
    (not (waits_for group from (number_in (replica_at replicas group) from) wait)) is in
    let number = number_in (replica_at replicas group) in
    later_due (is_unreached replicas wait) (wait.group == group) (has changed wait.partition)
    (nat_le from wait.partition) (nat_lt wait.partition MOST_PARTITIONS) (wait.number == number wait.partition)
    (wait.partition == from) (wait.number == number from) parts.0 parts.1
    (λ same at. ap (λ (p : ℕ). wait.number == number p) (sym (eqb-true wait.partition from at)) ∙ same)
    (nat_le (from + 1) wait.partition) (after_place from wait.partition)

pub due_next : (replicas : List (Option Held)) (group changed from number : ℕ) (old new : List Wait) →
    StaysWhere replicas old new → number ≡ number_in (replica_at replicas group) from →
    find (waits_for group from number) new ≡ None → list_all (is_due replicas group changed from) old ≡ true →
    list_all (is_due replicas group changed (from + 1)) new ≡ true
due_next replicas group changed from number old new stays is none due =
    let test = waits_for group from (number_in (replica_at replicas group) from) in
    implies_all (λ wait. is_due replicas group changed from wait && not (test wait))
    (is_due replicas group changed (from + 1)) new (one_later replicas group changed from)
    (all_both (is_due replicas group changed from) (λ wait. not (test wait)) new
    (stays (is_due replicas group changed from) (λ wait unreached. or_left (is_unreached replicas wait)
    (is_changed_to replicas group changed from wait) unreached) due)
    (none_passes test new (ap (λ (n : ℕ). find (waits_for group from n) new) (sym is) ∙ none)))

-- where the partition isn't changed nothing waits there
skipped : (unreached group changed from_here rest later : Bool) →
    unreached || (group && (changed && (from_here && rest))) ≡ true →
    (changed ≡ true → from_here ≡ true → later ≡ true) →
    unreached || (group && (changed && (later && rest))) ≡ true
skipped true group changed from_here rest later is next = refl
skipped false false changed from_here rest later is next = absurd cc
skipped false true false from_here rest later is next = absurd cc
skipped false true true false rest later is next = absurd cc
skipped false true true true rest later is next = ap (λ (l : Bool). l && rest) (next refl refl) ∙ is

unchanged_at : (changed from place : ℕ) → has changed from ≡ false → has changed place ≡ true →
    (place == from) ≡ false
unchanged_at changed from place isnt is =
    elim (place == from) as (λ t. (place == from) ≡ t → t ≡ false) [
      | true ↦ λ same. absurd (false≢true (sym isnt ∙ (ap (has changed) (sym (eqb-true place from same)) ∙ is)))
      | false ↦ λ _. refl
    ] refl

pub due_skipped : (replicas : List (Option Held)) (group changed from : ℕ) (items : List Wait) →
    has changed from ≡ false → list_all (is_due replicas group changed from) items ≡ true →
    list_all (is_due replicas group changed (from + 1)) items ≡ true
due_skipped replicas group changed from items isnt due =
    implies_all (is_due replicas group changed from) (is_due replicas group changed (from + 1)) items (λ wait is.
    skipped (is_unreached replicas wait) (wait.group == group) (has changed wait.partition)
    (nat_le from wait.partition) (nat_lt wait.partition MOST_PARTITIONS
    && wait.number == number_in (replica_at replicas group) wait.partition) (nat_le (from + 1) wait.partition) is
    (λ change at. after_place from wait.partition at (unchanged_at changed from wait.partition isnt change))) due

-- behind the last partition nothing is reached any more
past_all : (unreached group changed from_here below number : Bool) →
    unreached || (group && (changed && (from_here && (below && number)))) ≡ true →
    (from_here ≡ true → below ≡ true → ⊥) → unreached ≡ true
past_all true group changed from_here below number is never = refl
past_all false false changed from_here below number is never = absurd cc
past_all false true false from_here below number is never = absurd cc
past_all false true true false below number is never = absurd cc
past_all false true true true false number is never = absurd cc
past_all false true true true true number is never = absurd (never refl refl)

never_past : (from place : ℕ) → MOST_PARTITIONS ≤ from → nat_le from place ≡ true → nat_lt place MOST_PARTITIONS ≡ true
    → ⊥
never_past from place past at below = grind (arith, nat_tests, past, at, below)

pub all_woken : (replicas : List (Option Held)) (group changed from : ℕ) (items : List Wait) →
    MOST_PARTITIONS ≤ from → list_all (is_due replicas group changed from) items ≡ true →
    list_all (is_unreached replicas) items ≡ true
all_woken replicas group changed from items past due =
    implies_all (is_due replicas group changed from) (is_unreached replicas) items (λ wait is.
    past_all (is_unreached replicas wait) (wait.group == group) (has changed wait.partition)
    (nat_le from wait.partition) (nat_lt wait.partition MOST_PARTITIONS)
    (wait.number == number_in (replica_at replicas group) wait.partition) is (never_past from wait.partition past)) due
