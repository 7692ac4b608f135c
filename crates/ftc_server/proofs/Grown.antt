-- Replicas whose numbers rise: what is had stays had, and what is ahead was ahead.
use Rattle.std.proofs.Common.{◌≡◌, ◌≢◌, ◌≤◌, ◌<◌, ◌+◌, ◌∙◌, ◌&&◌, ◌||◌, not, ℕ, zero, suc, Bool, true, false, List, []}
use Rattle.std.proofs.Common.{◌∷◌, Option, Some, None, refl, sym, ap, cond, subst, arith}
use Rattle.std.specs.Prelude.{⊤, ◌==◌, is_some, nat_le, nat_lt, option_map, slice_set}
use Rattle.std.specs.List.{list_all, list_any}
use Rattle.std.proofs.lemmas.Bool.{le-leb, leb-true, eqb-true, eq-eqb, ltb-true, false≢true, or_left, or_right}
use Rattle.std.proofs.lemmas.Bool.Decides.{nat_tests}
use Rattle.std.proofs.lemmas.Bool.{and_parts}
use Rattle.ftc_base.specs.Sets.{has}
use Rattle.ftc_base.specs.declared.limits.TheConstants.{MOST_PARTITIONS}
use Rattle.ftc_base.proofs.Bools.{not_both}
use Rattle.ftc_message.specs.Logged.{Logged}
use Rattle.ftc_replica.specs.Held.{Held, applied, pruned_by}
use Rattle.ftc_replica.specs.declared.waits.Wait.{Wait}
use Rattle.ftc_vector.specs.Order.{reaches, covers}
use Rattle.ftc_vector.specs.Vector.{mark_at, number_at, raised, need_of}
use Rattle.ftc_vector.proofs.OrderTests.{covered}
use Rattle.ftc_vector.proofs.Partitions.{get_or-by_partition}
use Rattle.ftc_server.specs.declared.held.HeldMessage.{HeldMessage}
use Rattle.ftc_server.specs.Holding.{found, log_of}
use Rattle.ftc_server.specs.Replicas.{replica_at, has_log, is_had, with_applied, ArePruned}
use Rattle.ftc_vector.specs.Commits.{vector_of}
use Rattle.ftc_server.specs.Waiting.{is_ahead_at, first_ahead, ahead_of, is_ahead, waits, is_had_or_waits, is_put_off}
use Rattle.ftc_server.specs.Waiting.{AreWatched, has_reached, is_unreached, is_named, carries, is_changed_to, is_due}
use Rattle.ftc_server.specs.Waiting.{number_in}
use Rattle.ftc_server.proofs.Ahead.{first_passes, none_passes}
use Rattle.ftc_server.proofs.Finding.{and_both}
use Rattle.ftc_server.proofs.Installing.{applied_at}
use Rattle.ftc_server.proofs.ListTests.{all_both, implies_all}

-- no number falls
abbrev pub HasGrown : Option Held → Option Held → Type 0
HasGrown None None = ⊤
HasGrown (Some old) (Some new) = (partition : ℕ) → partition < MOST_PARTITIONS →
    number_at old.vector partition ≤ number_at new.vector partition
HasGrown None (Some new) = ⊥
HasGrown (Some old) None = ⊥

pub record AreGrown (old new : List (Option Held)) : Type 0 where
  pub each : (group : ℕ) → HasGrown (replica_at old group) (replica_at new group)

-- ---- what is had stays had

reaches_more : (low high : ℕ) (mark : Option ℕ) → low ≤ high → reaches low mark ≡ true → reaches high mark ≡ true
reaches_more low high None below is = refl
reaches_more low high (Some least) below is = le-leb least high (omega (arith, below, leb-true least low is))

covered_still : (old new : List ℕ) (need : List (Option ℕ)) →
    ((partition : ℕ) → partition < MOST_PARTITIONS → number_at old partition ≤ number_at new partition) →
    covers old need ≡ true → covers new need ≡ true
covered_still old new need grown is =
    let was = (covered old need).0 is in
    (covered new need).1 (record {
      reached = λ p least within mark. omega (arith, was.reached p least within mark, grown p within);
    })

had_at : (old new : Option Held) (log : Logged) → HasGrown old new → has_log old log ≡ true → has_log new log ≡ true
had_at None None log grown is = refl
had_at (Some old) (Some new) log grown is =
    covered_still old.vector new.vector (need_of log.before log.changed) grown is
had_at None (Some new) log grown is = absurd grown
had_at (Some old) None log grown is = absurd grown

pub had_still : (old new : List (Option Held)) (log : Logged) → AreGrown old new → is_had old log ≡ true →
    is_had new log ≡ true
had_still old new log grown is =
    had_at (replica_at old log.group) (replica_at new log.group) log (grown.each log.group) is

-- ---- what is ahead was ahead

ahead_before : (low high : ℕ) (mark : Option ℕ) → low ≤ high → not (reaches high mark) ≡ true →
    not (reaches low mark) ≡ true
ahead_before low high mark below is =
    elim (reaches low mark) as (λ t. reaches low mark ≡ t → not t ≡ true) [
      | true ↦ λ was. absurd (not_both (reaches high mark) is (reaches_more low high mark below was))
      | false ↦ λ _. refl
    ] refl

some_first : (vector : List ℕ) (log : Logged) (p : ℕ) → p < MOST_PARTITIONS → is_ahead_at vector log p ≡ true →
    is_some (first_ahead vector log) ≡ true
some_first vector log p within is =
    elim (first_ahead vector log) as (λ f. first_ahead vector log ≡ f → is_some f ≡ true) [
      | None ↦ λ none. absurd (false≢true (sym (none_passes vector log none p within) ∙ is))
      | Some first ↦ λ _. refl
    ] refl

ahead_at_first : (old new : List ℕ) (log : Logged) →
    ((partition : ℕ) → partition < MOST_PARTITIONS → number_at old partition ≤ number_at new partition) →
    is_some (first_ahead new log) ≡ true → is_some (first_ahead old log) ≡ true
ahead_at_first old new log grown is =
    elim (first_ahead new log) as (λ f. first_ahead new log ≡ f → is_some f ≡ true →
    is_some (first_ahead old log) ≡ true) [
      | None ↦ λ none some. absurd cc
      | Some p ↦ λ first some.
          let passes = first_passes new log p first in
          some_first old log p passes.1 (ahead_before (number_at old p) (number_at new p) (mark_at log.before p)
          (grown p passes.1) passes.0)
    ] refl is

ahead_at : (old new : Option Held) (log : Logged) → HasGrown old new → is_some (ahead_of new log) ≡ true →
    is_some (ahead_of old log) ≡ true
ahead_at None None log grown is = is
ahead_at (Some old) (Some new) log grown is = ahead_at_first old.vector new.vector log grown is
ahead_at None (Some new) log grown is = absurd grown
ahead_at (Some old) None log grown is = absurd grown

pub ahead_was : (old new : List (Option Held)) (log : Logged) → AreGrown old new → is_ahead new log ≡ true →
    is_ahead old log ≡ true
ahead_was old new log grown is =
    ahead_at (replica_at old log.group) (replica_at new log.group) log (grown.each log.group) is

-- ---- what is watched stays watched

had_or : (had later wait : Bool) → (had ≡ true → later ≡ true) → had || wait ≡ true → later || wait ≡ true
had_or true later wait implies is = ap (λ (b : Bool). b || wait) (implies refl)
had_or false true wait implies is = refl
had_or false false wait implies is = is

put_off_grown : (old new : List (Option Held)) (items : List Wait) (held : HeldMessage) → AreGrown old new →
    is_put_off old items held ≡ true → is_put_off new items held ≡ true
put_off_grown old new items held grown is =
    let packet = held.message.origin in
    let logs = held.message.logs in
    let parts = and_parts (list_any (waits items packet) logs) (list_all (is_had_or_waits old items packet) logs) is in
    and_both (list_any (waits items packet) logs) (list_all (is_had_or_waits new items packet) logs) parts.0
    (implies_all (is_had_or_waits old items packet) (is_had_or_waits new items packet) logs
    (λ (log : Logged) had. had_or (is_had old log) (is_had new log) (waits items packet log)
    (had_still old new log grown) had) parts.1)

pub watched_grown : (old new : List (Option Held)) (items : List HeldMessage) (resting : List ℕ)
    (waiting : List Wait) → AreGrown old new → AreWatched old items resting waiting →
    AreWatched new items resting waiting
watched_grown old new items resting waiting grown stands = record {
  named = stands.named;
  once = stands.once;
  watched = λ packet origin group log there ahead.
      stands.watched packet origin group log there (ahead_was old new log grown ahead);
  rest = λ packet held there rests'.
      put_off_grown old new waiting held grown (stands.rest packet held there rests');
}

-- ---- after a log was applied

raised_at : (vector : List ℕ) (changed partition : ℕ) → partition < MOST_PARTITIONS →
    number_at (raised vector changed) partition
    ≡ cond (has changed partition) (number_at vector partition + 1) (number_at vector partition)
raised_at vector changed partition within = get_or-by_partition _ partition 0 within

not_lower : (changed : Bool) (number after : ℕ) → after ≡ cond changed (number + 1) number → number ≤ after
not_lower true number after is = omega (arith, is)
not_lower false number after is = omega (arith, is)

other_place : (replicas : List (Option Held)) (place other : ℕ) (now : Option Held) → place ≢ other →
    replica_at (slice_set replicas place now) other ≡ replica_at replicas other
other_place [] place other now differs = refl
other_place (slot ∷ replicas) zero zero now differs = absurd (differs refl)
other_place (slot ∷ replicas) zero (suc other) now differs = refl
other_place (slot ∷ replicas) (suc place) zero now differs = refl
other_place (slot ∷ replicas) (suc place) (suc other) now differs =
    other_place replicas place other now (λ same. differs (ap suc same))

same_grown : (slot : Option Held) → HasGrown slot slot
same_grown None = tt
same_grown (Some held) = λ partition within. omega arith

grown_one : (log : Logged) (was : Held) → HasGrown (Some was) (Some (applied log was))
grown_one log was = λ partition within.
    not_lower (has log.changed partition) (number_at was.vector partition)
    (number_at (raised was.vector log.changed) partition) (raised_at was.vector log.changed partition within)

pair_of : (a b c d : Option Held) → a ≡ b → c ≡ d → ◌≡◌ {A = Option Held × Option Held} (a, c) (b, d)
pair_of a b c d first second = cc

pub applied_grown : (replicas : List (Option Held)) (log : Logged) (was : Held) →
    replica_at replicas log.group ≡ Some was → AreGrown replicas (with_applied replicas log)
applied_grown replicas log was there = record {
  each = λ group. elim (log.group == group) as (λ t. (log.group == group) ≡ t →
      HasGrown (replica_at replicas group) (replica_at (with_applied replicas log) group)) [
        | true ↦ λ is.
            let same = eqb-true log.group group is in
            let here : replica_at replicas group ≡ Some was = ap (replica_at replicas) (sym same) ∙ there in
            subst (λ (slots : Option Held × Option Held). HasGrown slots.0 slots.1)
            (sym (pair_of (replica_at replicas group) (Some was) (replica_at (with_applied replicas log) group)
            (Some (applied log was)) here (applied_at replicas group log was same here))) (grown_one log was)
        | false ↦ λ differs.
            subst (λ (slot : Option Held). HasGrown (replica_at replicas group) slot)
            (sym (other_place replicas log.group group (option_map (applied log) (replica_at replicas log.group))
            (λ same. false≢true (sym differs ∙ eq-eqb log.group group same))))
            (same_grown (replica_at replicas group))
      ] refl;
}

-- what was waited for and is reached now is what a changed partition has now
due_number : (changed : Bool) (number before after : ℕ) → after ≡ cond changed (before + 1) before →
    not (nat_le number before) ≡ true → nat_le number after ≡ true → (changed ≡ true) × (number ≡ after)
due_number true number before after is above below = (refl, grind (arith, nat_tests, is, above, below))
due_number false number before after is above below = absurd (grind (arith, nat_tests, is, above, below))

due_one : (replicas : List (Option Held)) (log : Logged) (was : Held) (items : List HeldMessage) (wait : Wait) →
    replica_at replicas log.group ≡ Some was → is_named items wait && is_unreached replicas wait ≡ true →
    is_due (with_applied replicas log) log.group log.changed 0 wait ≡ true
due_one replicas log was items wait there is =
    let later = with_applied replicas log in
    let facts = and_parts (is_named items wait) (is_unreached replicas wait) is in
    let parts = and_parts (nat_lt wait.partition MOST_PARTITIONS)
    (carries wait.partition wait.number (log_of wait.group wait.origin (found wait.packet items))) facts.0 in
    let within = ltb-true wait.partition MOST_PARTITIONS parts.0 in
    elim (log.group == wait.group) as (λ t. (log.group == wait.group) ≡ t →
    is_due later log.group log.changed 0 wait ≡ true) [
      | false ↦ λ differs.
          or_left (is_unreached later wait) (is_changed_to later log.group log.changed 0 wait)
          (ap (λ (slot : Option Held). not (has_reached slot wait.partition wait.number))
          (other_place replicas log.group wait.group (option_map (applied log) (replica_at replicas log.group))
          (λ same. false≢true (sym differs ∙ eq-eqb log.group wait.group same))) ∙ facts.1)
      | true ↦ λ same'.
          let same = eqb-true log.group wait.group same' in
          let here : replica_at replicas wait.group ≡ Some was = ap (replica_at replicas) (sym same) ∙ there in
          let now = applied_at replicas wait.group log was same here in
          let now_there = applied_at replicas log.group log was refl there in
          let before : not (nat_le wait.number (number_at was.vector wait.partition)) ≡ true =
          ap (λ (slot : Option Held). not (has_reached slot wait.partition wait.number)) (sym here) ∙ facts.1 in
          let after = number_at (raised was.vector log.changed) wait.partition in
          elim (nat_le wait.number after) as (λ r. nat_le wait.number after ≡ r →
          is_due later log.group log.changed 0 wait ≡ true) [
            | false ↦ λ unreached.
                or_left (is_unreached later wait) (is_changed_to later log.group log.changed 0 wait)
                (ap (λ (slot : Option Held). not (has_reached slot wait.partition wait.number)) now
                ∙ ap not unreached)
            | true ↦ λ reached.
                let due = due_number (has log.changed wait.partition) wait.number
                (number_at was.vector wait.partition) after (raised_at was.vector log.changed wait.partition within)
                before reached in
                or_right (is_unreached later wait) (is_changed_to later log.group log.changed 0 wait)
                (and_both (wait.group == log.group) _ (eq-eqb wait.group log.group (sym same))
                (and_both (has log.changed wait.partition) _ due.0
                (and_both (nat_le 0 wait.partition) _ (le-leb 0 wait.partition (omega arith))
                (and_both (nat_lt wait.partition MOST_PARTITIONS) _ parts.0
                (eq-eqb wait.number (number_in (replica_at later log.group) wait.partition)
                (due.1 ∙ sym (ap (λ (slot : Option Held). number_in slot wait.partition) now_there)))))))
          ] refl
    ] refl

pub applied_due : (replicas : List (Option Held)) (log : Logged) (was : Held) (items : List HeldMessage)
    (waiting : List Wait) → replica_at replicas log.group ≡ Some was → list_all (is_named items) waiting ≡ true →
    list_all (is_unreached replicas) waiting ≡ true →
    list_all (is_due (with_applied replicas log) log.group log.changed 0) waiting ≡ true
applied_due replicas log was items waiting there named unreached =
    implies_all (λ (wait : Wait). is_named items wait && is_unreached replicas wait)
    (is_due (with_applied replicas log) log.group log.changed 0) waiting
    (λ wait is. due_one replicas log was items wait there is)
    (all_both (is_named items) (is_unreached replicas) waiting named unreached)

-- ---- after kept logs were dropped

pruned_reached : (vector : List ℕ) (slot : Option Held) (partition number : ℕ) →
    has_reached (option_map (pruned_by vector) slot) partition number ≡ has_reached slot partition number
pruned_reached vector None partition number = refl
pruned_reached vector (Some held) partition number = refl

pruned_grown_one : (vector : List ℕ) (slot : Option Held) → HasGrown slot (option_map (pruned_by vector) slot)
pruned_grown_one vector None = tt
pruned_grown_one vector (Some held) = λ partition within. omega arith

pub pruned_grown : (known : List (List ℕ)) (old new : List (Option Held)) → ArePruned known old new → AreGrown old new
pruned_grown known old new is = record {
  each = λ group. subst (λ (slot : Option Held). HasGrown (replica_at old group) slot) (sym (is.each group))
      (pruned_grown_one (vector_of known group) (replica_at old group));
}

pub pruned_unreached : (known : List (List ℕ)) (old new : List (Option Held)) (waiting : List Wait) →
    ArePruned known old new → list_all (is_unreached old) waiting ≡ true → list_all (is_unreached new) waiting ≡ true
pruned_unreached known old new waiting is all =
    implies_all (is_unreached old) (is_unreached new) waiting (λ wait unreached.
    ap (λ (slot : Option Held). not (has_reached slot wait.partition wait.number)) (is.each wait.group)
    ∙ (ap not (pruned_reached (vector_of known wait.group) (replica_at old wait.group) wait.partition wait.number)
    ∙ unreached)) all
