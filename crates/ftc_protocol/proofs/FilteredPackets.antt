-- From where a packet comes to be dropped by a middlebox, and that it stays dropped, along a serial run.
use Rattle.std.proofs.Common.{◌≡◌, ℕ, ◌+◌, ◌<◌, ◌≤◌, ◌==◌, true, false, List, [], ◌∷◌, length, refl, sym, ap, subst}
use Rattle.std.proofs.Common.{◌∙◌, arith, Option, Some, None}
use Rattle.std.specs.Prelude.{option_map, option_and_then}
use Rattle.std.proofs.lemmas.Bool.{le-leb, lt-leb}
use Rattle.std.proofs.lemmas.Option.{same_Some}
use Rattle.ftc_serial.specs.declared.position.Position.TheVariants as position
use Rattle.ftc_serial.specs.declared.step.Step.{Step}
use Rattle.ftc_serial.specs.Drive.{filtered_at, is_visited}
use Rattle.ftc_serial.specs.Serial.{State, Entry, Visited, Given, after, entry_of, serial_run}
use Rattle.ftc_serial.proofs.Functions.{with_at_cases}
use Rattle.ftc_serial.proofs.Legal.{told_legal}
use Rattle.ftc_protocol.specs.Setting.{Setting, servers}
use Rattle.ftc_protocol.proofs.Places.{Place, Waits, Passed, Filtered, Released, place_after, placed, IsEntry}
use Rattle.ftc_protocol.proofs.Places.{entry_legal}

-- A packet there was dropped by that middlebox, or may still be.
abbrev MayDrop : Place → ℕ → Type 0
MayDrop (Some (position.Waiting server bytes)) k = server ≤ k
MayDrop (Some (position.Passed bytes)) k = ⊥
MayDrop (Some (position.Filtered server)) k = server ≡ k
MayDrop (Some position.Released) k = ⊥
MayDrop None k = ⊥

module _ (c : Setting) where
  -- what each entry keeps, the whole run keeps
  along : (P : State → Type 0) → ((s : State) (entry : Entry) → IsEntry c s entry → P s → P (after (servers c) s entry))
      → (steps : List Step) (s end : State) → serial_run c.rules s steps ≡ Some end → P s → P end
  along P keeps [] s end run holds = subst P (same_Some s end run) holds
  along P keeps (step ∷ steps) s end run holds =
      elim (entry_of c.rules s step) as (λ o. entry_of c.rules s step ≡ o →
      option_and_then (λ next. serial_run c.rules next steps) (option_map (after (length c.rules) s) o) ≡ Some end →
      P end) [
        | None ↦ λ told on. absurd (cc)
        | Some entry ↦ λ told on. along P keeps steps (after (servers c) s entry) end on
            (keeps s entry (entry_legal c s entry (told_legal c.rules s step entry told).0) holds)
      ] refl run

  visited_before : (j k : ℕ) (packet : Option (List ℕ)) → MayDrop (place_after (servers c) j packet) k → j ≤ k
  visited_before j k None = λ may. let same : j ≡ k = may in omega arith
  visited_before j k (Some bytes) = elim (j + 1 == servers c) as (λ b. MayDrop (placed b j bytes) k → j ≤ k) [
    | true ↦ λ may. absurd may
    | false ↦ λ may. let more : j + 1 ≤ k = may in omega arith
  ]

  before_entry : (p k : ℕ) (s : State) (entry : Entry) → IsEntry c s entry →
      MayDrop ((after (servers c) s entry).place p) k → MayDrop (s.place p) k
  before_entry p k s (Given q bytes) is =
      with_at_cases (λ v. MayDrop v k →
      MayDrop (s.place p) k) s.place q Released p (λ same may. absurd may) (λ other may. may)
  before_entry p k s (Visited j q o) is =
      with_at_cases (λ v. MayDrop v k → MayDrop (s.place p) k) s.place q (place_after (servers c) j o.packet) p
      (λ same may. subst (λ v. MayDrop v k) (sym (ap s.place same ∙ is.1)) (visited_before j k o.packet may))
      (λ other may. may)

  dropped_from : (steps : List Step) (s end : State) → serial_run c.rules s steps ≡ Some end → (p k : ℕ) →
      end.place p ≡ Filtered k → MayDrop (s.place p) k
  dropped_from steps s end run p k dropped =
      along (λ t. MayDrop (t.place p) k →
      MayDrop (s.place p) k) (λ t entry is back may. back (before_entry p k t entry is may)) steps s end run
      (λ may. may)
      (subst (λ v. MayDrop v k) (sym dropped) refl)

  still_dropped : (p k : ℕ) (s : State) (entry : Entry) → IsEntry c s entry → s.place p ≡ Filtered k →
      (after (servers c) s entry).place p ≡ Filtered k
  still_dropped p k s (Given q bytes) is dropped = with_at_cases (λ v. v ≡ Filtered k) s.place q Released p
      (λ same. let passed : s.place p ≡ Passed bytes = ap s.place same ∙ is in absurd (cc)) (λ other. dropped)
  still_dropped p k s (Visited j q o) is dropped =
      with_at_cases (λ v. v ≡ Filtered k) s.place q (place_after (servers c) j o.packet) p
      (λ same. let waits : s.place p ≡ Waits j is.0 = ap s.place same ∙ is.1 in absurd (cc)) (λ other. dropped)

  -- a packet that was dropped stays so
  pub stays_dropped : (steps : List Step) (s end : State) → serial_run c.rules s steps ≡ Some end → (p k : ℕ) →
      s.place p ≡ Filtered k → end.place p ≡ Filtered k
  stays_dropped steps s end run p k dropped =
      along (λ t. t.place p ≡ Filtered k) (still_dropped p k) steps s end run dropped

  visited_unless : (k : ℕ) (place : Place) → ((i : ℕ) → place ≡ Filtered i → k ≤ i) →
      is_visited (filtered_at place) k ≡ true
  visited_unless k (Some (position.Waiting server bytes)) late = refl
  visited_unless k (Some (position.Passed bytes)) late = refl
  visited_unless k (Some (position.Filtered i)) late = le-leb k i (late i refl)
  visited_unless k (Some position.Released) late = refl
  visited_unless k None late = refl

  unfiltered : (place : Place) → ((i : ℕ) → place ≡ Filtered i → ⊥) → filtered_at place ≡ None
  unfiltered (Some (position.Waiting server bytes)) never = refl
  unfiltered (Some (position.Passed bytes)) never = refl
  unfiltered (Some (position.Filtered i)) never = absurd (never i refl)
  unfiltered (Some position.Released) never = refl
  unfiltered None never = refl

  -- a packet that waits for a middlebox visits it
  pub waits_visited : (steps : List Step) (s end : State) → serial_run c.rules s steps ≡ Some end →
      (p k : ℕ) (bytes : List ℕ) → s.place p ≡ Waits k bytes → is_visited (filtered_at (end.place p)) k ≡ true
  waits_visited steps s end run p k bytes waits =
      visited_unless k (end.place p)
      (λ i dropped. subst (λ v. MayDrop v i) waits (dropped_from steps s end run p i dropped))

  -- one that was dropped before doesn't
  pub dropped_skips : (steps : List Step) (s end : State) → serial_run c.rules s steps ≡ Some end → (p i k : ℕ) →
      s.place p ≡ Filtered i → i < k → is_visited (filtered_at (end.place p)) k ≡ false
  dropped_skips steps s end run p i k dropped less =
      ap (λ v. is_visited (filtered_at v) k) (stays_dropped steps s end run p i dropped) ∙ lt-leb k i less

  -- one that has passed all middleboxes is dropped by none
  pub passed_unfiltered : (steps : List Step) (s end : State) → serial_run c.rules s steps ≡ Some end →
      (p : ℕ) (bytes : List ℕ) → s.place p ≡ Passed bytes → filtered_at (end.place p) ≡ None
  passed_unfiltered steps s end run p bytes passed =
      unfiltered (end.place p) (λ i dropped. subst (λ v. MayDrop v i) passed (dropped_from steps s end run p i dropped))
