-- Runs by steps, first to last, and by histories, last to first.
use Rattle.std.proofs.Common.{◌≡◌, ℕ, true, false, cond, not, List, [], ◌∷◌, ◌⊎◌, inl, inr, refl, sym, ap, ap₂, subst}
use Rattle.std.proofs.Common.{◌∙◌, length, Option, Some, None, map}
use Rattle.std.specs.Prelude.{option_map, option_and_then}
use Rattle.std.specs.List.{AllByRecursion}
use Rattle.ftc_mbox.specs.declared.rule.Rule.{Rule}
use Rattle.ftc_serial.specs.declared.step.Step.{Step}
use Rattle.ftc_serial.specs.Words.{AnyOf}
use Rattle.ftc_serial.specs.Serial.{State, Entry, Visited, Given, entry_of, after, serial_run}
use Rattle.ftc_serial.specs.Entries.{step_of, IsRightEntry, entries}
use Rattle.ftc_serial.specs.Removal.{Taken, is_taken, Takes, IsClosedRun, left_of, is_taken_step, steps_left, IsRemoval}
use Rattle.ftc_serial.specs.History.{serial_state_after, IsHistory, IsClosedHistory, IsAlike}
use Rattle.ftc_serial.proofs.Legal.{told_legal}
use Rattle.ftc_serial.proofs.Histories.{removed_history}

-- the entries of a run, put one after another onto a history
onto : List Entry → List Entry → List Entry
onto past [] = past
onto past (entry ∷ run) = onto (entry ∷ past) run

-- some item of the history is one of the run or of the past
any_onto : (P : Entry → Type 0) (past run : List Entry) → AnyOf P (onto past run) → AnyOf P past ⊎ AnyOf P run
unfolding onto
any_onto P past [] any = inl any
any_onto P past (entry ∷ run) any = elim (any_onto P (entry ∷ past) run any) [
  | inl is ↦ elim is [ inl here ↦ inr (inl here) | inr older ↦ inl older ]
  | inr later ↦ inr (inr later)
]

left_onto : (out : Taken) (past run : List Entry) →
    left_of out (onto past run) ≡ onto (left_of out past) (left_of out run)
unfolding onto
left_onto out past [] = refl
left_onto out past (entry ∷ run) =
    left_onto out (entry ∷ past) run
    ∙ elim (is_taken out entry) as
    (λ b. onto (cond (not b) (entry ∷ left_of out past) (left_of out past)) (left_of out run)
    ≡ onto (left_of out past) (cond (not b) (entry ∷ left_of out run) (left_of out run))) [
      | true ↦ refl
      | false ↦ refl
    ]

-- what is closed first to last is closed last to first
closed_onto : (partitions : ℕ) (out : Taken) (past run : List Entry) → IsClosedHistory partitions out past →
    AllByRecursion (λ later. AllByRecursion (λ earlier. Takes partitions out earlier later) past) run →
    IsClosedRun partitions out run → IsClosedHistory partitions out (onto past run)
unfolding onto
closed_onto partitions out past [] closed across within = closed
closed_onto partitions out past (entry ∷ run) closed across within =
    closed_onto partitions out (entry ∷ past) run (across.0, closed) (both run within.0 across.1) within.1
  where
    both : (later : List Entry) → AllByRecursion (Takes partitions out entry) later →
        AllByRecursion (λ l. AllByRecursion (λ earlier. Takes partitions out earlier l) past) later →
        AllByRecursion (λ l. AllByRecursion (λ earlier. Takes partitions out earlier l) (entry ∷ past)) later
    both [] own older = tt
    both (l ∷ ls) own older = ((own.0, older.0), both ls own.1 older.1)

module _ (rules : List Rule) (start : State) where
  -- a history begins with a history
  begins : (past run : List Entry) → IsHistory rules start (onto past run) → IsHistory rules start past
  unfolding onto
  begins past [] is = is
  begins past (entry ∷ run) is = (begins (entry ∷ past) run is).1

  -- a run puts its entries onto the history before it
  record IsTold (past : List Entry) (steps : List Step) (end : State) (run : List Entry) : Type 0 where
    history : IsHistory rules start (onto past run)
    ends : serial_state_after rules start (onto past run) ≡ end
    names : map step_of run ≡ steps

  told : (steps : List Step) (past : List Entry) (end : State) → IsHistory rules start past →
      serial_run rules (serial_state_after rules start past) steps ≡ Some end →
      IsTold past steps end (entries rules (serial_state_after rules start past) steps)
  unfolding onto
  told [] past end is = λ run. record { history = is; ends = cc; names = refl }
  told (step ∷ steps) past end is =
      let s = serial_state_after rules start past in
      elim (entry_of rules s step) as (λ o. entry_of rules s step ≡ o
      → option_and_then (λ next. serial_run rules next steps) (option_map (after (length rules) s) o) ≡ Some end
      → IsTold past (step ∷ steps) end (elim o [
        | None ↦ []
        | Some entry ↦
            entry ∷ entries rules (after (length rules) s entry) steps
      ])) [
        | None ↦ λ tells run. absurd (cc)
        | Some entry ↦ λ tells run.
            let legal = told_legal rules s step entry tells in
            let rest = told steps (entry ∷ past) end (legal.0, is) run in
            record { history = rest.history; ends = rest.ends; names = ap₂ (λ x xs. x ∷ xs) legal.1 rest.names }
      ] refl

  -- and the steps of what was put onto a history are a run, with these entries
  run_of : (run past : List Entry) → IsHistory rules start (onto past run) →
      serial_run rules (serial_state_after rules start past) (map step_of run)
      ≡ Some (serial_state_after rules start (onto past run))
  unfolding onto
  run_of [] past is = refl
  run_of (entry ∷ run) past is =
      let legal : IsRightEntry rules (serial_state_after rules start past) entry = (begins (entry ∷ past) run is).0 in
      ap (λ (o : Option Entry). option_and_then (λ next. serial_run rules next (map step_of run))
      (option_map (after (length rules) (serial_state_after rules start past)) o)) legal
      ∙ run_of run (entry ∷ past) is

  entries_of : (run past : List Entry) → IsHistory rules start (onto past run) →
      entries rules (serial_state_after rules start past) (map step_of run) ≡ run
  unfolding onto
  entries_of [] past is = refl
  entries_of (entry ∷ run) past is =
      let s = serial_state_after rules start past in
      let legal : IsRightEntry rules s entry = (begins (entry ∷ past) run is).0 in
      ap (λ (o : Option Entry). elim o [
        | None ↦ []
        | Some e ↦
            e ∷ entries rules (after (length rules) s e) (map step_of run)
      ]) legal
      ∙ ap (λ (es : List Entry). entry ∷ es) (entries_of run (entry ∷ past) is)

taken_step : (out : Taken) (entry : Entry) → is_taken_step out (step_of entry) ≡ is_taken out entry
taken_step out (Visited server packet outcome) = refl
taken_step out (Given packet bytes) = refl

names_left : (out : Taken) (run : List Entry) → map step_of (left_of out run) ≡ steps_left out (map step_of run)
names_left out [] = refl
names_left out (entry ∷ run) =
    rw (taken_step out entry)
    (elim (is_taken out entry) as (λ b. map step_of (cond (not b) (entry ∷ left_of out run) (left_of out run))
    ≡ cond (not b) (step_of entry ∷ steps_left out (map step_of run)) (steps_left out (map step_of run))) [
      | true ↦ names_left out run
      | false ↦ ap (λ xs. step_of entry ∷ xs) (names_left out run)
    ])

all_none : (run : List Entry) (P : Entry → Type 0) → ((entry : Entry) → P entry) → AllByRecursion P run
all_none [] P each = tt
all_none (entry ∷ run) P each = (each entry, all_none run P each)

pub removed : (rules : List Rule) (partitions : ℕ) (out : Taken) (start : State) (steps : List Step) (end : State) →
    serial_run rules start steps ≡ Some end → IsClosedRun partitions out (entries rules start steps) →
    IsRemoval rules partitions out start steps end
unfolding onto
removed rules partitions out start steps end run closed =
    let whole = entries rules start steps in
    let is = told rules start steps [] end tt run in
    let gone = removed_history rules partitions out start (onto [] whole) is.history
    (closed_onto partitions out [] whole tt (all_none whole _ (λ entry. tt)) closed) in
    let same : left_of out (onto [] whole) ≡ onto [] (left_of out whole) = left_onto out [] whole in
    let exists : IsHistory rules start (onto [] (left_of out whole)) = subst (IsHistory rules start) same gone.exists in
    let names : map step_of (left_of out whole) ≡ steps_left out steps =
    names_left out whole ∙ ap (steps_left out) is.names in
    let alike : IsAlike partitions out end (serial_state_after rules start (onto [] (left_of out whole)))
    (onto [] whole) =
    subst (λ (s : State). IsAlike partitions out s (serial_state_after rules start (onto [] (left_of out whole)))
    (onto [] whole)) is.ends
    (subst (λ (h : List Entry). IsAlike partitions out (serial_state_after rules start (onto [] whole))
    (serial_state_after rules start h) (onto [] whole)) same gone.alike) in
    record {
      other = serial_state_after rules start (onto [] (left_of out whole));
      exists = subst (λ (ts : List Step). serial_run rules start ts
          ≡ Some (serial_state_after rules start (onto [] (left_of out whole)))) names
          (run_of rules start (left_of out whole) [] exists);
      same = subst (λ (ts : List Step). entries rules start ts ≡ left_of out whole) names
          (entries_of rules start (left_of out whole) [] exists);
      content = λ server key spared. elim (alike.maps server key) [
        | inl answers ↦ sym answers
        | inr lost ↦ absurd (elim (any_onto _ [] whole lost) [ inl none_there ↦ none_there | inr there ↦ spared there ])
      ];
      released = sym alike.released;
    }
