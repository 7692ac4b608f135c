-- Events that lead from states of one kind to states of another, while a serial run that goes with them comes to its
-- end.
use Rattle.std.proofs.Common.{◌≡◌, ℕ, zero, suc, ◌<◌, List, [], ◌∷◌, ◌++◌, sym, ap, subst, ◌∙◌, arith, Option, Some}
use Rattle.std.proofs.Common.{append_assoc}
use Rattle.std.specs.Prelude.{option_map, option_and_then}
use Rattle.std.specs.List.{flat_map}
use Rattle.std.proofs.lemmas.List.Concat.{flat_map-append}
use Rattle.ftc_journal.specs.declared.event.Event.{Event}
use Rattle.ftc_serial.specs.declared.step.Step.{Step}
use Rattle.ftc_serial.specs.Words.{each_below}
use Rattle.ftc_serial.specs.Serial.{State, Entry, after, serial_run}
use Rattle.ftc_serial.specs.Entries.{step_of}
use Rattle.ftc_serial.specs.Trace.{steps_of}
use Rattle.ftc_protocol.specs.Setting.{Setting, servers}
use Rattle.ftc_protocol.specs.State.{ChainState}
use Rattle.ftc_protocol.specs.Next.{next}
use Rattle.ftc_protocol.specs.Run.{AreLegal, state_after}
use Rattle.ftc_protocol.proofs.Places.{IsEntry, legal_entry, serial_of}
use Rattle.ftc_protocol.specs.Drive.{IsNextEvent}
use Rattle.ftc_protocol.proofs.UniqueDrive.{next_legal}
use Rattle.ftc_protocol.proofs.LoneFirst.{AreNext, next_both}
use Rattle.ftc_protocol.proofs.RunLists.{state_on}

-- the steps of events of which none undoes anything
abbrev pub steps_with : List Event → List Step
steps_with events = flat_map (steps_of []) events

-- from the trace's state these steps are a serial run to the end
abbrev pub IsAhead : Setting → State → ChainState → List Step → Type 0
IsAhead c end s steps = serial_run c.rules (serial_of c s.trace) steps ≡ Some end

-- the events are legal one after another and lead to such a state, and these steps are left
pub record Leads (c : Setting) (end : State) (s : ChainState) (events : List Event) (Q : ChainState →
    Type 0) (rest : List Step) : Type 0 where
  pub legal : AreLegal c s events
  pub first : AreNext c s events
  pub comes : Q (state_after c s events)
  pub ahead : IsAhead c end (state_after c s events) rest

-- they do so from each state of that kind
abbrev pub Drives : Setting → State → (ChainState → Type 0) → List Event → (ChainState → Type 0) → Type 0
Drives c end P events Q = (s : ChainState) → P s → (rest : List Step) → IsAhead c end s (steps_with events ++ rest) →
    Leads c end s events Q rest

-- a step of the run that is an entry
pub ahead_of : (c : Setting) (end s : State) (entry : Entry) → IsEntry c s entry → (steps : List Step) →
    serial_run c.rules s (step_of entry ∷ steps) ≡ Some end →
    serial_run c.rules (after (servers c) s entry) steps ≡ Some end
ahead_of c end s entry is steps run =
    sym (ap (λ (o : Option Entry). option_and_then (λ next. serial_run c.rules next steps)
    (option_map (after (servers c) s) o)) (legal_entry c s entry is)) ∙ run

module _ (c : Setting) (end : State) where
  pub none_more : (Q : ChainState → Type 0) (s : ChainState) (rest : List Step) → Q s → IsAhead c end s rest →
      Leads c end s [] Q rest
  none_more Q s rest there ahead = record { legal = tt; first = tt; comes = there; ahead = ahead }

  pub one_more : (Q : ChainState → Type 0) (s : ChainState) (event : Event) (events : List Event) (rest : List Step) →
      IsNextEvent c s event → Leads c end (next c s event) events Q rest → Leads c end s (event ∷ events) Q rest
  one_more Q s event events rest first on =
      record {
        legal = (next_legal c s event first, on.legal);
        first = (first, on.first);
        comes = on.comes;
        ahead = on.ahead;
      }

  both_legal : (xs ys : List Event) (s : ChainState) → AreLegal c s xs → AreLegal c (state_after c s xs) ys →
      AreLegal c s (xs ++ ys)
  both_legal [] ys s first second = second
  both_legal (x ∷ xs) ys s first second = (first.0, both_legal xs ys (next c s x) first.1 second)

  pub both_lead : (Q R : ChainState → Type 0) (s : ChainState) (xs ys : List Event) (rest : List Step)
      → Leads c end s xs Q (steps_with ys ++ rest) → Drives c end Q ys R → Leads c end s (xs ++ ys) R rest
  both_lead Q R s xs ys rest first second =
      let on = second (state_after c s xs) first.comes rest first.ahead in
      let same : state_after c (state_after c s xs) ys ≡ state_after c s (xs ++ ys) = sym (state_on c xs ys s) in
      record {
        legal = both_legal xs ys s first.legal on.legal;
        first = next_both c xs ys s first.first on.first;
        comes = subst R same on.comes;
        ahead = subst (λ t. IsAhead c end t rest) same on.ahead;
      }

  pub steps_apart : (s : ChainState) (xs ys : List Event) (rest : List Step) →
      IsAhead c end s (steps_with (xs ++ ys) ++ rest) → IsAhead c end s (steps_with xs ++ (steps_with ys ++ rest))
  steps_apart s xs ys rest =
      subst (λ steps. IsAhead c end s steps)
      (ap (λ (steps : List Step). steps ++ rest) (flat_map-append (steps_of []) xs ys) ∙ append_assoc (steps_with xs)
      (steps_with ys) rest)

  pub both_drive : (P Q R : ChainState → Type 0) (xs ys : List Event) → Drives c end P xs Q → Drives c end Q ys R →
      Drives c end P (xs ++ ys) R
  both_drive P Q R xs ys first second s holds rest ahead =
      both_lead Q R s xs ys rest (first s holds (steps_with ys ++ rest) (steps_apart s xs ys rest ahead)) second

  -- what each number's events do, one after another
  pub each_drives : (P : ℕ → ChainState → Type 0) (events : ℕ → List Event) (count : ℕ) →
      ((k : ℕ) → k < count → Drives c end (P k) (events k) (P (suc k))) →
      Drives c end (P 0) (each_below events count) (P count)
  each_drives P events zero drive = λ s holds rest ahead. none_more (P 0) s rest holds ahead
  each_drives P events (suc count) drive =
      both_drive (P 0) (P count) (P (suc count)) (each_below events count) (events count)
      (each_drives P events count (λ k less. drive k (omega (arith, less)))) (drive count (omega arith))
