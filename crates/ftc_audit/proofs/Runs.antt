-- What the visits of one middlebox leave in its store, over a whole run.
use Rattle.std.proofs.Common.{◌≡◌, ◌∙◌, ◌⊎◌, sym, ap, ap₂, subst, ℕ, List, [], ◌∷◌, ◌++◌, length, Option, Some, None}
use Rattle.std.proofs.Common.{inl, inr, refl}
use Rattle.std.specs.Prelude.{slice_get}
use Rattle.std.proofs.lemmas.Option.{same_Some}
use Rattle.ftc_store.specs.Store.{Content, written}
use Rattle.ftc_mbox.specs.declared.rule.Rule.{Rule}
use Rattle.ftc_serial.specs.declared.step.Step.{Step}
use Rattle.ftc_serial.specs.Words.{AnyOf, with_at}
use Rattle.ftc_serial.specs.Take.{Outcome, taken}
use Rattle.ftc_serial.specs.Serial.{State, Entry, Visited, Given, entry_of, after}
use Rattle.ftc_serial.specs.Entries.{IsRightEntry}
use Rattle.ftc_serial.proofs.Functions.{with_at_cases}
use Rattle.ftc_serial.proofs.Legal.{IsVisitLegal, visit_legal, told_legal}
use Rattle.ftc_serial.proofs.AnyOf.{any_either}
use Rattle.ftc_audit.specs.Visits.{Seen, Gave, waiting_bytes, seen_at, visits}

-- the state after the steps, up to the first that isn't legal
abbrev pub end_of : List Rule → State → List Step → State
end_of rules state [] = state
end_of rules state (step ∷ steps) =
    elim (entry_of rules state step) [
      | None ↦ state
      | Some entry ↦ end_of rules (after (length rules) state entry) steps
    ]

-- A visit of a rule keeps what holds of its store, and what the store has of a line; and the store has the line of the
-- visit.
pub record IsKept (rule : Rule) {Line : Type 0} (line_of : Seen → Option Line) (Holds : Content
    → Type 0) (Has : Content → Line → Type 0) : Type 0 where
  pub holds : (bytes : List ℕ) (content : Content) → Holds content → Holds (written
      (taken rule bytes content).writes content)
  pub has : (bytes : List ℕ) (content : Content) (line : Line) → Holds content → Has content line
      → Has (written (taken rule bytes content).writes content) line
  pub gives : (server : ℕ) (bytes : List ℕ) (content : Content) (line : Line) → Holds content
      → line_of (record { server = server; before = bytes; outcome = taken rule bytes content }) ≡ Some line
      → Has (written (taken rule bytes content).writes content) line

module _ (rule : Rule) {Line : Type 0} (line_of : Seen → Option Line) (Holds : Content → Type 0) (Has : Content → Line
    → Type 0)
    (kept : IsKept rule line_of Holds Has) (rules : List Rule) (server : ℕ)
    (known : slice_get rules server ≡ Some rule) where
  pub outcome_is : (state : State) (at packet : ℕ) (outcome : Outcome)
      (legal : IsVisitLegal rules state at packet outcome)
      → server ≡ at → taken rule legal.bytes (state.maps server) ≡ outcome
  outcome_is state at packet outcome legal same =
      let rule_is = same_Some rule legal.rule (sym known ∙ (ap (slice_get rules) same ∙ legal.known)) in
      ap₂ (λ (r : Rule) (k : ℕ). taken r legal.bytes (state.maps k)) rule_is same ∙ sym legal.is

  -- the middlebox's store after a visit, its own or another's
  after_visit : (P : Content → Type 0) (state : State) (at packet : ℕ) (outcome : Outcome)
      → IsVisitLegal rules state at packet outcome
      → ((bytes : List ℕ) → P (written (taken rule bytes (state.maps server)).writes (state.maps server)))
      → P (state.maps server) → P (with_at state.maps at (written outcome.writes (state.maps at)) server)
  after_visit P state at packet outcome legal own other =
      with_at_cases P state.maps at (written outcome.writes (state.maps at)) server
      (λ same. subst (λ (k : ℕ). P (written outcome.writes (state.maps k))) same
      (subst (λ (o : Outcome). P (written o.writes (state.maps server)))
      (outcome_is state at packet outcome legal same) (own legal.bytes)))
      (λ apart. other)

  holds_on : (state : State) (entry : Entry) → IsRightEntry rules state entry → Holds (state.maps server)
      → Holds ((after (length rules) state entry).maps server)
  holds_on state (Visited at packet outcome) legal holds =
      after_visit Holds state at packet outcome (visit_legal rules state at packet outcome legal)
      (λ bytes. kept.holds bytes (state.maps server) holds) holds
  holds_on state (Given packet bytes) legal holds = holds

  has_on : (line : Line) (state : State) (entry : Entry) → IsRightEntry rules state entry → Holds (state.maps server)
      → Has (state.maps server) line → Has ((after (length rules) state entry).maps server) line
  has_on line state (Visited at packet outcome) legal holds has =
      after_visit (λ content. Has content line) state at packet outcome
      (visit_legal rules state at packet outcome legal)
      (λ bytes. kept.has bytes (state.maps server) line holds has) has
  has_on line state (Given packet bytes) legal holds has = has

  gives_on : (line : Line) (state : State) (entry : Entry) → IsRightEntry rules state entry → Holds (state.maps server)
      → Gave line_of server (seen_at state entry) line → Has ((after (length rules) state entry).maps server) line
  gives_on line state (Visited at packet outcome) legal holds (inl (is, told)) =
      let fair = visit_legal rules state at packet outcome legal in
      let seen : line_of (record {
        server = at;
        before = fair.bytes;
        outcome = taken rule fair.bytes
            (state.maps server);
      }) ≡ Some line =
      ap₂ (λ (b : List ℕ) (o : Outcome). line_of (record { server = at; before = b; outcome = o }))
      (sym (ap waiting_bytes fair.waits)) (outcome_is state at packet outcome fair (sym is)) ∙ told in
      with_at_cases (λ content. Has content line) state.maps at (written outcome.writes (state.maps at)) server
      (λ same. subst (λ (k : ℕ). Has (written outcome.writes (state.maps k)) line) same
      (subst (λ (o : Outcome). Has (written o.writes (state.maps server)) line)
      (outcome_is state at packet outcome fair same)
      (kept.gives at fair.bytes (state.maps server) line holds seen)))
      (λ apart. absurd (apart (sym is)))
  gives_on line state (Visited at packet outcome) legal holds (inr none) = absurd none
  gives_on line state (Given packet bytes) legal holds none = absurd none

  pub ends_holding : (state : State) (steps : List Step) → Holds (state.maps server)
      → Holds ((end_of rules state steps).maps server)
  ends_holding state [] holds = holds
  ends_holding state (step ∷ steps) holds =
      elim (entry_of rules state step) as (λ (told : Option Entry). entry_of rules state step ≡ told
      → Holds ((elim told as (λ (o : Option Entry). State) [
        | None ↦ state
        | Some entry ↦ end_of rules (after
            (length rules) state entry) steps
      ]).maps server)) [
        | None ↦ λ _. holds
        | Some entry ↦ λ told. ends_holding (after (length rules) state entry) steps
            (holds_on state entry (told_legal rules state step entry told).0 holds)
      ] refl

  pub ends_having : (line : Line) (state : State) (steps : List Step) → Holds (state.maps server)
      → Has (state.maps server) line
      → Has ((end_of rules state steps).maps server) line
  ends_having line state [] holds has = has
  ends_having line state (step ∷ steps) holds has =
      elim (entry_of rules state step) as (λ (told : Option Entry). entry_of rules state step ≡ told
      → Has ((elim told as (λ (o : Option Entry). State) [
        | None ↦ state
        | Some entry ↦ end_of rules (after
            (length rules) state entry) steps
      ]).maps server) line) [
        | None ↦ λ _. has
        | Some entry ↦ λ told.
            let legal = (told_legal rules state step entry told).0 in
            ends_having line (after (length rules) state entry) steps (holds_on state entry legal holds)
            (has_on line state entry legal holds has)
      ] refl

  -- the store at the end has each line that was given
  pub ends_given : (line : Line) (state : State) (steps : List Step) → Holds (state.maps server)
      → Gave line_of server (visits rules state steps) line
      → Has ((end_of rules state steps).maps server) line
  ends_given line state [] holds gave = absurd gave
  ends_given line state (step ∷ steps) holds gave =
      elim (entry_of rules state step) as (λ (told : Option Entry). entry_of rules state step ≡ told
      → Gave line_of server (elim told as (λ (o : Option Entry). List Seen) [
        | None ↦ []
        | Some entry ↦ seen_at state entry
            ++ visits rules (after (length rules) state entry) steps
      ]) line
      → Has ((elim told as (λ (o : Option Entry). State) [
        | None ↦ state
        | Some entry ↦ end_of rules (after
            (length rules) state entry) steps
      ]).maps server) line) [
        | None ↦ λ _ none. absurd none
        | Some entry ↦ λ told some.
            let legal = (told_legal rules state step entry told).0 in
            let next = after (length rules) state entry in
            let held = holds_on state entry legal holds in
            elim (any_either _ (seen_at state entry) (visits rules next steps) some) [
              | inl now ↦ ends_having line next steps held (gives_on line state entry legal holds now)
              | inr later ↦ ends_given line next steps held later
            ]
      ] refl gave
