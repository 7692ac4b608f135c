-- When a visit and a release are legal.
use Rattle.std.proofs.Common.{◌≡◌, ℕ, ◌==◌, if◌then◌else◌, true, false, List, refl, sym, ap, ◌∙◌, Option, Some, None}
use Rattle.std.proofs.Common.{eq-eqb, eqb-true}
use Rattle.std.specs.Prelude.{slice_get, option_map}
use Rattle.ftc_mbox.specs.declared.rule.Rule.{Rule}
use Rattle.ftc_serial.specs.declared.position.Position.{Position}
use Rattle.ftc_serial.specs.declared.position.Position.TheVariants as position
use Rattle.ftc_serial.specs.declared.step.Step.{Step}
use Rattle.ftc_serial.specs.declared.step.Step.TheVariants.{Visit, Release}
use Rattle.ftc_serial.specs.Take.{Outcome, taken}
use Rattle.ftc_serial.specs.Serial.{State, Entry, Visited, Given, visit_at, release_at, entry_of}
use Rattle.ftc_serial.specs.Entries.{step_of, IsRightEntry}

-- The packet waits for that middlebox, whose rule does this.
pub record IsVisitLegal (rules : List Rule) (state : State) (server packet : ℕ) (outcome : Outcome) : Type 0 where
  pub bytes : List ℕ
  pub rule : Rule
  pub waits : state.place packet ≡ Some (position.Waiting server bytes)
  pub known : slice_get rules server ≡ Some rule
  pub is : outcome ≡ taken rule bytes (state.maps server)

pub legal_visit : (rules : List Rule) (state : State) (server packet : ℕ) (outcome : Outcome) →
    IsVisitLegal rules state server packet outcome → IsRightEntry rules state (Visited server packet outcome)
legal_visit rules state server packet outcome legal =
    ap (visit_at rules state server packet) legal.waits
    ∙ ap (λ b. if b then option_map (λ rule. Visited server packet (taken rule legal.bytes (state.maps server)))
    (slice_get rules server) else None) (eq-eqb server server refl)
    ∙ ap (option_map (λ rule. Visited server packet (taken rule legal.bytes (state.maps server)))) legal.known
    ∙ ap (λ o. Some (Visited server packet o)) (sym legal.is)

-- what a step tells is its own entry
visit_known : (rules : List Rule) (state : State) (server packet : ℕ) (bytes : List ℕ) (entry : Entry) →
    state.place packet ≡ Some (position.Waiting server bytes) → (rule : Option Rule) → slice_get rules server ≡ rule
    → option_map (λ rule. Visited server packet (taken rule bytes (state.maps server))) rule ≡ Some entry →
    (outcome : Outcome) × (entry ≡ Visited server packet outcome) × IsVisitLegal rules state server packet outcome
visit_known rules state server packet bytes entry waits None has told = absurd (cc)
visit_known rules state server packet bytes entry waits (Some rule) has told =
    let here : entry ≡ Visited server packet (taken rule bytes (state.maps server)) = cc in (
      taken rule bytes (state.maps server),
      here,
      record { bytes = bytes; rule = rule; waits = waits; known = has; is = refl },
    )

visit_told : (rules : List Rule) (state : State) (server packet : ℕ) (entry : Entry) (place : Option Position) →
    state.place packet ≡ place → visit_at rules state server packet place ≡ Some entry →
    (outcome : Outcome) × (entry ≡ Visited server packet outcome) × IsVisitLegal rules state server packet outcome
visit_told rules state server packet entry (Some (position.Waiting waited bytes)) at =
    elim (waited == server) as (λ b. waited == server ≡ b →
    (if b then option_map (λ rule. Visited server packet (taken rule bytes (state.maps server)))
    (slice_get rules server) else None) ≡ Some entry → (outcome : Outcome) × (entry ≡ Visited server packet outcome)
    × IsVisitLegal rules state server packet outcome) [
      | true ↦ λ same told. visit_known rules state server packet bytes entry
          (at ∙ ap (λ k. Some (position.Waiting k bytes)) (eqb-true waited server same))
          (slice_get rules server) refl told
      | false ↦ λ same told. absurd (cc)
    ] refl
visit_told rules state server packet entry (Some (position.Passed bytes)) at = λ told. absurd (cc)
visit_told rules state server packet entry (Some (position.Filtered middlebox)) at = λ told. absurd (cc)
visit_told rules state server packet entry (Some position.Released) at = λ told. absurd (cc)
visit_told rules state server packet entry None at = λ told. absurd (cc)

pub told_visit : (rules : List Rule) (state : State) (server packet : ℕ) (entry : Entry) →
    entry_of rules state (Visit server packet) ≡ Some entry →
    (outcome : Outcome) × (entry ≡ Visited server packet outcome) × IsVisitLegal rules state server packet outcome
told_visit rules state server packet entry told =
    visit_told rules state server packet entry (state.place packet) refl told

same_outcome : (rules : List Rule) (state : State) (server packet : ℕ) (outcome : Outcome) →
    (other : Outcome) × (Visited server packet outcome ≡ Visited server packet other)
    × IsVisitLegal rules state server packet other → IsVisitLegal rules state server packet outcome
same_outcome rules state server packet outcome (other, same, legal) =
    let is : outcome ≡ other = cc in
    record { bytes = legal.bytes; rule = legal.rule; waits = legal.waits; known = legal.known; is = is ∙ legal.is }

pub visit_legal : (rules : List Rule) (state : State) (server packet : ℕ) (outcome : Outcome) →
    IsRightEntry rules state (Visited server packet outcome) → IsVisitLegal rules state server packet outcome
visit_legal rules state server packet outcome legal =
    same_outcome rules state server packet outcome
    (told_visit rules state server packet (Visited server packet outcome) legal)

release_told : (packet : ℕ) (entry : Entry) (place : Option Position) → release_at packet place ≡ Some entry →
    (bytes : List ℕ) × (entry ≡ Given packet bytes) × (place ≡ Some (position.Passed bytes))
release_told packet entry (Some (position.Waiting waited bytes)) told = absurd (cc)
release_told packet entry (Some (position.Passed bytes)) told = let here : entry ≡ Given packet bytes =
    cc in (bytes, here, refl)
release_told packet entry (Some (position.Filtered middlebox)) told = absurd (cc)
release_told packet entry (Some position.Released) told = absurd (cc)
release_told packet entry None told = absurd (cc)

pub told_release : (rules : List Rule) (state : State) (packet : ℕ) (entry : Entry) →
    entry_of rules state (Release packet) ≡ Some entry → (bytes : List ℕ) × (entry ≡ Given packet bytes)
    × (state.place packet ≡ Some (position.Passed bytes))
told_release rules state packet entry told = release_told packet entry (state.place packet) told

pub legal_release : (rules : List Rule) (state : State) (packet : ℕ) (bytes : List ℕ) →
    state.place packet ≡ Some (position.Passed bytes) → IsRightEntry rules state (Given packet bytes)
legal_release rules state packet bytes passed = ap (release_at packet) passed

same_bytes : (state : State) (packet : ℕ) (bytes : List ℕ) →
    (other : List ℕ) × (Given packet bytes ≡ Given packet other) × (state.place packet ≡ Some (position.Passed other)) →
    state.place packet ≡ Some (position.Passed bytes)
same_bytes state packet bytes (other, same, passed) = let is : other ≡ bytes =
    cc in passed ∙ ap (λ b. Some (position.Passed b)) is

pub release_legal : (rules : List Rule) (state : State) (packet : ℕ) (bytes : List ℕ) →
    IsRightEntry rules state (Given packet bytes) → state.place packet ≡ Some (position.Passed bytes)
release_legal rules state packet bytes legal =
    same_bytes state packet bytes (told_release rules state packet (Given packet bytes) legal)

-- an entry that a step tells is legal, and is that step's
pub told_legal : (rules : List Rule) (state : State) (step : Step) (entry : Entry) →
    entry_of rules state step ≡ Some entry → IsRightEntry rules state entry × (step_of entry ≡ step)
told_legal rules state (Visit server packet) entry told =
    let found = told_visit rules state server packet entry told in
    let own : step_of entry ≡ Visit server packet = ap step_of found.1 in
    (ap (entry_of rules state) own ∙ told, own)
told_legal rules state (Release packet) entry told =
    let found = told_release rules state packet entry told in
    let own : step_of entry ≡ Release packet = ap step_of found.1 in
    (ap (entry_of rules state) own ∙ told, own)
