-- Where the pairs of a translator's store come from, over a whole run.
use Rattle.std.proofs.Common.{◌≡◌, ◌≤◌, ◌∙◌, ◌⊎◌, inl, inr, refl, sym, ap, ap₂, ℕ, List, [], ◌∷◌, ◌++◌, length, Option}
use Rattle.std.proofs.Common.{Some, None}
use Rattle.std.specs.Prelude.{slice_get, option_map, option_and_then}
use Rattle.std.specs.Int.{w16, to_be_bytes}
use Rattle.std.specs.FinMap.{get}
use Rattle.ftc_nat.specs.declared.rule.NatRule.{NatRule}
use Rattle.ftc_nat.specs.Nat.{outside_port_key}
use Rattle.ftc_store.specs.Store.{Content, written}
use Rattle.ftc_mbox.specs.declared.rule.Rule.{Rule}
use Rattle.ftc_mbox.specs.declared.rule.Rule.TheVariants.{Nat}
use Rattle.ftc_serial.specs.declared.step.Step.{Step}
use Rattle.ftc_serial.specs.Words.{AnyOf}
use Rattle.ftc_serial.specs.Take.{Outcome, taken}
use Rattle.ftc_serial.specs.Serial.{State, Entry, Visited, Given, entry_of, after, serial_run}
use Rattle.ftc_serial.specs.Entries.{IsRightEntry}
use Rattle.ftc_serial.proofs.Functions.{with_at_cases}
use Rattle.ftc_serial.proofs.Legal.{visit_legal, told_legal}
use Rattle.ftc_serial.proofs.AnyOf.{any_front, any_behind}
use Rattle.ftc_audit.specs.declared.line.PortLine.{PortLine}
use Rattle.ftc_audit.specs.Visits.{Seen, Gave, waiting_bytes, seen_at, visits}
use Rattle.ftc_audit.specs.Ports.{port_line_of}
use Rattle.ftc_audit.proofs.Runs.{end_of, outcome_is}
use Rattle.ftc_audit.proofs.Translating.{IsPortKey, HasPort, Holds, comes, translating}

-- the store at the end of a legal run
pub ends_there : (rules : List Rule) (state : State) (steps : List Step) (end : State)
    → serial_run rules state steps ≡ Some end → end_of rules state steps ≡ end
ends_there rules state [] end is = let same : state ≡ end = cc in same
ends_there rules state (step ∷ steps) end is =
    elim (entry_of rules state step) as (λ (told : Option Entry).
    option_and_then (λ next. serial_run rules next steps) (option_map (after (length rules) state) told) ≡ Some end
    → (elim told as (λ (o : Option Entry). State) [
      | None ↦ state
      | Some entry ↦ end_of rules (after (length rules) state entry) steps
    ]) ≡ end) [
      | None ↦ λ none. absurd (cc)
      | Some entry ↦ λ some. ends_there rules (after (length rules) state entry) steps end some
    ] is

-- a visit of the run gave the line of this key and this value
pub record IsOf (rule : NatRule) (server : ℕ) (run : List Seen) (key value : List ℕ) : Type 0 where
  pub line : PortLine
  pub at : key ≡ outside_port_key line.protocol line.address line.port
  pub has : value ≡ to_be_bytes w16 line.outside
  pub few : line.outside ≤ rule.last
  pub gave : Gave (port_line_of rule) server run line

-- the same in a run that has what that one has
of_more : (rule : NatRule) (server : ℕ) (run more : List Seen) (key value : List ℕ)
    → ((P : Seen → Type 0) → AnyOf P run → AnyOf P more) → IsOf rule server run key value
    → IsOf rule server more key value
of_more rule server run more key value has is = record {
  line = is.line;
  at = is.at;
  has = is.has;
  few = is.few;
  gave = has _ is.gave;
}

module _ (rule : NatRule) (few : rule.last ≤ 65535) (rules : List Rule) (server : ℕ)
    (known : slice_get rules server ≡ Some (Nat rule)) where
  is_outcome : (state : State) (at packet : ℕ) (outcome : Outcome)
      (legal : IsRightEntry rules state (Visited at packet outcome)) → server ≡ at
      → taken (Nat rule) (visit_legal rules state at packet outcome legal).bytes (state.maps server) ≡ outcome
  is_outcome state at packet outcome legal same =
      outcome_is (Nat rule) (port_line_of rule) (Holds rule) HasPort (translating rule few) rules server known state at
      packet outcome (visit_legal rules state at packet outcome legal) same

  -- a step leaves what stood there, or gave it
  come_on : (state : State) (entry : Entry) → IsRightEntry rules state entry → (key value : List ℕ) → IsPortKey key
      → get ((after (length rules) state entry).maps server) key ≡ Some value
      → (get (state.maps server) key ≡ Some value) ⊎ IsOf rule server (seen_at state entry) key value
  come_on state (Visited at packet outcome) legal key value begins =
      let fair = visit_legal rules state at packet outcome legal in
      with_at_cases (λ (content : Content). get content key ≡ Some value → (get (state.maps server) key ≡ Some value)
      ⊎ IsOf rule server (seen_at state (Visited at packet outcome)) key value)
      state.maps at (written outcome.writes (state.maps at)) server
      (λ same has.
      let is : taken (Nat rule) fair.bytes (state.maps server) ≡ outcome =
      is_outcome state at packet outcome legal same in
      let content = state.maps server in
      let now : get (written (taken (Nat rule) fair.bytes content).writes content) key ≡ Some value =
      ap₂ (λ (o : Outcome) (k : ℕ). get (written o.writes (state.maps k)) key) is same ∙ has in
      elim (comes rule few at fair.bytes content key value begins now) [
        | inl stays ↦ inl stays
        | inr from ↦ inr (record {
          line = from.line;
          at = from.at;
          has = from.has;
          few = from.few;
          gave = inl (
            sym same,
            ap₂ (λ (b : List ℕ) (o : Outcome). port_line_of rule
                (record { server = at; before = b; outcome = o })) (ap waiting_bytes fair.waits) (sym is)
                ∙ from.told,
          );
        })
      ])
      (λ apart has. inl has)
  come_on state (Given packet bytes) legal key value begins = λ has. inl has

  -- what stands at an endpoint's key at the end stood there at the start, or a visit gave it
  pub ends_come : (state : State) (steps : List Step) (key value : List ℕ) → IsPortKey key
      → get ((end_of rules state steps).maps server) key ≡ Some value
      → (get (state.maps server) key ≡ Some value) ⊎ IsOf rule server (visits rules state steps) key value
  ends_come state [] key value begins has = inl has
  ends_come state (step ∷ steps) key value begins has =
      elim (entry_of rules state step) as (λ (told : Option Entry). entry_of rules state step ≡ told
      → get ((elim told as (λ (o : Option Entry). State) [
        | None ↦ state
        | Some entry ↦ end_of rules (after (length rules) state entry) steps
      ]).maps server) key ≡ Some value
      → (get (state.maps server) key ≡ Some value) ⊎ IsOf rule server (elim told as (λ (o : Option Entry). List Seen) [
        | None ↦ []
        | Some entry ↦ seen_at state entry ++ visits rules (after (length rules) state entry) steps
      ]) key value) [
        | None ↦ λ _ stays. inl stays
        | Some entry ↦ λ told there.
            let legal = (told_legal rules state step entry told).0 in
            let next = after (length rules) state entry in
            let first = seen_at state entry in
            let more = visits rules next steps in
            elim (ends_come next steps key value begins there) [
              | inr later ↦ inr (of_more rule server more _ key value (λ P. any_behind P first more) later)
              | inl before ↦ elim (come_on state entry legal key value begins before) [
                | inl stays ↦ inl stays
                | inr now ↦ inr (of_more rule server first _ key value (λ P. any_front P first more) now)
              ]
            ]
      ] refl has
