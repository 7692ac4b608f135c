-- Each released packet has visited all middleboxes.
use Rattle.std.proofs.Common.{◌≡◌, ℕ, List, [], ◌∷◌, refl, inl, inr, sym, ap, subst, Contains}
use Rattle.std.specs.List.{flat_map}
use Rattle.ftc_journal.specs.declared.event.Event.{Event}
use Rattle.ftc_journal.specs.declared.event.Event.TheVariants as event
use Rattle.ftc_journal.specs.declared.event.VisitName.{VisitName}
use Rattle.ftc_serial.specs.declared.step.Step.{Step}
use Rattle.ftc_serial.specs.declared.step.Step.TheVariants.{Visit, Release}
use Rattle.ftc_serial.specs.Words.{AnyOf}
use Rattle.ftc_serial.specs.Serial.{Entry, Visited, Given}
use Rattle.ftc_serial.specs.Entries.{step_of}
use Rattle.ftc_serial.specs.Trace.{undone_by, steps_of, trace_of}
use Rattle.ftc_protocol.specs.Setting.{Setting, IsSetting, servers}
use Rattle.ftc_protocol.specs.State.{ChainState, opening}
use Rattle.ftc_protocol.specs.Trace.{IsSomeVisit}
use Rattle.ftc_protocol.specs.Run.{IsRun, state_after}
use Rattle.ftc_protocol.specs.Moment.{steps_in}
use Rattle.ftc_protocol.specs.Whole.{ReleasedVisited}
use Rattle.ftc_protocol.proofs.AcceptedSettings.{is_good, opens_fit}
use Rattle.ftc_protocol.proofs.Induction.{always}
use Rattle.ftc_protocol.proofs.Soundness.{given_all}
use Rattle.ftc_protocol.proofs.JournalTrace.{trace_is}
use Rattle.ftc_protocol.proofs.Members.{in_head, in_none, in_cons, in_left, in_right, in_either, in_flat_map}

-- the only element of a list of one
only : {A : Type 0} (x y : A) → Contains (x ∷ []) y → x ≡ y
only x y there = elim (in_cons x [] y there) [ inl same ↦ same | inr rest ↦ absurd (in_none y rest) ]

-- a release among the steps of a trace is one of the trace
is_given : (entry : Entry) (packet : ℕ) → step_of entry ≡ Release packet
    → (bytes : List ℕ) × (entry ≡ Given packet bytes)
is_given (Visited server passed outcome) packet same = absurd (cc)
is_given (Given released bytes) packet same = (
  bytes,
  let is : released ≡ packet = cc in
      ap (λ (p : ℕ). Given p bytes) is,
)

given_there : (trace : List Entry) (packet : ℕ) → Contains (steps_in trace) (Release packet)
    → (bytes : List ℕ) × AnyOf (λ entry. entry ≡ Given packet bytes) trace
given_there [] packet there = absurd (in_none (Release packet) there)
given_there (entry ∷ older) packet there =
    elim (in_either (steps_in older) (step_of entry ∷ []) (Release packet) there) [
      | inl before ↦ let found = given_there older packet before in (found.0, inr found.1)
      | inr last ↦ let found = is_given entry packet (only (step_of entry) (Release packet) last) in
          (found.0, inl found.1)
    ]

-- a visit of a trace is among its steps
visit_there : (trace : List Entry) (server packet : ℕ) → IsSomeVisit trace server packet
    → Contains (steps_in trace) (Visit server packet)
visit_there [] server packet there = absurd there
visit_there (Visited visited passed outcome ∷ older) server packet (inl here) =
    in_right (steps_in older) (Visit visited passed ∷ []) (Visit server packet)
    (subst (λ (step : Step). Contains (step ∷ []) (Visit server packet)) (sym (rw (here.0, here.1) refl))
    (in_head (Visit server packet) []))
visit_there (Given released bytes ∷ older) server packet (inl here) = absurd here
visit_there (entry ∷ older) server packet (inr before) =
    in_left (steps_in older) (step_of entry ∷ []) (Visit server packet) (visit_there older server packet before)

-- a release of a journal is a step of its trace
release_there : (undone : List VisitName) (journal : List Event) (packet : ℕ)
    → Contains journal (event.Release packet) → Contains (flat_map (steps_of undone) journal) (Release packet)
release_there undone journal packet there =
    in_flat_map (steps_of undone) journal (event.Release packet) (Release packet) there (in_head (Release packet) [])

pub all_visited : (c : Setting) → IsSetting c → (journal : List Event) → IsRun c journal
    → ReleasedVisited (servers c) journal
all_visited c is journal run packet server released within =
    let s : ChainState = state_after c (opening c) journal in
    let same : steps_in s.trace ≡ trace_of journal = trace_is c is journal run in
    let step = subst (λ (steps : List Step). Contains steps (Release packet)) (sym same)
    (release_there (flat_map undone_by journal) journal packet released) in
    let given = given_there s.trace packet step in
    let h = always c (is_good c is) (opens_fit c is) journal run in
    subst (λ (steps : List Step). Contains steps (Visit server packet)) same
    (visit_there s.trace server packet (given_all c s.trace h.world.serial packet given.0 given.1 server within))
