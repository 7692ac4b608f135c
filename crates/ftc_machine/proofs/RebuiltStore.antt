-- The visits that stay in a recovery, and the content that their writes make.
use Rattle.std.proofs.Common.{◌≡◌, ℕ, ◌==◌, ◌&&◌, if◌then◌else◌, not, cond, Bool, true, false, List, [], ◌∷◌, ◌++◌}
use Rattle.std.proofs.Common.{filter, Option, Some, inl, inr, refl, sym, ◌∙◌, ap, append-nil, eqb-true}
use Rattle.std.specs.Prelude.{fold}
use Rattle.std.specs.FinMap.{empty}
use Rattle.std.proofs.lemmas.Bool.{true≢false, false_from_ne_true}
use Rattle.std.proofs.lemmas.List.Sums.{fold-append}
use Rattle.ftc_base.specs.declared.ask.Write.{Write}
use Rattle.ftc_journal.specs.declared.event.VisitName.{VisitName}
use Rattle.ftc_serial.specs.Removal.{left_of}
use Rattle.ftc_serial.specs.Serial.{Entry, Visited, Given}
use Rattle.ftc_serial.specs.Take.{Outcome}
use Rattle.ftc_serial.specs.Trace.{names}
use Rattle.ftc_store.specs.Store.{Content, written}
use Rattle.ftc_machine.specs.declared.state.footprint.Footprint.{Footprint}
use Rattle.ftc_protocol.specs.Changes.{is_changing}
use Rattle.ftc_machine.specs.Represents.{visits_in}
use Rattle.ftc_machine.specs.Frontier.{Footprints, AreFootprints}
use Rattle.ftc_machine.specs.RecoveryEffect.{is_left, writes_kept, rewritten}
use Rattle.ftc_protocol.specs.Trace.{IsChanging, content_of}
use Rattle.ftc_machine.proofs.AfterVisit.{unchanged}
use Rattle.ftc_machine.proofs.UndoneTests.{filter_append}

pub visits_left : (undone : List VisitName) (trace : List Entry) →
    filter (is_left undone) (visits_in trace) ≡ visits_in (left_of (names undone) trace)
visits_left undone [] = refl
visits_left undone (Given packet bytes ∷ older) = visits_left undone older
visits_left undone (Visited server packet outcome ∷ older) =
    let name : VisitName = record { server = server; packet = packet } in
    filter_append (is_left undone) (visits_in older) (name ∷ [])
    ∙ elim (names undone server packet) as (λ b. filter (is_left undone) (visits_in older) ++ (if not b then name ∷ []
    else [])
    ≡ visits_in (cond (not b) (Visited server packet outcome ∷ left_of (names undone) older)
    (left_of (names undone) older))) [
      | true ↦ append-nil (filter (is_left undone) (visits_in older)) ∙ visits_left undone older
      | false ↦ ap (λ (front : List VisitName). front ++ name ∷ []) (visits_left undone older)
    ]

module _ (partitions : ℕ) (footprints : Footprints) (server : ℕ) (packets : ℕ → Bool) where
  -- a visit's writes are made, if it is one of the packets
  one_more : (visited passed : ℕ) (outcome : Outcome) (found : Option Footprint) (footprint : Footprint) →
      found ≡ Some footprint → footprint.writes.items ≡ outcome.writes
      → (visited ≡ server → is_changing partitions outcome ≡ true → packets passed ≡ true) → (content : Content)
      → (if visited == server then written (writes_kept found) content else content)
      ≡ (if (visited == server) && packets passed then written outcome.writes content else content)
  one_more visited passed outcome found footprint found_is writes member content =
      let made : writes_kept found ≡ outcome.writes = ap writes_kept found_is ∙ writes in
      elim (visited == server) as (λ b. visited == server ≡ b →
      (if b then written (writes_kept found) content else content) ≡ (if b && packets passed then
      written outcome.writes content else content)) [
        | false ↦ λ _. refl
        | true ↦ λ here. ap (λ (list : List Write). written list content) made
            ∙ elim (packets passed) as (λ b. packets passed ≡ b →
            written outcome.writes content ≡ (if b then written outcome.writes content else content)) [
              | true ↦ λ _. refl
              | false ↦ λ out. ap (λ (list : List Write). written list content)
                  (unchanged partitions outcome
                  (false_from_ne_true (is_changing partitions outcome)
                  (λ changing. true≢false (sym (member (eqb-true visited server here) changing) ∙ out))))
            ] refl
      ] refl

  -- the writes of all visits of the middlebox make the content of a set that has all changing ones
  pub rebuilt_content : (trace : List Entry) → AreFootprints partitions footprints trace →
      ((packet : ℕ) → IsChanging partitions trace server packet → packets packet ≡ true)
      → fold (rewritten footprints server) empty (visits_in trace) ≡ content_of trace packets server
  rebuilt_content [] are all = refl
  rebuilt_content (Given packet bytes ∷ older) are all = rebuilt_content older are (λ p there. all p (inr there))
  rebuilt_content (Visited visited passed outcome ∷ older) are all =
      let name : VisitName = record { server = visited; packet = passed } in
      let rest = rebuilt_content older are.1 (λ p there. all p (inr there)) in
      fold-append (rewritten footprints server) empty (visits_in older) (name ∷ [])
      ∙ (ap (λ (content : Content). rewritten footprints server content name) rest
      ∙ one_more visited passed outcome (footprints visited passed) are.0.0 are.0.1 (let made = are.0.2 in made.writes)
      (λ here changing. all passed (inl (here, refl, changing))) (content_of older packets server))
