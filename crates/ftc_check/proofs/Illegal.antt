-- A journal that is a run has no illegal event, and any other has one first illegal event.
use Rattle.std.proofs.Common.{◌≡◌, ◌<◌, inl, inr, ℕ, zero, suc, List, [], ◌∷◌, take, Some, refl, sym, ap, subst, ◌∙◌}
use Rattle.std.proofs.Common.{arith}
use Rattle.std.specs.Prelude.{slice_get}
use Rattle.std.proofs.Math.Logic.{∥∥₁_elim}
use Rattle.std.proofs.lemmas.Bool.{cases_lt}
use Rattle.ftc_journal.specs.declared.event.Event.{Event}
use Rattle.ftc_protocol.specs.Setting.{Setting}
use Rattle.ftc_protocol.specs.State.{ChainState, opening}
use Rattle.ftc_protocol.specs.Legal.{IsLegal}
use Rattle.ftc_protocol.specs.Next.{next}
use Rattle.ftc_protocol.specs.Run.{AreLegal, IsRun, state_after}
use Rattle.ftc_protocol.proofs.RunLists.{legal_there}
use Rattle.ftc_machine.specs.Illegal.{IsFirstIllegal}

pub none_illegal : (c : Setting) (journal : List Event) (place : ℕ) → IsFirstIllegal c journal place →
    ∥ IsRun c journal ∥₁ → ⊥
none_illegal c journal place first run =
    ∥∥₁_elim run (λ x y. absurd x)
    (λ legal. first.illegal (legal_there c journal (opening c) place first.event legal first.there))

-- a longer front begins with the shorter
take_shorter : {A : Type 0} (xs : List A) (few more : ℕ) → few < more → take few (take more xs) ≡ take few xs
take_shorter [] few zero less = refl
take_shorter [] few (suc more) less = refl
take_shorter (x ∷ xs) few zero less = absurd (omega arith)
take_shorter (x ∷ xs) zero (suc more) less = refl
take_shorter {A} (x ∷ xs) (suc few) (suc more) less =
    ap (λ (ys : List A). x ∷ ys) (take_shorter xs few more (omega arith))

pub there_still : {A : Type 0} (xs : List A) (place more : ℕ) → place < more →
    slice_get (take more xs) place ≡ slice_get xs place
there_still [] place zero less = refl
there_still [] place (suc more) less = refl
there_still (x ∷ xs) place zero less = absurd (omega arith)
there_still (x ∷ xs) zero (suc more) less = refl
there_still (x ∷ xs) (suc place) (suc more) less = there_still xs place more (omega arith)

not_later : (c : Setting) (journal : List Event) (place other : ℕ) → IsFirstIllegal c journal place →
    IsFirstIllegal c journal other → place < other → ⊥
not_later c journal place other first later less =
    let front = take_shorter journal place other less in
    none_illegal c (take other journal) place (record {
      before = subst (λ (events : List Event). ∥ IsRun c events ∥₁) (sym front) first.before;
      event = first.event;
      there = there_still journal place other less ∙ first.there;
      illegal = subst (λ (events : List Event). IsLegal c (state_after c (opening c) events) first.event →
          ⊥) (sym front) first.illegal;
    }) later.before

pub one_illegal : (c : Setting) (journal : List Event) (place other : ℕ) → IsFirstIllegal c journal place →
    IsFirstIllegal c journal other → place ≡ other
one_illegal c journal place other first later = elim (cases_lt place other) [
  | inl less ↦ absurd (not_later c journal place other first later less)
  | inr rest ↦ elim (cases_lt other place) [
    | inl more ↦ absurd (not_later c journal other place later first more)
    | inr same ↦ omega arith
  ]
]
