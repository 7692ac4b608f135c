-- Two texts have one first difference, and a report one shortest front.
use Rattle.std.proofs.Common.{◌≡◌, ◌<◌, inl, inr, ℕ, List, [], ◌++◌, length, sym, ap, ◌∙◌, arith, length-append}
use Rattle.std.specs.Prelude.{slice_get}
use Rattle.std.proofs.lemmas.Bool.{cases_lt}
use Rattle.std.proofs.lemmas.List.{append-nil, nil_from_length}
use Rattle.ftc_check.specs.Difference.{IsFirstDifference}
use Rattle.ftc_check.specs.Taps.{IsWithoutTaps}
use Rattle.ftc_check.proofs.Cuts.{parted}
use Rattle.ftc_check.proofs.Illegal.{there_still}

pub none_differs : (a b : List ℕ) (place : ℕ) → IsFirstDifference a b place → a ≡ b → ⊥
none_differs a b place differs same = differs.there (ap (λ (text : List ℕ). slice_get text place) same)

not_later : (a b : List ℕ) (place other : ℕ) → IsFirstDifference a b place → IsFirstDifference a b other →
    place < other → ⊥
not_later a b place other first later less =
    first.there (sym (there_still a place other less) ∙ ap
    (λ (text : List ℕ). slice_get text place) later.front ∙ there_still b place other less)

pub one_place : (a b : List ℕ) (place other : ℕ) → IsFirstDifference a b place → IsFirstDifference a b other →
    place ≡ other
one_place a b place other first later = elim (cases_lt place other) [
  | inl less ↦ absurd (not_later a b place other first later less)
  | inr rest ↦ elim (cases_lt other place) [
    | inl more ↦ absurd (not_later a b other place later first more)
    | inr same ↦ omega arith
  ]
]

pub one_front : (text front other : List ℕ) → IsWithoutTaps text front → IsWithoutTaps text other → front ≡ other
one_front text front other first later =
    let short = first.shortest other later.rest later.cut in
    let long = later.shortest front first.rest first.cut in
    let parts = parted front first.rest other later.rest (sym first.cut.parts ∙ later.cut.parts) short in
    let none : parts.0 ≡ [] = nil_from_length parts.0 (omega (arith, ap length parts.1, length-append front parts.0)) in
    sym (parts.1 ∙ ap (λ (rest : List ℕ). front ++ rest) none ∙ append-nil front)
