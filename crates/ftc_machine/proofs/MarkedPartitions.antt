-- The partitions that a footprint marks are those that its visit changes.
use Rattle.std.proofs.Common.{◌≡◌, ◌↔◌, ℕ, ◌==◌, ◌&&◌, if◌then◌else◌, Bool, true, List, [], ◌∷◌, ◌⊎◌, inl, inr, sym, ap}
use Rattle.std.proofs.Common.{subst, ◌∙◌, eqb-true, eq-eqb}
use Rattle.std.specs.List.{AllByRecursion, list_any}
use Rattle.std.proofs.lemmas.Bool.{true≢false, cases_Bool, and_parts, and_from, or_cases, or_left, or_right}
use Rattle.ftc_serial.specs.Words.{AnyOf}
use Rattle.ftc_serial.specs.Take.{Outcome}
use Rattle.ftc_serial.specs.Serial.{Entry}
use Rattle.ftc_machine.specs.declared.state.footprint.Touched.{Touched}
use Rattle.ftc_machine.specs.declared.state.footprint.Footprint.{Footprint}
use Rattle.ftc_protocol.specs.Changes.{Changes}
use Rattle.ftc_machine.specs.Frontier.{Numbers, IsFootprint}
use Rattle.ftc_machine.specs.FootprintMarks.{marked_at}
use Rattle.ftc_machine.proofs.FootprintTests.{one_of, touched_of}

tests_any : {A : Type 0} (test : A → Bool) (xs : List A) → list_any test xs ≡ true → AnyOf (λ x. test x ≡ true) xs
tests_any test [] any = absurd (true≢false (sym any))
tests_any test (x ∷ xs) any =
    elim (or_cases (test x) (list_any test xs) any) [ inl here ↦ inl here | inr there ↦ inr (tests_any test xs there) ]

-- an item with Q passes the test, where each has P
any_test : {A : Type 0} (test : A → Bool) (P Q : A → Type 0) (xs : List A) → ((x : A) → P x → Q x → test x ≡ true) →
    AllByRecursion P xs → AnyOf Q xs → list_any test xs ≡ true
any_test test P Q [] f all any = absurd any
any_test test P Q (x ∷ xs) f all any = elim any [
  | inl here ↦ or_left (test x) (list_any test xs) (f x all.0 here)
  | inr there ↦ or_right (test x) (list_any test xs) (any_test test P Q xs f all.1 there)
]

module _ (partitions : ℕ) (older : List Entry) (numbers : Numbers) (server : ℕ) (outcome : Outcome)
    (footprint : Footprint)
    (made : IsFootprint partitions older numbers server outcome footprint) (reach : ℕ → ℕ) (partition : ℕ) where
  marks : (list_any (λ (touched : Touched). touched.changed && (touched.partition == partition)) footprint.touched.items
      ≡ true) ↔ Changes partitions outcome partition
  marks = (
    λ any.
        let found = one_of (λ (touched : Touched). (touched.changed ≡ true)
        ↔ Changes partitions outcome touched.partition)
        (λ (touched : Touched). (touched.changed && (touched.partition == partition))
        ≡ true) footprint.touched.items made.changed
        (tests_any (λ (touched : Touched). touched.changed
        && (touched.partition == partition)) footprint.touched.items any) in
        let both = and_parts found.0.changed (found.0.partition == partition) found.2 in
        subst (Changes partitions outcome) (eqb-true found.0.partition partition both.1) (found.1.0 both.0),
    λ changes. any_test (λ (touched : Touched). touched.changed
        && (touched.partition == partition)) (λ (touched : Touched). (touched.changed ≡ true)
        ↔ Changes partitions outcome touched.partition)
        (λ (touched : Touched). touched.partition ≡ partition) footprint.touched.items
        (λ touched marked same. and_from touched.changed (touched.partition == partition)
        (marked.1 (subst (Changes partitions outcome) (sym same) changes))
        (eq-eqb touched.partition partition same))
        made.changed (touched_of partitions older numbers server outcome footprint made partition
        (made.reads partition changes)),
  )

  -- the visit changes the partition, which has its number then, or what was there stays
  pub marked_cases : (Changes partitions outcome partition × (marked_at footprint reach partition ≡ footprint.number))
      ⊎ ((Changes partitions outcome partition → ⊥) × (marked_at footprint reach partition ≡ reach partition))
  marked_cases = elim (cases_Bool (list_any (λ (touched : Touched). touched.changed
      && (touched.partition == partition)) footprint.touched.items)) [
        | inl here ↦ inl (marks.0 here, ap (λ (b : Bool). if b then footprint.number else reach partition) here)
        | inr none_here ↦ inr (
          λ changes. true≢false (sym (marks.1 changes) ∙ none_here),
          ap (λ (b : Bool). if b then footprint.number else reach partition) none_here,
        )
      ]
