-- A vector in which a visit leaves its number, one touched partition after another.
use Rattle.std.proofs.Common.{◌≡◌, ℕ, ◌+◌, ◌<◌, ◌==◌, ◌&&◌, ◌||◌, if◌then◌else◌, Bool, true, false, List, length, take}
use Rattle.std.proofs.Common.{get_or, inl, inr, refl, sym, ap, subst, ◌∙◌, eq-eqb, get_or-set_other, get_or-set_same}
use Rattle.std.specs.Prelude.{slice_set}
use Rattle.std.specs.List.{list_any}
use Rattle.std.proofs.lemmas.Bool.{ne_eqb, cases_eq, and_right}
use Rattle.std.proofs.lemmas.List.Folds.{list_any_more}
use Rattle.ftc_vector.specs.Vector.{number_at}
use Rattle.ftc_machine.specs.declared.state.footprint.Touched.{Touched}
use Rattle.ftc_machine.specs.FootprintMarks.{marked_by}

chosen : (a b : Bool) (m n : ℕ) → (if a || b then m else n) ≡ (if b then m else (if a then m else n))
chosen true true m n = refl
chosen true false m n = refl
chosen false true m n = refl
chosen false false m n = refl

alone : (a : Bool) (m n : ℕ) → (if a then m else n) ≡ (if a && true then m else n)
alone true m n = refl
alone false m n = refl

-- one more of the touched
more : (touched : List Touched) (i : ℕ) (next : Touched) (number : ℕ) (reach : ℕ → ℕ) (partition : ℕ) →
    i < length touched → get_or touched i next ≡ next
    → marked_by (take (i + 1) touched) number reach partition ≡ (if next.changed && (next.partition == partition) then
    number else marked_by (take i touched) number reach partition)
more touched i next number reach partition within is =
    let test = λ (each : Touched). each.changed && (each.partition == partition) in
    ap (λ (b : Bool). if b then number
    else reach partition) (list_any_more test touched i next within ∙ ap
    (λ (each : Touched). list_any test (take i touched) || test each) is)
    ∙ chosen (list_any test (take i touched)) (test next) number (reach partition)

pub marks_more : (vector : List ℕ) (touched : List Touched) (i : ℕ) (next : Touched) (number : ℕ) (reach : ℕ → ℕ) →
    i < length touched → get_or touched i next ≡ next → next.partition < length vector
    → ((partition : ℕ) → number_at vector partition ≡ marked_by (take i touched) number reach partition)
    → (partition : ℕ) → number_at (slice_set vector next.partition (if next.changed then number
    else number_at vector next.partition)) partition ≡ marked_by (take (i + 1) touched) number reach partition
marks_more vector touched i next number reach within is inside so_far partition =
    let left = if next.changed then number else number_at vector next.partition in
    let rest = marked_by (take i touched) number reach partition in
    (elim (cases_eq next.partition partition) [
      | inl same ↦
          subst (λ p. number_at (slice_set vector next.partition left) p
          ≡ left) same (get_or-set_same vector next.partition left 0 inside)
          ∙ (ap (λ n. if next.changed then number else n) (ap (number_at vector) same ∙ so_far partition)
          ∙ (alone next.changed number rest
          ∙ ap (λ (b : Bool). if next.changed && b then number else rest) (sym (eq-eqb next.partition partition same))))
      | inr other ↦
          get_or-set_other vector next.partition partition left 0 (λ same. other (sym same))
          ∙ (so_far partition ∙ ap (λ (b : Bool). if b then number
          else rest) (sym (and_right next.changed (next.partition == partition)
          (ne_eqb next.partition partition other))))
    ])
    ∙ sym (more touched i next number reach partition within is)
