-- The next line of those that are left.
use Rattle.std.proofs.Common.{◌≡◌, ◌≢◌, ◌∙◌, ◌<◌, ◌≤◌, ◌∷◌, ℕ, suc, zero, Bool, true, List, [], Option, Some, None}
use Rattle.std.proofs.Common.{drop, length, refl, sym, ap, subst, arith}
use Rattle.std.specs.Prelude.{◌↔◌, slice_get}
use Rattle.std.specs.List.{AllByRecursion}
use Rattle.std.proofs.lemmas.Option.{none-some, same_Some}
use Rattle.ftc_script.specs.declared.line.ScriptLine.{ScriptLine}
use Rattle.ftc_script.specs.Steps.{at_of}
use Rattle.ftc_protocol.specs.Legal.{IsNextLine}
use Rattle.ftc_jobs.proofs.LinesInOrder.{AreFrom}

-- the line of that number, with those behind it
pub line_at : (steps : List ScriptLine) (done : ℕ) (line : ScriptLine) → slice_get steps done ≡ Some line →
    (rest : List ScriptLine) × (drop done steps ≡ line ∷ rest)
line_at [] done line is = absurd (none-some line is)
line_at (step ∷ steps) zero line is = (steps, ap (λ (s : ScriptLine). s ∷ steps) (same_Some step line is))
line_at (step ∷ steps) (suc done) line is = line_at steps done line is

pub none_left : (steps : List ScriptLine) (done : ℕ) → length steps ≤ done → drop done steps ≡ []
none_left [] zero past = refl
none_left [] (suc done) past = refl
none_left (step ∷ steps) zero past = absurd (omega (arith, past))
none_left (step ∷ steps) (suc done) past = none_left steps done (omega (arith, past))

-- only the first is next
pub next_of_first : (lines : List ScriptLine) (first : ScriptLine) (rest : List ScriptLine) (line : ScriptLine) →
    lines ≡ first ∷ rest → IsNextLine lines line → first ≡ line
next_of_first lines first rest line same next = subst (λ (list : List ScriptLine). IsNextLine list line) same next

pub first_is_next : (lines : List ScriptLine) (first : ScriptLine) (rest : List ScriptLine) → lines ≡ first ∷ rest →
    IsNextLine lines first
first_is_next lines first rest same = subst (λ (list : List ScriptLine). IsNextLine list first) (sym same) refl

pub none_next : (lines : List ScriptLine) (line : ScriptLine) → lines ≡ [] → IsNextLine lines line → ⊥
none_next lines line none next = subst (λ (list : List ScriptLine). IsNextLine list line) none next

-- ---- lines in order

all_later : (lines : List ScriptLine) (entered at : ℕ) → entered < at → AreFrom at lines →
    AllByRecursion (λ (line : ScriptLine). at_of line ≢ entered) lines
all_later [] entered at less order = tt
all_later (line ∷ lines) entered at less order =
    let first : at ≤ at_of line = order.0 in (
      (λ same. omega (arith, first, less, same)),
      all_later lines entered (at_of line) (omega (arith, first, less)) order.1,
    )

-- where the next isn't for so many packets, none is
pub none_for : (lines : List ScriptLine) (entered : ℕ) → AreFrom entered lines →
    ((line : ScriptLine) → IsNextLine lines line → at_of line ≡ entered → ⊥) →
    AllByRecursion (λ (line : ScriptLine). at_of line ≢ entered) lines
none_for [] entered order other = tt
none_for (line ∷ lines) entered order other =
    let isnt : at_of line ≢ entered = other line refl in
    let first : entered ≤ at_of line = order.0 in
    (isnt, all_later lines entered (at_of line) (omega (arith, isnt, first)) order.1)

-- and none of all is the next
pub not_for : (lines : List ScriptLine) (entered : ℕ) (line : ScriptLine) →
    AllByRecursion (λ (line : ScriptLine). at_of line ≢ entered) lines → IsNextLine lines line → at_of line ≢ entered
not_for [] entered line all next same = next
not_for (first ∷ lines) entered line all next same = all.0 (ap at_of next ∙ same)

-- ---- lines of a kind

module _ (make : ℕ → ScriptLine) (at_made : (at : ℕ) → at_of (make at) ≡ at) (lines : List ScriptLine) (entered : ℕ)
    (found : Option ScriptLine)
    (says : (line : ScriptLine) → (found ≡ Some line) ↔ (IsNextLine lines line × (at_of line ≡ entered)))
  where
    -- the line that was found is of the kind exactly where one of the kind is next and due
    pub kind_found : (line : ScriptLine) (test : Bool) → found ≡ Some line →
        (test ≡ true) ↔ ((at : ℕ) × (line ≡ make at)) → (test ≡ true) ↔ IsNextLine lines (make entered)
    kind_found line test is tests = (
      (λ so.
          let made = tests.0 so in
          let next = (says line).0 is in
          let due : made.0 ≡ entered = sym (at_made made.0) ∙ (sym (ap at_of made.1) ∙ next.1) in
          subst (λ (at : ℕ). IsNextLine lines (make at)) due (subst (IsNextLine lines) made.1 next.0)),
      (λ next. tests.1
          (entered, same_Some line (make entered) (sym is ∙ (says (make entered)).1 (next, at_made entered)))),
    )

    pub none_of_kind : found ≡ None → IsNextLine lines (make entered) → ⊥
    none_of_kind none next = none-some (make entered) (sym none ∙ (says (make entered)).1 (next, at_made entered))
