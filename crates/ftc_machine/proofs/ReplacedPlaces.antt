-- Places one of which is given something else, beside a function that changes there.
use Rattle.std.proofs.Common.{◌≡◌, ◌≢◌, ℕ, ◌<◌, Bool, true, false, if◌then◌else◌, List, Option, None, length, slice_set}
use Rattle.std.proofs.Common.{slice_index_or, inl, inr, sym, ◌∙◌, ap, subst, arith, get_or-set_same, get_or-set_other}
use Rattle.std.proofs.Math.ListN.{length-set}
use Rattle.std.proofs.lemmas.Bool.{cases_lt}
use Rattle.std.proofs.lemmas.List.{get_or_past}
use Rattle.ftc_serial.specs.Words.{with_at}
use Rattle.ftc_serial.proofs.Functions.{with_at_cases}
use Rattle.ftc_machine.specs.Slots.{slot_at}

-- what is so of each place and of what the function has there still is
pub row_replaced : {A B : Type 0} (R : ℕ → A → B → Type 0) (f : ℕ →
    A) (d : B) (old room new : List B) (place : ℕ) (v : A) (w : B) → new ≡ slice_set room place w → place < length room
    → ((other : ℕ) → other ≢ place → slice_index_or room other d ≡ slice_index_or old other d) → R place v w →
    ((other : ℕ) → R other (f other) (slice_index_or old other d))
    → (other : ℕ) → R other (with_at f place v other) (slice_index_or new other d)
row_replaced {A} {B} R f d old room new place v w is within same here each other =
    let at : slice_index_or new other d ≡ slice_index_or (slice_set room place w) other d =
    ap (λ (rows : List B). slice_index_or rows other d) is in
    with_at_cases (λ (x : A). R other x (slice_index_or new other d)) f place v other
    (λ e.
    let there : slice_index_or (slice_set room place w) other d ≡ w =
    subst (λ p. slice_index_or (slice_set room place w) p d ≡ w) (sym e) (get_or-set_same room place w d within) in
    subst (λ (y : B). R other v y) (sym (at ∙ there)) (subst (λ p. R p v w) (sym e) here))
    (λ ne. subst (λ (y : B). R other (f other) y) (sym (at ∙ get_or-set_other room place other w d ne ∙ same other ne))
    (each other))

-- the same of places that have items or none
pub replaced : {A B : Type 0} (R : ℕ → A → Option B → Type 0) (f : ℕ →
    A) (old room new : List (Option B)) (place : ℕ) (v : A) (w : Option B) → new ≡ slice_set room place w →
    place < length room
    → ((other : ℕ) → other ≢ place → slot_at room other ≡ slot_at old other) → R place v w →
    ((other : ℕ) → R other (f other) (slot_at old other))
    → (other : ℕ) → R other (with_at f place v other) (slot_at new other)
replaced {A} {B} R f old room new place v w is within same here each =
    row_replaced R f None old room new place v w is within same here each

-- the same where the function is given what it had
pub left : {A B : Type 0} (R : ℕ → A → Option B → Type 0) (f : ℕ → A) (old new : List (Option B)) (place : ℕ) (v : A) →
    v ≡ f place
    → ((other : ℕ) → slot_at new other ≡ slot_at old other) → ((other : ℕ) → R other (f other) (slot_at old other))
    → (other : ℕ) → R other (with_at f place v other) (slot_at new other)
left {A} {B} R f old new place v is same each other =
    let there : R other (f other) (slot_at new other) =
    subst (λ (y : Option B). R other (f other) y) (sym (same other)) (each other) in
    with_at_cases (λ (x : A). R other x (slot_at new other)) f place v other
    (λ e. subst (λ (x : A). R other x (slot_at new other)) (ap f e ∙ sym is) there)
    (λ ne. there)

-- what is taken out of one place leaves the others as they were
pub others_left : {B : Type 0} (old new : List (Option B)) (place : ℕ) → new ≡ slice_set old place None → (other : ℕ) →
    other ≢ place → slot_at new other ≡ slot_at old other
others_left {B} old new place is other ne =
    ap (λ (slots : List (Option B)). slot_at slots other) is ∙ get_or-set_other old place other None None ne

-- a place that is given nothing has nothing
pub none_there : {B : Type 0} (slots : List (Option B)) (place : ℕ) → slot_at (slice_set slots place None) place ≡ None
none_there {B} slots place = elim (cases_lt place (length slots)) [
  | inl less ↦ get_or-set_same slots place None None less
  | inr past ↦ get_or_past (slice_set slots place None) place None
      (omega (arith, length-set slots place (let nothing : Option B = None in nothing)))
]

-- the same where a place is left with nothing, be it there or not
pub cleared : {A B : Type 0} (R : ℕ → A → Option B → Type 0) (f : ℕ →
    A) (old new : List (Option B)) (place : ℕ) (v : A) → new ≡ slice_set old place None → R place v None
    → ((other : ℕ) → R other (f other) (slot_at old other)) → (other : ℕ) →
    R other (with_at f place v other) (slot_at new other)
cleared {A} {B} R f old new place v is here each other =
    let at : slot_at new other ≡ slot_at (slice_set old place None) other =
    ap (λ (slots : List (Option B)). slot_at slots other) is in
    with_at_cases (λ (x : A). R other x (slot_at new other)) f place v other
    (λ e.
    let nothing : slot_at (slice_set old place None) other ≡ None =
    subst (λ p. slot_at (slice_set old place None) p ≡ None) (sym e) (none_there old place) in
    subst (λ (y : Option B). R other v y) (sym (at ∙ nothing)) (subst (λ p. R p v None) (sym e) here))
    (λ ne. subst (λ (y : Option B). R other (f other) y) (sym (others_left old new place is other ne)) (each other))

-- the same where the place is given that only where a test is true
pub changed_if : {A B : Type 0} (R : ℕ → A → Option B → Type 0) (f : ℕ →
    A) (old room new : List (Option B)) (place : ℕ) (test given : Bool) (v before : A) (w : Option B) → test ≡ given
    → new ≡ (if test then slice_set room place w else room) → place < length room →
    ((other : ℕ) → other ≢ place → slot_at room other ≡ slot_at old other)
    → R place v w → R place before (slot_at room place) → ((other : ℕ) → R other (f other) (slot_at old other))
    → (other : ℕ) → R other (with_at f place (if given then v else before) other) (slot_at new other)
changed_if {A} {B} R f old room new place test given v before w alike is within same here stays each other =
    subst (λ b. R other (with_at f place (if b then v else before) other) (slot_at new other)) alike
    (elim test as (λ b. new ≡ (if b then slice_set room place w else room) →
    R other (with_at f place (if b then v else before) other) (slot_at new other)) [
      | true ↦ λ set. replaced R f old room new place v w set within same here each other
      | false ↦ λ none_set.
          let at : slot_at new other ≡ slot_at room other =
          ap (λ (slots : List (Option B)). slot_at slots other) none_set in
          with_at_cases (λ (x : A). R other x (slot_at new other)) f place before other
          (λ e. subst (λ (y : Option B). R other before y) (sym at)
          (subst (λ p. R p before (slot_at room p)) (sym e) stays))
          (λ ne. subst (λ (y : Option B). R other (f other) y) (sym (at ∙ same other ne)) (each other))
    ] is)
