-- Lists whose back has nothing yet.
use Rattle.std.proofs.Common.{◌≡◌, ℕ, zero, suc, ◌+◌, ◌-◌, ◌<◌, ◌≤◌, List, [], ◌∷◌, ◌++◌, length, Option, Some, None}
use Rattle.std.proofs.Common.{sym, ap, ◌∙◌, append_assoc, arith}
use Rattle.std.specs.Prelude.{replicate, slice_set}
use Rattle.std.specs.List.{AllByRecursion}
use Rattle.std.proofs.lemmas.List.{set_at, replicate-append-replicate, length-append, length-replicate}

abbrev pub blanks : {A : Type 0} → ℕ → List (Option A)
blanks k = replicate k None

-- the copies before a place, the copy there, and the copies behind it
pub copies_split : {A : Type 0} (blank : A) (k j : ℕ) → j < k →
    replicate k blank ≡ replicate j blank ++ blank ∷ replicate (k - (j + 1)) blank
copies_split {A = A} blank k j under =
    let count : k ≡ j + suc (k - (j + 1)) = omega arith in
    ap (λ (n : ℕ). replicate n blank) count ∙ sym (replicate-append-replicate j (suc (k - (j + 1))) blank)

-- the copies behind a front, split at a place
pub split_at : {A : Type 0} (blank : A) (front : List A) (k from place : ℕ) → length front ≡ from → from ≤ place →
    place < from + k
    → front ++ replicate k blank ≡ (front ++ replicate (place - from) blank)
    ++ blank ∷ replicate (k - (place - from + 1)) blank
split_at blank front k from place size low high =
    ap (λ (xs : List _). front ++ xs) (copies_split blank k (place - from) (omega arith)) ∙ sym
    (append_assoc front (replicate (place - from) blank) (blank ∷ replicate (k - (place - from + 1)) blank))

pub length_before : {A : Type 0} (blank : A) (front : List A) (from place : ℕ) → length front ≡ from → from ≤ place →
    length (front ++ replicate (place - from) blank) ≡ place
length_before {A = A} blank front from place size low =
    omega (arith, length-append front (replicate (place - from) blank), length-replicate {A = A} (place - from) blank)

-- a copy is replaced
pub replace : {A : Type 0} (blank : A) (front : List A) (k from place : ℕ) (value : A) → length front ≡ from →
    from ≤ place → place < from + k
    → slice_set (front ++ replicate k blank) place value ≡ (front ++ (replicate (place - from) blank ++ value ∷ []))
    ++ replicate (k - (place - from + 1)) blank
replace {A = A} blank front k from place value size low high =
    let behind : List A = replicate (k - (place - from + 1)) blank in
    let regrouped : (front ++ replicate (place - from) blank) ++ value ∷ behind
    ≡ (front ++ (replicate (place - from) blank ++ value ∷ [])) ++ behind = simp append_assoc in
    ap (λ (xs : List A). slice_set xs place value) (split_at blank front k from place size low high) ∙ set_at (front
    ++ replicate (place - from) blank) blank behind value place
    (length_before blank front from place size low) ∙ regrouped

-- what stands behind a value that was put behind copies
pub put_behind : {A : Type 0} (front copies : List A) (value : A) (back : List A) →
    (front ++ (copies ++ value ∷ [])) ++ back ≡ front ++ (copies ++ value ∷ back)
put_behind {A = A} front copies value back =
    append_assoc front (copies ++ value ∷ []) back
    ∙ ap (λ (xs : List A). front ++ xs) (append_assoc copies (value ∷ []) back)

pub length_behind : {A : Type 0} (blank : A) (k j : ℕ) (value : A) (back : List A) → j < k →
    length back ≡ k - (j + 1) → length (replicate j blank ++ value ∷ back) ≡ k
length_behind {A = A} blank k j value back under size =
    omega (arith, length-append (replicate j blank) (value ∷ back), length-replicate {A = A} j blank)

-- a blank is filled
pub fill : {A : Type 0} (front : List (Option A)) (k from place : ℕ) (value : A) → length front ≡ from → from ≤ place →
    place < from + k
    → slice_set (front ++ blanks k) place (Some value) ≡ (front ++ (blanks (place - from) ++ Some value ∷ []))
    ++ blanks (k - (place - from + 1))
fill front k from place value size low high = replace None front k from place (Some value) size low high

pub length_filled : {A : Type 0} (front : List (Option A)) (from place : ℕ) (value : A) → length front ≡ from →
    from ≤ place → length (front ++ (blanks (place - from) ++ Some value ∷ [])) ≡ place + 1
length_filled {A = A} front from place value size low =
    omega (
      arith,
      length-append front (blanks (place - from) ++ Some value ∷ []),
      length-append (blanks {A = A} (place - from)) (Some value ∷ []),
      length-replicate {A = Option A} (place - from) None,
    )

-- what holds of None holds of blanks, and of what follows them
pub all_blanks : {A : Type 0} (P : Option A → Type 0) → P None → (k : ℕ) → AllByRecursion P (blanks k)
all_blanks P none zero = tt
all_blanks P none (suc k) = (none, all_blanks P none k)

pub all_behind : {A : Type 0} (P : Option A → Type 0) → P None → (k : ℕ) (xs : List (Option A)) → AllByRecursion P xs →
    AllByRecursion P (blanks k ++ xs)
all_behind P none zero xs each = each
all_behind P none (suc k) xs each = (none, all_behind P none k xs each)
