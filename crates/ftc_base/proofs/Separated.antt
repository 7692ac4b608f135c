-- Parts that are joined by a separator are found again.
use Rattle.std.proofs.Common.{◌≡◌, ℕ, Bool, true, false, List, [], ◌∷◌, ◌++◌, refl, ap, ◌∙◌}
use Rattle.std.specs.Prelude.{◌==◌, ◌&&◌, not}
use Rattle.std.specs.List.{AllByRecursion, list_all, join_with_byte, onto_first}
use Rattle.std.proofs.lemmas.Bool.{not-true, and_parts}
use Rattle.ftc_base.specs.Endpoint.{parts_of}
use Rattle.ftc_base.proofs.EachOf.{all-append}

-- no byte of the part is the separator
abbrev pub Without : ℕ → List ℕ → Type 0
Without separator part = AllByRecursion (λ b. (b == separator) ≡ false) part

pub without-append : (separator : ℕ) (xs ys : List ℕ) → Without separator xs → Without separator ys
    → Without separator (xs ++ ys)
without-append separator xs ys all more = all-append (λ b. (b == separator) ≡ false) xs ys all more

-- a word that is written out
pub written : (separator : ℕ) (word : List ℕ) → list_all (λ b. not (b == separator)) word ≡ true
    → Without separator word
written separator [] e = tt
written separator (b ∷ bs) e =
    let split = and_parts (not (b == separator)) (list_all (λ b. not (b == separator)) bs) e in
    (not-true (b == separator) split.0, written separator bs split.1)

pub parts_of-part : (separator : ℕ) (part rest : List ℕ) → (separator == separator) ≡ true → Without separator part
    → parts_of separator (part ++ separator ∷ rest) ≡ part ∷ parts_of separator rest
parts_of-part separator [] rest same all = rw same refl
parts_of-part separator (b ∷ bs) rest same all =
    rw all.0 (ap (onto_first b) (parts_of-part separator bs rest same all.1))

pub parts_of-last : (separator : ℕ) (part : List ℕ) → Without separator part → parts_of separator part ≡ part ∷ []
parts_of-last separator [] all = refl
parts_of-last separator (b ∷ bs) all = rw all.0 (ap (onto_first b) (parts_of-last separator bs all.1))

pub parts_of-join : (separator : ℕ) (part : List ℕ) (parts : List (List ℕ)) → (separator == separator) ≡ true
    → AllByRecursion (Without separator) (part ∷ parts)
    → parts_of separator (join_with_byte separator (part ∷ parts)) ≡ part ∷ parts
parts_of-join separator part [] same all = parts_of-last separator part all.0
parts_of-join separator part (next ∷ parts) same all =
    parts_of-part separator part (join_with_byte separator (next ∷ parts)) same all.0
    ∙ ap (λ (ps : List (List ℕ)). part ∷ ps) (parts_of-join separator next parts same all.1)

pub without-join : (separator by : ℕ) (parts : List (List ℕ)) → (by == separator) ≡ false
    → AllByRecursion (Without separator) parts → Without separator (join_with_byte by parts)
without-join separator by [] other all = tt
without-join separator by (part ∷ []) other all = all.0
without-join separator by (part ∷ next ∷ parts) other all =
    without-append separator part (by ∷ join_with_byte by (next ∷ parts)) all.0
    (other, without-join separator by (next ∷ parts) other all.1)
