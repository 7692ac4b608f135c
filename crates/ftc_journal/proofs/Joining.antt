-- What was read so far, and what is still to be read.
use Rattle.std.proofs.Common.{◌≡◌, List, [], ◌∷◌, ◌++◌, Result, Ok, Err, refl, sym, ap, ◌∙◌, append_assoc}
use Rattle.ftc_base.specs.Reading.{◌>>=◌}

-- what stands in front of what is still to be read
abbrev pub joined : {A F : Type 0} → List A → Result (List A) F → Result (List A) F
joined held later = later >>= λ more. Ok (held ++ more)

pub joined_more : {A F : Type 0} (held : List A) (item : A) (later : Result (List A) F) →
    joined held (later >>= λ more. Ok (item ∷ more)) ≡ joined (held ++ item ∷ []) later
joined_more held item (Ok more) = ap Ok (sym (append_assoc held (item ∷ []) more))
joined_more held item (Err fault) = refl

pub joined_none : {A F : Type 0} (later : Result (List A) F) → joined [] later ≡ later
joined_none (Ok more) = refl
joined_none (Err fault) = refl

-- one more item is read, where the first part of what is left gives it
pub one_more : {A F : Type 0} (held : List A) (item : A) (first : Result A F) (later whole : Result (List A) F) →
    joined held (first >>= λ a. later >>= λ more. Ok (a ∷ more)) ≡ whole → first ≡ Ok item →
    joined (held ++ item ∷ []) later ≡ whole
one_more held item first later whole told is =
    sym (joined_more held item later) ∙ ap (λ (r : Result _ _). joined held (r >>= λ a. later >>= λ more.
    Ok (a ∷ more))) (sym is) ∙ told

-- the last item
pub last_one : {A F : Type 0} (held : List A) (item : A) (first : Result A F) (whole : Result (List A) F) →
    joined held (first >>= λ a. Ok (a ∷ [])) ≡ whole → first ≡ Ok item → whole ≡ Ok (held ++ item ∷ [])
last_one held item first whole told is = sym told ∙ ap (λ (r : Result _ _). joined held (r >>= λ a. Ok (a ∷ []))) is

-- an item that can't be read
pub none_more : {A F : Type 0} (held : List A) (fault : F) (first : Result A F) (later whole : Result (List A) F) →
    joined held (first >>= λ a. later >>= λ more. Ok (a ∷ more)) ≡ whole → first ≡ Err fault → whole ≡ Err fault
none_more held fault first later whole told is =
    sym told ∙ ap (λ (r : Result _ _). joined held (r >>= λ a. later >>= λ more. Ok (a ∷ more))) is
