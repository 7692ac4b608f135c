-- The lines of texts that are put together.
use Rattle.std.proofs.Common.{◌≡◌, ◌≢◌, ◌⊎◌, inl, inr, ℕ, Bool, true, false, List, [], ◌∷◌, ◌++◌, refl, ap, ◌∙◌}
use Rattle.std.specs.Prelude.{◌==◌, if◌then◌else◌}
use Rattle.std.specs.List.{onto_first}
use Rattle.std.proofs.lemmas.Bool.{ne_eqb}
use Rattle.ftc_base.specs.Text.{lines_of}
use Rattle.ftc_outside.specs.Tap.{HasNoFeed}

-- the text is empty, or its last byte is a line feed
abbrev pub IsWhole : List ℕ → Type 0
IsWhole [] = Unit {0}
IsWhole (b ∷ []) = b ≡ 10
IsWhole (b ∷ c ∷ bs) = IsWhole (c ∷ bs)

pub whole_before_feed : (before : List ℕ) → IsWhole (before ++ 10 ∷ [])
whole_before_feed [] = refl
whole_before_feed (b ∷ []) = refl
whole_before_feed (b ∷ c ∷ bs) = whole_before_feed (c ∷ bs)

-- what stands behind a front of such a text is one
pub whole_rest : (front rest : List ℕ) → IsWhole (front ++ rest) → IsWhole rest
whole_rest [] rest whole = whole
whole_rest (b ∷ []) [] whole = tt
whole_rest (b ∷ []) (r ∷ rest) whole = whole
whole_rest (b ∷ c ∷ bs) rest whole = whole_rest (c ∷ bs) rest whole

onto_first-append : (b : ℕ) (xs ys : List (List ℕ)) → xs ≢ [] → onto_first b (xs ++ ys) ≡ onto_first b xs ++ ys
onto_first-append b [] ys some = absurd (some refl)
onto_first-append b (x ∷ xs) ys some = refl

onto_first-some : (b : ℕ) (xs : List (List ℕ)) → onto_first b xs ≢ []
onto_first-some b [] = λ e. cc
onto_first-some b (x ∷ xs) = λ e. cc

lines_some : (b : ℕ) (bs : List ℕ) → lines_of (b ∷ bs) ≢ []
lines_some b bs = elim (b == 10) as (λ (t : Bool). (if t then [] ∷ lines_of bs
    else onto_first b (lines_of bs)) ≢ []) [ true ↦ λ e. cc | false ↦ onto_first-some b (lines_of bs) ]

-- a text whose last line has ended keeps its lines, whatever follows
pub lines_together : (front rest : List ℕ) → IsWhole front → lines_of (front ++ rest) ≡ lines_of front ++ lines_of rest
lines_together [] rest whole = refl
lines_together (b ∷ []) rest whole = let feed : b ≡ 10 = whole in rw feed refl
lines_together (b ∷ c ∷ bs) rest whole =
    let later = lines_together (c ∷ bs) rest whole in
    elim (b == 10) as (λ (t : Bool). (if t then [] ∷ lines_of ((c ∷ bs) ++ rest)
    else onto_first b (lines_of ((c ∷ bs) ++ rest))) ≡ (if t then [] ∷ lines_of (c ∷ bs)
    else onto_first b (lines_of (c ∷ bs))) ++ lines_of rest) [
      | true ↦ ap (λ (ls : List (List ℕ)). [] ∷ ls) later
      | false ↦ ap (onto_first b) later ∙ onto_first-append b (lines_of (c ∷ bs)) (lines_of rest) (lines_some c bs)
    ]

-- a line, with its line feed or without
abbrev pub IsPiece : List ℕ → List ℕ → Type 0
IsPiece piece line = HasNoFeed line × ((piece ≡ line ++ 10 ∷ []) ⊎ ((piece ≡ line) × (line ≢ [])))

line_with_feed : (line : List ℕ) → HasNoFeed line → lines_of (line ++ 10 ∷ []) ≡ line ∷ []
line_with_feed [] plain = refl
line_with_feed (b ∷ bs) plain =
    let other : (b == 10) ≡ false = ne_eqb b 10 plain.0 in
    rw (other, line_with_feed bs plain.1) refl

line_alone : (b : ℕ) (bs : List ℕ) → HasNoFeed (b ∷ bs) → lines_of (b ∷ bs) ≡ (b ∷ bs) ∷ []
line_alone b [] plain = let other : (b == 10) ≡ false = ne_eqb b 10 plain.0 in rw other refl
line_alone b (c ∷ bs) plain =
    let other : (b == 10) ≡ false = ne_eqb b 10 plain.0 in
    rw other (ap (onto_first b) (line_alone c bs plain.1))

line_not_empty : (line : List ℕ) → HasNoFeed line → line ≢ [] → lines_of line ≡ line ∷ []
line_not_empty [] plain some = absurd (some refl)
line_not_empty (b ∷ bs) plain some = line_alone b bs plain

pub lines_of_piece : (piece line : List ℕ) → IsPiece piece line → lines_of piece ≡ line ∷ []
lines_of_piece piece line (plain, inl ended) = rw ended (line_with_feed line plain)
lines_of_piece piece line (plain, inr (same, some)) = rw same (line_not_empty line plain some)

ends_with_feed : (front rest line : List ℕ) → IsWhole front → front ≢ [] → HasNoFeed line →
    front ++ rest ≡ line ++ 10 ∷ [] → rest ≡ []
ends_with_feed [] rest line whole some plain same = absurd (some refl)
ends_with_feed (x ∷ []) rest [] whole some plain same = cc
ends_with_feed (x ∷ []) rest (b ∷ bs) whole some plain same = let feed : b ≡ 10 = cc in absurd (plain.0 feed)
ends_with_feed (x ∷ y ∷ xs) rest [] whole some plain same = absurd (cc)
ends_with_feed (x ∷ y ∷ xs) rest (b ∷ bs) whole some plain same =
    ends_with_feed (y ∷ xs) rest bs whole (λ e. cc) plain.1 (cc)

has_feed : (front rest line : List ℕ) → IsWhole front → front ≢ [] → HasNoFeed line → front ++ rest ≡ line → ⊥
has_feed [] rest line whole some plain same = some refl
has_feed (x ∷ xs) rest [] whole some plain same = cc
has_feed (x ∷ []) rest (b ∷ bs) whole some plain same = let feed : b ≡ 10 = cc in plain.0 feed
has_feed (x ∷ y ∷ xs) rest (b ∷ bs) whole some plain same = has_feed (y ∷ xs) rest bs whole (λ e. cc) plain.1 (cc)

-- a line is cut nowhere
pub piece_is_one : (front rest piece line : List ℕ) → IsPiece piece line → IsWhole front → front ≢ [] →
    front ++ rest ≡ piece → rest ≡ []
piece_is_one front rest piece line (plain, inl ended) whole some same =
    ends_with_feed front rest line whole some plain (same ∙ ended)
piece_is_one front rest piece line (plain, inr (alone, line-some)) whole some same =
    absurd (has_feed front rest line whole some plain (same ∙ alone))

-- such a text in the specification's words
pub whole_parts : (text : List ℕ) → IsWhole text → (text ≡ []) ⊎ ((before : List ℕ) × (text ≡ before ++ 10 ∷ []))
whole_parts [] whole = inl refl
whole_parts (b ∷ []) whole = inr ([], ap (λ (x : ℕ). x ∷ []) whole)
whole_parts (b ∷ c ∷ bs) whole = elim (whole_parts (c ∷ bs) whole) [
  | inl none ↦ absurd (cc)
  | inr ended ↦ inr (b ∷ ended.0, ap (λ (xs : List ℕ). b ∷ xs) ended.1)
]
