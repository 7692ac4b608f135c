-- The first part of a word.
use Rattle.std.proofs.Common.{◌≡◌, ℕ, ◌+◌, ◌-◌, ◌<◌, ◌≤◌, Bool, true, false, List, [], ◌∷◌, length, take, drop, refl}
use Rattle.std.proofs.Common.{sym, ap, ◌∙◌, arith, length-drop}
use Rattle.std.specs.Prelude.{◌==◌}
use Rattle.std.specs.List.{slice_split, onto_first, position_or_len}
use Rattle.std.proofs.lemmas.List.{take_all, drop-drop}
use Rattle.std.proofs.lemmas.List.Splits.{slice_split_first}
use Rattle.std.specs.Prelude.{Err, codes}
use Rattle.std.specs.Str.{bytes_eq}
use Rattle.std.proofs.Common.{cond}
use Rattle.ftc_base.specs.declared.lexer.Lexical.TheVariants.{NotAddress}
use Rattle.ftc_base.specs.Endpoint.{parts_of, address_in, address_of, net_in, net_of}

-- where no byte is the separator, the word is its own one part
one_part_tail : (p : ℕ → Bool) (b : ℕ) (bs : List ℕ) (t : Bool) → p b ≡ t →
    (position_or_len p bs ≡ length bs → slice_split p bs ≡ bs ∷ []) → position_or_len p (b ∷ bs) ≡ length (b ∷ bs) →
    slice_split p (b ∷ bs) ≡ (b ∷ bs) ∷ []
one_part_tail p b bs true e later all = absurd (omega (arith, rw e at all))
one_part_tail p b bs false e later all =
    let rest : position_or_len p bs ≡ length bs = omega (arith, rw e at all) in
    rw (e, later rest) refl

pub one_part : (p : ℕ → Bool) (bs : List ℕ) → position_or_len p bs ≡ length bs → slice_split p bs ≡ bs ∷ []
one_part p [] all = refl
one_part p (b ∷ bs) all = one_part_tail p b bs (p b) refl (one_part p bs) all

pub part_none : (separator : ℕ) (word rest : List ℕ) (n : ℕ) → n ≡ position_or_len (λ b. b == separator) word →
    rest ≡ drop n word → n ≤ length word → length rest ≡ 0 → parts_of separator word ≡ word ∷ []
part_none separator word rest n n-is rest-is within none =
    one_part (λ b. b == separator) word (omega (arith, ap length rest-is, length-drop n word, n-is))

behind : (n : ℕ) (word : List ℕ) → drop (n + 1) word ≡ drop 1 (drop n word)
behind n word = sym (drop-drop 1 n word)

pub part_found : (separator : ℕ) (word part rest : List ℕ) (n : ℕ) → n ≡ position_or_len (λ b. b == separator) word →
    part ≡ take n word → rest ≡ drop n word → n ≤ length word → 1 ≤ length rest →
    parts_of separator word ≡ part ∷ parts_of separator (take (length rest - 1) (drop 1 rest))
part_found separator word part rest n n-is part-is rest-is within some =
    let inside : position_or_len (λ b. b == separator) word < length word =
    omega (arith, ap length rest-is, length-drop n word, n-is) in
    let found = slice_split_first (λ b. b == separator) word 0 inside in
    let all : take (length rest - 1) (drop 1 rest) ≡ drop 1 rest =
    take_all (length rest - 1) (drop 1 rest) (omega (arith, length-drop 1 rest)) in
    rw (
      all,
      part-is,
      rest-is,
      n-is,
    ) (found ∙ ap (λ (after : List ℕ). take (position_or_len (λ b. b == separator) word) word
    ∷ parts_of separator after) (behind (position_or_len (λ b. b == separator) word) word))

-- a word has at least one part
pub some_part : (separator : ℕ) (word : List ℕ) → (part : List ℕ) × (parts : List (List ℕ))
    × (parts_of separator word ≡ part ∷ parts)
some_part separator [] = ([], [], refl)
some_part separator (b ∷ word) =
    elim (b == separator) as (λ t. (part : List ℕ) × (parts : List (List ℕ))
    × (cond t ([] ∷ parts_of separator word) (onto_first b (parts_of separator word)) ≡ part ∷ parts)) [
      | true ↦ ([], parts_of separator word, refl)
      | false ↦ (let later = some_part separator word in (b ∷ later.0, later.1, ap (onto_first b) later.2))
    ]

-- an address has no fifth part, and a net no third
pub five_parts : (word first second third fourth last rest later after : List ℕ) →
    parts_of 46 word ≡ first ∷ parts_of 46 rest → parts_of 46 rest ≡ second ∷ parts_of 46 later →
    parts_of 46 later ≡ third ∷ parts_of 46 fourth → parts_of 46 fourth ≡ last ∷ parts_of 46 after →
    Err NotAddress ≡ address_of word
five_parts word first second third fourth last rest later after is1 is2 is3 is4 =
    let more = some_part 46 after in
    sym (ap address_in (is1 ∙ ap (λ (ps : List (List ℕ)). first
    ∷ ps) (is2 ∙ ap (λ (ps : List (List ℕ)). second
    ∷ ps) (is3 ∙ ap (λ (ps : List (List ℕ)). third ∷ ps) (is4 ∙ ap (λ (ps : List (List ℕ)). last ∷ ps) more.2)))))

pub three_parts : (word first second last after : List ℕ) → bytes_eq word (codes "any") ≡ false →
    parts_of 47 word ≡ first ∷ parts_of 47 second → parts_of 47 second ≡ last ∷ parts_of 47 after →
    Err NotAddress ≡ net_of word
three_parts word first second last after other is1 is2 =
    let more = some_part 47 after in
    rw other (sym (ap net_in
    (is1 ∙ ap (λ (ps : List (List ℕ)). first ∷ ps) (is2 ∙ ap (λ (ps : List (List ℕ)). last ∷ ps) more.2))))
