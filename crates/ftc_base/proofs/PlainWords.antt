-- Texts of printed words: their lines and words are found again.
use Rattle.std.proofs.Common.{◌≡◌, ◌≤◌, ℕ, Bool, true, false, List, [], ◌∷◌, ◌++◌, length, refl, ap, ◌∙◌, arith}
use Rattle.std.specs.Prelude.{◌==◌, ◌&&◌, nat_le, nat_lt}
use Rattle.std.specs.List.{AllByRecursion, list_all, join_with_byte, onto_first}
use Rattle.std.proofs.lemmas.Bool.Decides.{nat_tests}
use Rattle.std.proofs.lemmas.Bool.{and_parts}
use Rattle.ftc_base.specs.Text.{is_blank, lines_of, words_of, begin_word}
use Rattle.ftc_base.proofs.EachOf.{all-append, all-weaker}

-- a byte of a word, and a byte of a line
abbrev pub IsLetter : ℕ → Type 0
IsLetter b = (33 ≤ b) × (b ≤ 126)

abbrev pub IsLineByte : ℕ → Type 0
IsLineByte b = (32 ≤ b) × (b ≤ 126)

pub record IsPlainWord (word : List ℕ) : Type 0 where
  pub some : 1 ≤ length word
  pub letters : AllByRecursion IsLetter word

letter-blank : (b : ℕ) → IsLetter b → is_blank b ≡ false
letter-blank b letter = grind (arith, nat_tests)

line_byte-feed : (b : ℕ) → IsLineByte b → (b == 10) ≡ false
line_byte-feed b byte = grind (arith, nat_tests)

letter_is_line_byte : (b : ℕ) → IsLetter b → IsLineByte b
letter_is_line_byte b letter = (omega arith, letter.1)

-- a line before a line feed is found
pub lines_of-line : (line rest : List ℕ) → AllByRecursion IsLineByte line
    → lines_of (line ++ 10 ∷ rest) ≡ line ∷ lines_of rest
lines_of-line [] rest all = refl
lines_of-line (b ∷ bs) rest all = rw (line_byte-feed b all.0) (ap (onto_first b) (lines_of-line bs rest all.1))

-- a word before a blank, and one at the end, are found
more_letters : (b c : ℕ) (bs word : List ℕ) (ws : List (List ℕ)) → is_blank b ≡ false → is_blank c ≡ false
    → words_of (c ∷ bs) ≡ word ∷ ws → words_of (b ∷ c ∷ bs) ≡ (b ∷ word) ∷ ws
more_letters b c bs word ws eb ec later =
    let ih : begin_word c bs (words_of bs) ≡ word ∷ ws = simp ec at later in
    let more : onto_first b (begin_word c bs (words_of bs)) ≡ (b ∷ word) ∷ ws = ap (onto_first b) ih in
    rw (eb, ec) more

pub words_of-word : (word rest : List ℕ) → 1 ≤ length word → AllByRecursion IsLetter word
    → words_of (word ++ 32 ∷ rest) ≡ word ∷ words_of rest
words_of-word [] rest some all = absurd (omega arith)
words_of-word (b ∷ []) rest some all = rw (letter-blank b all.0) refl
words_of-word (b ∷ c ∷ bs) rest some all =
    more_letters b c (bs ++ 32 ∷ rest) (c ∷ bs) (words_of rest) (letter-blank b all.0) (letter-blank c all.1.0)
    (words_of-word (c ∷ bs) rest (omega arith) all.1)

pub words_of-last : (word : List ℕ) → 1 ≤ length word → AllByRecursion IsLetter word → words_of word ≡ word ∷ []
words_of-last [] some all = absurd (omega arith)
words_of-last (b ∷ []) some all = rw (letter-blank b all.0) refl
words_of-last (b ∷ c ∷ bs) some all =
    more_letters b c bs (c ∷ bs) [] (letter-blank b all.0) (letter-blank c all.1.0)
    (words_of-last (c ∷ bs) (omega arith) all.1)

pub words_of-join : (words : List (List ℕ)) → AllByRecursion IsPlainWord words
    → words_of (join_with_byte 32 words) ≡ words
words_of-join [] all = refl
words_of-join (word ∷ []) all = words_of-last word all.0.some all.0.letters
words_of-join (word ∷ next ∷ words) all =
    words_of-word word (join_with_byte 32 (next ∷ words)) all.0.some all.0.letters
    ∙ ap (λ (ws : List (List ℕ)). word ∷ ws) (words_of-join (next ∷ words) all.1)

word_bytes : (word : List ℕ) → AllByRecursion IsLetter word → AllByRecursion IsLineByte word
word_bytes word all = all-weaker IsLetter IsLineByte letter_is_line_byte word all

pub line_bytes-join : (words : List (List ℕ)) → AllByRecursion IsPlainWord words
    → AllByRecursion IsLineByte (join_with_byte 32 words)
line_bytes-join [] all = tt
line_bytes-join (word ∷ []) all = word_bytes word all.0.letters
line_bytes-join (word ∷ next ∷ words) all =
    all-append IsLineByte word (32 ∷ join_with_byte 32 (next ∷ words)) (word_bytes word all.0.letters)
    ((omega arith, omega arith), line_bytes-join (next ∷ words) all.1)

-- whether a word that is written out is plain
abbrev pub is_plain : List ℕ → Bool
is_plain word = nat_lt 0 (length word) && list_all (λ b. nat_le 33 b && nat_le b 126) word

letters : (word : List ℕ) → list_all (λ b. nat_le 33 b && nat_le b 126) word ≡ true → AllByRecursion IsLetter word
letters [] e = tt
letters (b ∷ bs) e =
    let split = and_parts (nat_le 33 b && nat_le b 126) (list_all (λ b. nat_le 33 b && nat_le b 126) bs) e in
    let first = and_parts (nat_le 33 b) (nat_le b 126) split.0 in
    ((grind (arith, nat_tests, first.0), grind (arith, nat_tests, first.1)), letters bs split.1)

pub plain : (word : List ℕ) → is_plain word ≡ true → IsPlainWord word
plain word e =
    let split = and_parts (nat_lt 0 (length word)) (list_all (λ b. nat_le 33 b && nat_le b 126) word) e in
    record { some = grind (arith, nat_tests, split.0); letters = letters word split.1 }
