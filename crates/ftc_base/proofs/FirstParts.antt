-- The first line of a text, and the first word of a line.
use Rattle.std.proofs.Common.{sym, subst, ◌∙◌, ◌≤◌, ◌-◌, length-drop, ◌≡◌, ◌≢◌, ℕ, ◌<◌, Bool, true, false, List, []}
use Rattle.std.proofs.Common.{◌∷◌, length, take, drop, refl, ap, arith}
use Rattle.std.specs.Prelude.{◌==◌}
use Rattle.std.proofs.lemmas.List.{take_all, nil_from_length}
use Rattle.std.specs.List.{onto_first}
use Rattle.ftc_base.specs.Text.{is_blank, lines_of, words_of, begin_word, line_length, letters_length, blanks_length}

-- the text begins with its first line
abbrev pub FirstLine : List ℕ → Type 0
FirstLine text = lines_of text ≡ take (line_length text) text ∷ lines_of (drop 1 (drop (line_length text) text))

first_line_tail : (b : ℕ) (bs : List ℕ) (t : Bool) → (b == 10) ≡ t → (bs ≢ [] → FirstLine bs) → FirstLine (b ∷ bs)
first_line_tail b bs true e later = rw e refl
first_line_tail b [] false e later = rw e refl
first_line_tail b (c ∷ bs) false e later =
    let some : (c ∷ bs) ≢ [] = λ h. cc in
    rw (e, later some) refl

pub first_line : (text : List ℕ) → text ≢ [] → FirstLine text
first_line [] some = absurd (some refl)
first_line (b ∷ bs) some = first_line_tail b bs (b == 10) refl (first_line bs)

-- blanks in front are passed over
skip_blanks_tail : (b : ℕ) (bs : List ℕ) (t : Bool) → is_blank b ≡ t →
    words_of bs ≡ words_of (drop (blanks_length bs) bs) →
    words_of (b ∷ bs) ≡ words_of (drop (blanks_length (b ∷ bs)) (b ∷ bs))
skip_blanks_tail b bs true e later = rw e later
skip_blanks_tail b bs false e later = let none : drop (blanks_length (b ∷ bs)) (b ∷ bs) ≡ (b ∷ bs) =
    rw e refl in ap words_of (sym none)

pub skip_blanks : (line : List ℕ) → words_of line ≡ words_of (drop (blanks_length line) line)
skip_blanks [] = refl
skip_blanks (b ∷ bs) = skip_blanks_tail b bs (is_blank b) refl (skip_blanks bs)

-- what follows blanks begins with a letter
abbrev pub BeginsWithLetter : List ℕ → Type 0
BeginsWithLetter [] = Unit {0}
BeginsWithLetter (b ∷ bs) = is_blank b ≡ false

letter_next_tail : (b : ℕ) (bs : List ℕ) (t : Bool) → is_blank b ≡ t → BeginsWithLetter (drop (blanks_length bs) bs) →
    BeginsWithLetter (drop (blanks_length (b ∷ bs)) (b ∷ bs))
letter_next_tail b bs true e later = rw e later
letter_next_tail b bs false e later = rw e e

pub letter_next : (line : List ℕ) → BeginsWithLetter (drop (blanks_length line) line)
letter_next [] = tt
letter_next (b ∷ bs) = letter_next_tail b bs (is_blank b) refl (letter_next bs)

-- a line that begins with a letter begins with a word
abbrev pub FirstWord : List ℕ → Type 0
FirstWord line = words_of line ≡ take (letters_length line) line ∷ words_of (drop (letters_length line) line)

first_word_tail : (b : ℕ) (bs : List ℕ) (t : Bool) → is_blank b ≡ false →
    (BeginsWithLetter bs → bs ≢ [] → FirstWord bs) → ((c : ℕ) (cs : List ℕ) → bs ≡ c ∷ cs → is_blank c ≡ t) →
    FirstWord (b ∷ bs)
first_word_tail b [] t e later next = rw e refl
first_word_tail b (c ∷ bs) true e later next =
    let space : is_blank c ≡ true = next c bs refl in
    rw (e, space, space) refl
first_word_tail b (c ∷ bs) false e later next =
    let letter : is_blank c ≡ false = next c bs refl in
    let some : (c ∷ bs) ≢ [] = λ h. cc in
    let ih : begin_word c bs (words_of bs) ≡ (c ∷ take (letters_length bs) bs)
    ∷ words_of (drop (letters_length bs) bs) = simp letter at (later letter some) in
    let more : onto_first b (begin_word c bs (words_of bs)) ≡ (b ∷ c ∷ take (letters_length bs) bs)
    ∷ words_of (drop (letters_length bs) bs) = ap (onto_first b) ih in
    rw (e, letter) more

pub first_word : (line : List ℕ) → BeginsWithLetter line → line ≢ [] → FirstWord line
first_word [] letter some = absurd (some refl)
first_word (b ∷ []) letter some = first_word_tail b [] true letter (first_word []) (λ c cs e. absurd cc)
first_word (b ∷ c ∷ bs) letter some =
    first_word_tail b (c ∷ bs) (is_blank c) letter (first_word (c ∷ bs)) (λ d ds e. let same : d ≡ c = cc in
    rw same refl)

pub not_empty : (xs : List ℕ) → 0 < length xs → xs ≢ []
not_empty [] e h = omega arith
not_empty (x ∷ xs) e h = cc

pub line_at_end : (text line rest : List ℕ) (n : ℕ) → n ≡ line_length text → line ≡ take n text → rest ≡ drop n text →
    0 < length text → length rest ≡ 0 → lines_of text ≡ line ∷ lines_of rest
line_at_end text line rest n n-is line-is rest-is some none =
    let h = first_line text (not_empty text some) in
    let gone : drop (line_length text) text ≡ [] = sym (rw n-is at rest-is) ∙ nil_from_length rest none in
    let h' = rw gone at h in
    rw (nil_from_length rest none, line-is, n-is) h'

pub line_before_feed : (text line rest : List ℕ) (n : ℕ) → n ≡ line_length text → line ≡ take n text →
    rest ≡ drop n text → 0 < length text → 1 ≤ length rest →
    lines_of text ≡ line ∷ lines_of (take (length rest - 1) (drop 1 rest))
line_before_feed text line rest n n-is line-is rest-is some more =
    let h = first_line text (not_empty text some) in
    let all : take (length rest - 1) (drop 1 rest) ≡ drop 1 rest =
    take_all (length rest - 1) (drop 1 rest) (omega (arith, length-drop 1 rest)) in
    rw (all, line-is, rest-is, n-is) h

pub word_found : (line skipped word after : List ℕ) (n m : ℕ) → n ≡ blanks_length line → skipped ≡ drop n line →
    0 < length skipped → m ≡ letters_length skipped → word ≡ take m skipped → after ≡ drop m skipped →
    words_of line ≡ word ∷ words_of after
word_found line skipped word after n m n-is skipped-is some m-is word-is after-is =
    let s : skipped ≡ drop (blanks_length line) line = rw n-is at skipped-is in
    let letter : BeginsWithLetter skipped = subst BeginsWithLetter (sym s) (letter_next line) in
    let h = first_word skipped letter (not_empty skipped some) in
    let same : words_of line ≡ words_of skipped = rw s (skip_blanks line) in
    rw (word-is, after-is, m-is) (same ∙ h)

letters_positive : (line : List ℕ) → BeginsWithLetter line → 0 < length line → 0 < letters_length line
letters_positive [] letter some = absurd (omega arith)
letters_positive (b ∷ bs) letter some = rw letter (omega arith)

pub word_taken : (line skipped after : List ℕ) (n m : ℕ) → n ≡ blanks_length line → skipped ≡ drop n line →
    0 < length skipped → m ≡ letters_length skipped → after ≡ drop m skipped → length after < length line
word_taken line skipped after n m n-is skipped-is some m-is after-is =
    let s : skipped ≡ drop (blanks_length line) line = rw n-is at skipped-is in
    let letter : BeginsWithLetter skipped = subst BeginsWithLetter (sym s) (letter_next line) in
    let positive = letters_positive skipped letter some in
    omega (arith, length-drop n line, length-drop m skipped, ap length skipped-is, ap length after-is, m-is)
