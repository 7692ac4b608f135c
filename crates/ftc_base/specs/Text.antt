-- A text as lines, a line as words, and what a word says.
use Rattle.std.specs.Prelude.{◌≡◌, ◌≢◌, ◌⊎◌, ◌≤◌, ◌<◌, ◌+◌, ◌-◌, ℕ, suc, Bool, true, false, ◌||◌, ◌==◌}
use Rattle.std.specs.Prelude.{List, [], ◌∷◌, length, slice_get, slice_index, slice_range, All, Some}
use Rattle.std.specs.Prelude.{if◌then◌else◌}
use Rattle.std.specs.List.{onto_first}
use Rattle.ftc_base.specs.declared.lexer.Line.{Line}
use Rattle.ftc_base.specs.declared.lexer.Word.{Word}

-- a line ends at a line feed or at the text's end, and a text that ends with a line feed has no further line
abbrev pub lines_of : List ℕ → List (List ℕ)
lines_of [] = []
lines_of (byte ∷ bytes) = if byte == 10 then [] ∷ lines_of bytes else onto_first byte (lines_of bytes)

-- space, tab or carriage return
abbrev pub is_blank : ℕ → Bool
is_blank byte = byte == 32 || byte == 9 || byte == 13

-- a letter that stands before bytes which have these words
abbrev pub begin_word : ℕ → List ℕ → List (List ℕ) → List (List ℕ)
begin_word byte [] words = (byte ∷ []) ∷ words
begin_word byte (next ∷ bytes) words = if is_blank next then (byte ∷ []) ∷ words else onto_first byte words

-- words are separated by one or more blanks
abbrev pub words_of : List ℕ → List (List ℕ)
words_of [] = []
words_of (byte ∷ bytes) = if is_blank byte then words_of bytes else begin_word byte bytes (words_of bytes)

-- from `from` up to the first line feed, or to the end of the text
pub record IsLine (text : List ℕ) (from : ℕ) (line : Line) : Type 0 where
  pub start : line.start ≡ from
  pub ordered : line.start ≤ line.end
  pub within : line.end ≤ length text
  pub no_feed : All (λ byte. byte ≢ 10) (slice_range text line.start line.end)
  pub ended : ((slice_get text line.end ≡ Some 10) × (line.next ≡ line.end + 1))
      ⊎ ((line.end ≡ length text) × (line.next ≡ length text))

-- the first bytes at or after `from` that are no blanks, with a blank or the end behind them
pub record IsWord (line : List ℕ) (from : ℕ) (word : Word) : Type 0 where
  pub after : from ≤ word.start
  pub not_empty : word.start < word.end
  pub within : word.end ≤ length line
  pub blanks : All (λ byte. is_blank byte ≡ true) (slice_range line from word.start)
  pub letters : All (λ byte. is_blank byte ≡ false) (slice_range line word.start word.end)
  pub ended : word.end < length line → is_blank (slice_index line word.end) ≡ true

-- how many bytes stand before the first line feed, before the first blank, before the first letter
abbrev pub line_length : List ℕ → ℕ
line_length [] = 0
line_length (byte ∷ bytes) = if byte == 10 then 0 else suc (line_length bytes)

abbrev pub letters_length : List ℕ → ℕ
letters_length [] = 0
letters_length (byte ∷ bytes) = if is_blank byte then 0 else suc (letters_length bytes)

abbrev pub blanks_length : List ℕ → ℕ
blanks_length [] = 0
blanks_length (byte ∷ bytes) = if is_blank byte then suc (blanks_length bytes) else 0
