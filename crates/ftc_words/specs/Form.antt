-- The form of the words that are handed to clap: a command's own word, and behind it options with a value and names.
use Rattle.std.specs.Prelude.{ℕ, zero, suc, Bool, true, false, not, ◌&&◌, List, [], ◌∷◌, codes, if◌then◌else◌}
use Rattle.std.specs.Str.{bytes_eq}
use Rattle.ftc_words.specs.Given.{is_name}

-- the words without `--move` and its two values; so many words are still passed over
abbrev pub others_from : ℕ → List (List ℕ) → List (List ℕ)
others_from skipped [] = []
others_from zero (word ∷ words) = if bytes_eq word (codes "--move") then others_from 2 words
    else word ∷ others_from 0 words
others_from (suc more) (word ∷ words) = others_from more words

-- what clap is handed of the words of a command
abbrev pub handed : List (List ℕ) → List (List ℕ)
handed [] = []
handed (word ∷ words) = word ∷ others_from 0 words

-- whether a value of an option is awaited, and which options came before
abbrev pub is_formed : Bool → Bool → Bool → List (List ℕ) → Bool
is_formed value workers alone [] = not value
is_formed true workers alone (word ∷ words) = is_name word && is_formed false workers alone words
is_formed false workers alone (word ∷ words) =
    if bytes_eq word (codes "--workers") then not workers && is_formed true true alone words
    else (if bytes_eq word (codes "--alone") then not alone && is_formed true workers true words
    else is_name word && is_formed false workers alone words)

-- behind the command's own word
abbrev pub has_form : List (List ℕ) → Bool
has_form [] = false
has_form (word ∷ words) = is_formed false false false words
