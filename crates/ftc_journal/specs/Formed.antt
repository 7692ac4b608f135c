-- Which words have the form of a line, whatever the bounds of their numbers.
use Rattle.std.specs.Prelude.{◌≡◌, ◌⊎◌, ℕ, true, List, [], ◌∷◌, ◌++◌, length, codes}
use Rattle.std.specs.List.{AllByRecursion, Contains}
use Rattle.ftc_base.specs.Number.{is_numeral}

-- the first words of lines that tell numbers alone, each with the count of the numbers behind it
abbrev pub numbered_words : List (List ℕ × ℕ)
numbered_words =
    (codes "enter", 1) ∷ (codes "carry", 1) ∷ (codes "crash", 1) ∷ (codes "pull", 1) ∷ (codes "propagate", 1)
    ∷ (codes "release", 1) ∷ (codes "take", 2) ∷ (codes "pass", 2) ∷ (codes "lose", 2) ∷ (codes "visit", 3)
    ∷ (codes "apply", 4) ∷ []

-- decimal digits without a leading zero, or 0
abbrev pub IsNumeral : List ℕ → Type 0
IsNumeral word = is_numeral word ≡ true

-- an undone visit, as `J:P`
pub record IsName (word : List ℕ) : Type 0 where
  pub server : List ℕ
  pub packet : List ℕ
  pub spelled : word ≡ server ++ 58 ∷ packet
  pub server_numeral : IsNumeral server
  pub packet_numeral : IsNumeral packet

-- such a first word, and as many numbers as it wants
abbrev pub IsNumbered : List ℕ → List (List ℕ) → Type 0
IsNumbered first words = Contains numbered_words (first, length words) × AllByRecursion IsNumeral words

-- a recovery: a server, and then each undone visit
abbrev pub IsRecovery : List ℕ → List (List ℕ) → Type 0
IsRecovery first [] = ⊥
IsRecovery first (server ∷ names) = (first ≡ codes "recover") × IsNumeral server × AllByRecursion IsName names

-- the words of a line have a form
abbrev pub IsFormed : List (List ℕ) → Type 0
IsFormed [] = ⊥
IsFormed (first ∷ words) = IsNumbered first words ⊎ IsRecovery first words
