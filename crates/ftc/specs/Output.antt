-- Which files were written, and what a file may hold where its writing was cut short.
use Rattle.std.specs.Prelude.{◌≡◌, ◌≢◌, ◌⊎◌, ℕ, List, [], ◌∷◌, ◌++◌, Option, Some}
use Rattle.ftc_outside.specs.Desk.{Files}
use Rattle.ftc_words.specs.Command.{Named}

abbrev pub IsNoneOf : List ℕ → List (List ℕ) → Type 0
IsNoneOf name [] = Unit {0}
IsNoneOf name (one ∷ more) = (name ≢ one) × IsNoneOf name more

-- no file but those of these names has changed
abbrev pub SameElsewhere : List (List ℕ) → Files → Files → Type 0
SameElsewhere names old new = (name : List ℕ) → IsNoneOf name names → new name ≡ old name

-- the names of the files that a run writes
abbrev pub written_by : Named → List (List ℕ)
written_by names = names.out ∷ names.journal ∷ names.report ∷ []

-- the bytes stand at the front of the whole
abbrev pub IsFront : List ℕ → List ℕ → Type 0
IsFront bytes whole = (rest : List ℕ) × (whole ≡ bytes ++ rest)

-- as it was, or some front of the whole
abbrev pub MayHold : Option (List ℕ) → Option (List ℕ) → List ℕ → Type 0
MayHold old new whole = (new ≡ old) ⊎ ((bytes : List ℕ) × (new ≡ Some bytes) × IsFront bytes whole)

-- the file's bytes with the rest of the piece behind them are what they were with the piece
abbrev pub IsMovedOn : Option (List ℕ) → List ℕ → Option (List ℕ) → List ℕ → Type 0
IsMovedOn old piece new rest = (before : List ℕ) → old ≡ Some before →
    (after : List ℕ) × (new ≡ Some after) × (after ++ rest ≡ before ++ piece)
