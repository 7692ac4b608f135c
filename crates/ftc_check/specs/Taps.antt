-- A report without the lines of its taps.
use Rattle.std.specs.Prelude.{ℕ, ◌≡◌, ◌≤◌, ◌⊎◌, Bool, List, [], ◌∷◌, ◌++◌, length, codes, nat_eq}
use Rattle.std.specs.List.{starts_with, AllPass}
use Rattle.ftc_base.specs.Text.{lines_of}

abbrev pub is_tap_line : List ℕ → Bool
is_tap_line line = starts_with nat_eq line (codes "tap ")

-- a text may be cut in front of it, behind it, and behind each line feed
abbrev pub IsBetweenLines : List ℕ → List ℕ → Type 0
IsBetweenLines front rest = (front ≡ []) ⊎ (rest ≡ []) ⊎ ((before : List ℕ) × (front ≡ before ++ 10 ∷ []))

-- the text is cut between two lines, and only lines of taps stand behind
pub record IsCut (text front rest : List ℕ) : Type 0 where
  pub parts : text ≡ front ++ rest
  pub between : IsBetweenLines front rest
  pub taps : AllPass is_tap_line (lines_of rest)

-- the shortest front behind which only lines of taps stand
pub record IsWithoutTaps (text front : List ℕ) : Type 0 where
  pub rest : List ℕ
  pub cut : IsCut text front rest
  pub shortest : (other behind : List ℕ) → IsCut text other behind → length front ≤ length other
