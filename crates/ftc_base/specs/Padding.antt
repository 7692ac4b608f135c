-- A list of bytes, made up to so many by zeros.
use Rattle.std.specs.Prelude.{◌≡◌, ◌≤◌, ◌-◌, ◌++◌, ℕ, List, take, drop, length, replicate}
use Rattle.std.proofs.Common.{arith, length-take}
use Rattle.std.proofs.lemmas.List.{take-append-drop}

abbrev pub padded : ℕ → List ℕ → List ℕ
padded most xs = xs ++ replicate (most - length xs) 0

-- what was made up is found again
pub padded-take : (most : ℕ) (bytes : List ℕ) (len : ℕ) → length bytes ≡ most → len ≤ most →
    drop len bytes ≡ replicate (most - len) 0 → padded most (take len bytes) ≡ bytes
padded-take most bytes len size small zeros =
    let taken : length (take len bytes) ≡ len = omega (arith, length-take len bytes) in
    rw (taken, ← zeros) (take-append-drop len bytes)

pub length-front : (most : ℕ) (bytes : List ℕ) (len : ℕ) → length bytes ≡ most → len ≤ most →
    length (take len bytes) ≡ len
length-front most bytes len size small = omega (arith, length-take len bytes)
