-- Texts of printed words: their lines, words and parts are found again.
use Rattle.std.proofs.Common.{◌≡◌, ℕ, ◌+◌, true, List, [], ◌∷◌, ◌++◌, length, take, drop, refl, ap}
use Rattle.std.proofs.Common.{arith, add-one}
use Rattle.std.specs.Prelude.{◌==◌}
use Rattle.std.specs.List.{AllByRecursion, list_all, position_or_len}
use Rattle.std.proofs.lemmas.Bool.Decides.{nat_tests}
use Rattle.ftc_base.proofs.Separated.{Without}
use Rattle.ftc_base.proofs.PlainWords.{IsLineByte}
use Rattle.ftc_conf.specs.Words.{is_text_byte, part_before, part_behind, has_byte}

line_byte-text : (b : ℕ) → IsLineByte b → is_text_byte b ≡ true
line_byte-text b byte = grind (arith, nat_tests)

-- the bytes of a line are text
pub are_text : (line : List ℕ) → AllByRecursion IsLineByte line → list_all is_text_byte line ≡ true
are_text [] all = refl
are_text (b ∷ bs) all = rw (line_byte-text b all.0, are_text bs all.1) refl

-- a word at its first separator
position-part : (separator : ℕ) (part rest : List ℕ) → (separator == separator) ≡ true → Without separator part →
    position_or_len (λ b. b == separator) (part ++ separator ∷ rest) ≡ length part
position-part separator [] rest same all = rw same refl
position-part separator (b ∷ bs) rest same all = let later = position-part separator bs rest same all.1 in
    rw (all.0, later) (omega arith)

take-front : (part rest : List ℕ) → take (length part) (part ++ rest) ≡ part
take-front [] rest = refl
take-front (b ∷ bs) rest = ap (λ (more : List ℕ). b ∷ more) (take-front bs rest)

drop-front : (part rest : List ℕ) (b : ℕ) → drop (length part + 1) (part ++ b ∷ rest) ≡ rest
drop-front [] rest b = refl
drop-front (x ∷ xs) rest b = let later = rw add-one at (drop-front xs rest b) in rw add-one later

pub part_before-part : (separator : ℕ) (part rest : List ℕ) → (separator == separator) ≡ true → Without separator part →
    part_before separator (part ++ separator ∷ rest) ≡ part
part_before-part separator part rest same all =
    rw (position-part separator part rest same all) (take-front part (separator ∷ rest))

pub part_behind-part : (separator : ℕ) (part rest : List ℕ) → (separator == separator) ≡ true → Without separator part →
    part_behind separator (part ++ separator ∷ rest) ≡ rest
part_behind-part separator part rest same all =
    rw (position-part separator part rest same all) (drop-front part rest separator)

pub has_byte-part : (separator : ℕ) (part rest : List ℕ) → (separator == separator) ≡ true → Without separator part →
    has_byte separator (part ++ separator ∷ rest) ≡ true
has_byte-part separator [] rest same all = rw same refl
has_byte-part separator (b ∷ bs) rest same all = rw (all.0, has_byte-part separator bs rest same all.1) refl
