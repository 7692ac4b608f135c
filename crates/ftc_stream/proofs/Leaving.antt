-- Taps that are told one record after another, and some of which leave.
use Rattle.std.proofs.Common.{◌≡◌, inl, inr, ℕ, zero, suc, ◌+◌, ◌<◌, ◌++◌, ◌∷◌, [], List, Bool, true, false, length}
use Rattle.std.proofs.Common.{take, get_or, refl, ap, sym, ◌∙◌, subst, append-nil, arith}
use Rattle.std.specs.Prelude.{not, cond}
use Rattle.std.specs.List.{AllZip, AllByRecursion}
use Rattle.std.proofs.lemmas.List.Elements.{recursion_from_All}
use Rattle.ftc_base.specs.declared.released.Released.{Released}
use Rattle.ftc_outside.specs.Tap.{Face, WasTold}
use Rattle.ftc_stream.specs.Taps.{AreTold, AreToldInPart, AreToldShort, AreLeft, AreLeftInPart, staying}
use Rattle.ftc_stream.specs.Taps.{StaysIfConstant}
use Rattle.ftc_stream.specs.LeavingLaws.{left_none, left_on, left_in_part_on}

-- a constant tap stays, so one that leaves is none
leaves_if_not : (constant leaves : Bool) → (constant ≡ true → leaves ≡ false) → leaves ≡ true → constant ≡ false
leaves_if_not true leaves stays is = let no : false ≡ true = sym (stays refl) ∙ is in cc
leaves_if_not false leaves stays is = refl

one_more : (one : Released) (tap : Face) (taps new : List Face) (leaves : Bool) → tap.leaves one ≡ leaves →
    StaysIfConstant one tap → ((rest : List Face) → AllZip (WasTold (one ∷ [])) (staying one taps) rest →
    AreLeft (one ∷ []) taps rest)
    → AllZip (WasTold (one ∷ [])) (cond (not leaves) (tap ∷ staying one taps) (staying one taps)) new →
    AreLeft (one ∷ []) (tap ∷ taps) new
one_more one tap taps new true is stays on told =
    inl (leaves_if_not tap.constant (tap.leaves one) stays is, on new told)
one_more one tap taps [] false is stays on told = elim told [ ]
one_more one tap taps (after ∷ rest) false is stays on told = inr (after, rest, refl, told.0, on rest told.1)

one_by_one : (one : Released) (old new : List Face) → AllZip (WasTold (one ∷ [])) (staying one old) new →
    AllByRecursion (StaysIfConstant one) old → AreLeft (one ∷ []) old new
one_by_one one [] [] told constant = refl
one_by_one one [] (_ ∷ _) told constant = elim told [ ]
one_by_one one (tap ∷ taps) new told constant =
    one_more one tap taps new (tap.leaves one) refl constant.0 (λ rest more. one_by_one one taps rest more constant.1)
    told

pub left_by_one : (one : Released) (old new : List Face) → AreTold one old new → AreLeft (one ∷ []) old new
left_by_one one old new all =
    one_by_one one old new all.told (recursion_from_All (StaysIfConstant one) old all.constant)

pub left_same : (old new : List Face) → new ≡ old → AreLeft [] old new
left_same old new same =
    let P : List Face → Type 0 = λ taps. AreLeft [] old taps in
    subst P (sym same) (left_none old)

-- one item: its record is told, or it has none and is passed over
pub left_by_item : (has : Bool) (item : Released) (old new : List Face) → (has ≡ true → AreTold item old new) →
    (has ≡ false → new ≡ old) → AreLeft (cond has (item ∷ []) []) old new
left_by_item true item old new told same = left_by_one item old new (told refl)
left_by_item false item old new told same = left_same old new (same refl)

-- what was told before, and nothing more
pub left_then_none : (rs ss : List Released) (old mid new : List Face) → ss ≡ rs → AreLeft rs old mid →
    AreLeft [] mid new → AreLeft ss old new
left_then_none rs ss old mid new same first then =
    let P : List Released → Type 0 = λ records. AreLeft records old new in
    subst P (append-nil rs ∙ sym same) (left_on rs [] old mid new first then)

pub left_then_part : (rs ss : List Released) (old mid new : List Face) → ss ≡ rs → AreLeft rs old mid →
    AreLeftInPart [] mid new → AreLeftInPart ss old new
left_then_part rs ss old mid new same first then =
    let P : List Released → Type 0 = λ records. AreLeftInPart records old new in
    subst P (append-nil rs ∙ sym same) (left_in_part_on rs [] old mid new first then)

taken_one : (items : List Released) (place : ℕ) (item : Released) → place < length items →
    item ≡ get_or items place item → take (suc place) items ≡ take place items ++ item ∷ []
taken_one [] place item below is = absurd (omega arith)
taken_one (first ∷ items) zero item below is = ap (λ one. one ∷ []) (sym is)
taken_one (first ∷ items) (suc place) item below is =
    ap (λ more. first ∷ more) (taken_one items place item (omega arith) is)

-- one item more of a row
pub left_one_more : (items : List Released) (place : ℕ) (item : Released) (old mid new : List Face) →
    place < length items → item ≡ get_or items place item → AreLeft (take place items) old mid →
    AreTold item mid new → AreLeft (take (place + 1) items) old new
left_one_more items place item old mid new below is first then =
    let P : List Released → Type 0 = λ records. AreLeft records old new in
    let one : suc place ≡ place + 1 = omega arith in
    subst P (sym (taken_one items place item below is) ∙ ap (λ count. take count items) one)
    (left_on (take place items) (item ∷ []) old mid new first (left_by_one item mid new then))

-- or one that was told in part
pub told_short : (items : List Released) (place : ℕ) (item : Released) (old mid new : List Face) →
    AreLeft (take place items) old mid → AreToldInPart item mid new → AreToldShort items old new
told_short items place item old mid new first part = (place, (item, mid, first, part))
