-- Laws of taps that are told one record after another, and some of which leave.
use Rattle.std.proofs.Common.{◌≡◌, inl, inr, ◌++◌, ◌∷◌, [], List, Bool, true, false, refl, ap, sym, ◌∙◌, subst}
use Rattle.std.proofs.Common.{append_assoc, append-nil}
use Rattle.std.specs.Prelude.{Some}
use Rattle.ftc_base.specs.declared.released.Released.{Released}
use Rattle.ftc_outside.specs.Tap.{Face, WasTold}
use Rattle.ftc_pcap.specs.declared.capture.Capture.{Capture}
use Rattle.ftc_stream.specs.Records.{writable}
use Rattle.ftc_stream.specs.GrowingLaws.{writable-append}
use Rattle.ftc_stream.specs.Taps.{AreLeft, AreLeftInPart}

pub was_told_none : (tap : Face) → WasTold [] tap tap
was_told_none tap = record { kept = λ before is. is ∙ ap Some (sym (append-nil before)); constant = λ is. is }

pub was_told_on : (rs ss : List Released) (a b c : Face) → WasTold rs a b → WasTold ss b c → WasTold (rs ++ ss) a c
was_told_on rs ss a b c first second = record {
  kept = λ before is. second.kept (before ++ rs) (first.kept before is) ∙ ap Some (append_assoc before rs ss);
  constant = λ is. second.constant (first.constant is);
}

pub left_none : (taps : List Face) → AreLeft [] taps taps
left_none [] = refl
left_none (tap ∷ taps) = inr (tap, taps, refl, was_told_none tap, left_none taps)

-- what is constant afterwards, if it was before, was not constant if it isn't
not_constant : (a b : Bool) → (a ≡ true → b ≡ true) → b ≡ false → a ≡ false
not_constant true b keeps is = let no : false ≡ true = sym is ∙ keeps refl in cc
not_constant false b keeps is = refl

left_then : (rs ss : List Released) (tap after : Face) (taps rest new : List Face) → WasTold rs tap after →
    ((last : List Face) → AreLeft ss rest last → AreLeft (rs ++ ss) taps last)
    → AreLeft ss (after ∷ rest) new → AreLeft (rs ++ ss) (tap ∷ taps) new
left_then rs ss tap after taps rest new was on (inl (gone, others)) =
    inl (not_constant tap.constant after.constant was.constant gone, on new others)
left_then rs ss tap after taps rest new was on (inr (last, behind, same, then, others)) =
    inr (last, behind, same, was_told_on rs ss tap after last was then, on behind others)

pub left_on : (rs ss : List Released) (old mid new : List Face) → AreLeft rs old mid → AreLeft ss mid new →
    AreLeft (rs ++ ss) old new
left_on rs ss [] mid new none second =
    let P : List Face → Type 0 = λ taps. AreLeft ss taps new in
    subst P none second
left_on rs ss (tap ∷ taps) mid new (inl (gone, more)) second = inl (gone, left_on rs ss taps mid new more second)
left_on rs ss (tap ∷ taps) mid new (inr (after, rest, is, was, more)) second =
    let P : List Face → Type 0 = λ taps. AreLeft ss taps new in
    left_then rs ss tap after taps rest new was (λ last others. left_on rs ss taps rest last more others)
    (subst P is second)

pub left_in_part_on : (rs ss : List Released) (old mid new : List Face) → AreLeft rs old mid →
    AreLeftInPart ss mid new → AreLeftInPart (rs ++ ss) old new
left_in_part_on rs ss old mid new first (one, between, then, part) =
    (one, between, left_on rs ss old mid between first then, part)

pub left_start : (capture : Capture) (items : List Released) (taps : List Face) → items ≡ [] →
    AreLeft (writable capture items) taps taps
left_start capture items taps none =
    let P : List Released → Type 0 = λ items. AreLeft (writable capture items) taps taps in
    subst P (sym none) (left_none taps)

pub left_more : (capture : Capture) (xs ys zs : List Released) (old mid new : List Face) → zs ≡ xs ++ ys →
    AreLeft (writable capture xs) old mid → AreLeft (writable capture ys) mid new →
    AreLeft (writable capture zs) old new
left_more capture xs ys zs old mid new both first then =
    let P : List Released → Type 0 = λ items. AreLeft items old new in
    subst P (sym (ap (λ items. writable capture items) both ∙ writable-append capture xs ys))
    (left_on (writable capture xs) (writable capture ys) old mid new first then)

pub left_part_more : (capture : Capture) (xs ys zs : List Released) (old mid new : List Face) → zs ≡ xs ++ ys →
    AreLeft (writable capture xs) old mid → AreLeftInPart (writable capture ys) mid new →
    AreLeftInPart (writable capture zs) old new
left_part_more capture xs ys zs old mid new both first then =
    let P : List Released → Type 0 = λ items. AreLeftInPart items old new in
    subst P (sym (ap (λ items. writable capture items) both ∙ writable-append capture xs ys))
    (left_in_part_on (writable capture xs) (writable capture ys) old mid new first then)
