-- What a file gains, record by record.
use Rattle.std.proofs.Common.{◌≡◌, ℕ, ◌+◌, ◌++◌, ◌∷◌, [], List, drop, length, sym, subst, ◌∙◌, append-nil, arith}
use Rattle.std.proofs.lemmas.Grind.{common_steps}
use Rattle.ftc_base.specs.declared.released.Released.{Released}
use Rattle.ftc_outside.specs.Desk.{Files}
use Rattle.ftc_pcap.specs.declared.capture.Capture.{Capture}
use Rattle.ftc_stream.specs.Records.{HasGrownBy, HasGrownInPart, records}
use Rattle.ftc_stream.specs.GrowingLaws.{grown_in_part_on}

pub grown_then_part : (at : List ℕ) (capture : Capture) (xs ys : List Released) (f g h : Files) → ys ≡ xs →
    HasGrownBy at (records capture xs) f g → HasGrownInPart at capture [] g h → HasGrownInPart at capture ys f h
grown_then_part at capture xs ys f g h same first then =
    let P : List Released → Type 0 = λ items. HasGrownInPart at capture items f h in
    subst P (append-nil xs ∙ sym same) (grown_in_part_on at capture xs [] f g h first then)

pub none_since : {T : Type 0} (xs ys : List T) → xs ≡ ys → drop (length xs) ys ≡ []
none_since xs ys same = grind (arith, common_steps)

pub counted_more : {T : Type 0} (xs ys : List T) (x : T) (count : ℕ) → ys ≡ xs ++ x ∷ [] → length xs ≡ count →
    length ys ≡ count + 1
counted_more xs ys x count more is = grind (arith, common_steps)
