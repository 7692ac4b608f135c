-- Laws of what a file gains, record by record.
use Rattle.std.proofs.Common.{◌≡◌, inl, inr, ℕ, ◌++◌, [], List, take, drop, length, refl, ap, sym, subst, ◌∙◌}
use Rattle.std.proofs.Common.{append_assoc, append-nil, arith}
use Rattle.std.specs.Prelude.{Some, None, unwrap_or}
use Rattle.std.specs.List.{flat_map}
use Rattle.std.proofs.lemmas.Grind.{common_steps, flat_map-append}
use Rattle.std.proofs.lemmas.List.Elements.{filter-append}
use Rattle.ftc_base.specs.declared.released.Released.{Released}
use Rattle.ftc_outside.specs.Desk.{Files, SameButAt}
use Rattle.ftc_pcap.specs.declared.capture.Capture.{Capture}
use Rattle.ftc_stream.specs.Records.{HasGrownBy, HasGrownInPart, records, writable, is_writable, released_record}

pub grown_none : (at : List ℕ) (f : Files) → HasGrownBy at [] f f
grown_none at f = inr (refl, refl)

pub grown_on : (at a b : List ℕ) (f g h : Files) → HasGrownBy at a f g → HasGrownBy at b g h →
    HasGrownBy at (a ++ b) f h
grown_on at a b f g h (inl first) (inl second) =
    inl (second ∙ ap (λ held. Some (unwrap_or held [] ++ b)) first ∙ ap Some (append_assoc (unwrap_or (f at) []) a b))
grown_on at a b f g h (inl first) (inr (none, same)) =
    inl (same ∙ first ∙ ap (λ xs. Some (unwrap_or (f at) [] ++ xs))
    (sym (append-nil a) ∙ ap (λ xs. a ++ xs) (sym none)))
grown_on at a b f g h (inr (none, same)) (inl second) =
    inl (second ∙ ap (λ held. Some (unwrap_or held [] ++ b)) same
    ∙ ap (λ xs. Some (unwrap_or (f at) [] ++ (xs ++ b))) (sym none))
grown_on at a b f g h (inr (none, same)) (inr (nothing, still)) = inr (ap (λ xs. xs ++ b) none ∙ nothing, still ∙ same)

pub writable-append : (capture : Capture) (xs ys : List Released) →
    writable capture (xs ++ ys) ≡ writable capture xs ++ writable capture ys
writable-append capture xs ys = filter-append (is_writable capture.packets) xs ys

pub records-append : (capture : Capture) (xs ys : List Released) →
    records capture (xs ++ ys) ≡ records capture xs ++ records capture ys
records-append capture xs ys =
    ap (λ zs. flat_map (released_record capture) zs) (writable-append capture xs ys)
    ∙ flat_map-append (released_record capture) (writable capture xs) (writable capture ys)

pub grown_in_part_on : (at : List ℕ) (capture : Capture) (xs ys : List Released) (f g h : Files) →
    HasGrownBy at (records capture xs) f g → HasGrownInPart at capture ys g h →
    HasGrownInPart at capture (xs ++ ys) f h
grown_in_part_on at capture xs ys f g h first (one, count, then) =
    let bytes : records capture xs ++ (records capture ys ++ take count (released_record capture one)) ≡ records
    capture (xs ++ ys) ++ take count (released_record capture one) =
    sym (append_assoc (records capture xs) (records capture ys) (take count (released_record capture one)))
    ∙ ap (λ zs. zs ++ take count (released_record capture one)) (sym (records-append capture xs ys)) in
    let P : List ℕ → Type 0 = λ zs. HasGrownBy at zs f h in (
      one,
      count,
      subst P bytes (grown_on at (records capture xs)
          (records capture ys ++ take count (released_record capture one)) f g h first then),
    )

pub since_more : {T : Type 0} (old mid new more : List T) → mid ≡ old ++ drop (length old) mid → new ≡ mid ++ more →
    drop (length old) new ≡ drop (length old) mid ++ more
since_more old mid new more first then = grind (arith, common_steps)

pub added_more : {T : Type 0} (old mid new more : List T) → mid ≡ old ++ drop (length old) mid → new ≡ mid ++ more →
    new ≡ old ++ drop (length old) new
added_more old mid new more first then = grind (arith, common_steps)

pub grown_more : (at : List ℕ) (capture : Capture) (xs ys zs : List Released) (f g h : Files) → zs ≡ xs ++ ys →
    HasGrownBy at (records capture xs) f g → HasGrownBy at (records capture ys) g h →
    HasGrownBy at (records capture zs) f h
grown_more at capture xs ys zs f g h both first then =
    let P : List ℕ → Type 0 = λ bytes. HasGrownBy at bytes f h in
    subst P (sym (ap (λ items. records capture items) both ∙ records-append capture xs ys))
    (grown_on at (records capture xs) (records capture ys) f g h first then)

pub others_on : (at : List ℕ) (f g h : Files) → SameButAt at f g → SameButAt at g h → SameButAt at f h
others_on at f g h first then name other = then name other ∙ first name other

pub grown_start : (at : List ℕ) (capture : Capture) (items : List Released) (f : Files) → items ≡ [] →
    HasGrownBy at (records capture items) f f
grown_start at capture items f none =
    let P : List Released → Type 0 = λ items. HasGrownBy at (records capture items) f f in
    subst P (sym none) (grown_none at f)

pub added_none : {T : Type 0} (xs ys : List T) → xs ≡ ys → ys ≡ xs ++ drop (length xs) ys
added_none xs ys same = grind (arith, common_steps)

pub grown_part_more : (at : List ℕ) (capture : Capture) (xs ys zs : List Released) (f g h : Files) → zs ≡ xs ++ ys →
    HasGrownBy at (records capture xs) f g → HasGrownInPart at capture ys g h → HasGrownInPart at capture zs f h
grown_part_more at capture xs ys zs f g h both first then =
    let P : List Released → Type 0 = λ items. HasGrownInPart at capture items f h in
    subst P (sym both) (grown_in_part_on at capture xs ys f g h first then)

-- a file that isn't there afterwards was not there before
pub absent_before : (at bytes : List ℕ) (f g : Files) → HasGrownBy at bytes f g → g at ≡ None → f at ≡ None
absent_before at bytes f g (inl grew) gone = let no : None ≡ Some (unwrap_or (f at) [] ++ bytes) = sym gone ∙ grew in cc
absent_before at bytes f g (inr (none, same)) gone = sym same ∙ gone
