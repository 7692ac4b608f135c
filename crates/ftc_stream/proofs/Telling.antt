-- Taps that are told a record, one after another.
use Rattle.std.proofs.Common.{◌≡◌, ℕ, ◌+◌, ◌<◌, ◌≤◌, ◌++◌, ◌∷◌, [], List, Bool, true, false, take, drop, get_or, set}
use Rattle.std.proofs.Common.{length, refl, ap, sym, ◌∙◌, subst, arith, add-one, drop-cons, append_assoc, append-nil}
use Rattle.std.specs.Prelude.{not, suc, map, Result, Ok, Err, OnErr, cond}
use Rattle.std.specs.List.{AllZip, remove}
use Rattle.std.proofs.lemmas.Grind.{common_steps}
use Rattle.std.proofs.Math.ListN.{get_or-map}
use Rattle.std.proofs.lemmas.List.{drop-set-lt, map-set, length-map, take-append-drop, take-map, drop-map, map-append}
use Rattle.std.proofs.Math.Seq.{take-suc-set}
use Rattle.std.proofs.lemmas.List.Elements.{AllZip-push, All-push, All-nil, filter-append}
use Rattle.ftc_base.specs.declared.released.Released.{Released}
use Rattle.ftc_outside.specs.Tap.{Face, WasTold}
use Rattle.ftc_stream.specs.Taps.{AreTold, AreToldInPart, staying, StaysIfConstant}

-- the taps in front of the place were told, and those from there on are as they were
abbrev pub AreToldUpTo : Released → List Face → List Face → ℕ → Type 0
AreToldUpTo one old now place =
    (front : List Face) × (old ≡ front ++ drop place now) × AreTold one front (take place now)

pub told_none : (one : Released) → AreTold one [] []
told_none one = record { told = tt; constant = All-nil (StaysIfConstant one) }

-- nobody was told
pub told_to_none : (one : Released) (taps : List Face) → AreToldInPart one taps taps
told_to_none one taps = record {
  front = [];
  told = [];
  rest = taps;
  before = refl;
  after = refl;
  front_told = told_none one;
}

staying_more : (one : Released) (front : List Face) (tap : Face) → tap.leaves one ≡ false →
    staying one (front ++ tap ∷ []) ≡ staying one front ++ tap ∷ []
staying_more one front tap stays =
    filter-append (λ tap. not (tap.leaves one)) front (tap ∷ [])
    ∙ ap (λ b. staying one front ++ cond (not b) (tap ∷ []) []) stays

staying_less : (one : Released) (front : List Face) (tap : Face) → tap.leaves one ≡ true →
    staying one (front ++ tap ∷ []) ≡ staying one front
staying_less one front tap leaves =
    filter-append (λ tap. not (tap.leaves one)) front (tap ∷ [])
    ∙ ap (λ b. staying one front ++ cond (not b) (tap ∷ []) []) leaves ∙ append-nil (staying one front)

told_stays : (one : Released) (front told : List Face) (tap after : Face) → tap.leaves one ≡ false →
    WasTold (one ∷ []) tap after → AreTold one front told → AreTold one (front ++ tap ∷ []) (told ++ after ∷ [])
told_stays one front told tap after stays was all =
    let P : List Face → Type 0 = λ taps. AllZip (WasTold (one ∷ [])) taps (told ++ after ∷ []) in
    record {
      told = subst P (sym (staying_more one front tap stays))
          (AllZip-push (WasTold (one ∷ [])) (staying one front) told tap after all.told was);
      constant = All-push (StaysIfConstant one) front tap all.constant (λ _. stays);
    }

told_leaves : (one : Released) (front told : List Face) (tap : Face) → tap.leaves one ≡ true →
    (tap.constant ≡ true → tap.leaves one ≡ false) → AreTold one front told → AreTold one (front ++ tap ∷ []) told
told_leaves one front told tap leaves constant all =
    let P : List Face → Type 0 = λ taps. AllZip (WasTold (one ∷ [])) taps told in
    record {
      told = subst P (sym (staying_less one front tap leaves)) all.told;
      constant = All-push (StaysIfConstant one) front tap all.constant constant;
    }

here : {T : Type 0} (at : ℕ) (xs : List T) (x : T) → at < length xs → x ≡ get_or xs at x →
    drop at xs ≡ x ∷ drop (at + 1) xs
here at xs x below is = rw add-one (drop-cons xs at x below ∙ ap (λ z. z ∷ drop (suc at) xs) (sym is))

behind : {T : Type 0} (front xs : List T) (at : ℕ) (x : T) → at < length xs → x ≡ get_or xs at x →
    front ++ drop at xs ≡ (front ++ x ∷ []) ++ drop (at + 1) xs
behind front xs at x below is =
    ap (λ zs. front ++ zs) (here at xs x below is) ∙ sym (append_assoc front (x ∷ []) (drop (at + 1) xs))

pub up_to_begins : (one : Released) (old : List Face) → AreToldUpTo one old old 0
up_to_begins one old = ([], refl, told_none one)

pub up_to_stays : (one : Released) (old now : List Face) (at : ℕ) (tap after : Face) → at < length now →
    tap ≡ get_or now at tap → tap.leaves one ≡ false → WasTold (one ∷ []) tap after
    → AreToldUpTo one old now at → AreToldUpTo one old (set now at after) (at + 1)
up_to_stays one old now at tap after below is stays was (front, parts, told) =
    let P : List Face → Type 0 = λ taps. AreTold one (front ++ tap ∷ []) taps in (
      front ++ tap ∷ [],
      parts ∙ behind front now at tap below is
          ∙ ap (λ zs. (front ++ tap ∷ []) ++ zs) (sym (drop-set-lt (at + 1) now at after (omega arith))),
      subst P (sym (rw add-one (take-suc-set now at after below)))
          (told_stays one front (take at now) tap after stays was told),
    )

gone_front : {T : Type 0} (at : ℕ) (xs : List T) (y : T) → at < length xs →
    take at (remove (set xs at y) at) ≡ take at xs
gone_front at xs y below = grind (arith, common_steps)

gone_back : {T : Type 0} (at : ℕ) (xs : List T) (y : T) → at < length xs →
    drop at (remove (set xs at y) at) ≡ drop (at + 1) xs
gone_back at xs y below = grind (arith, common_steps)

pub up_to_leaves : (one : Released) (old now : List Face) (at : ℕ) (tap after : Face) → at < length now →
    tap ≡ get_or now at tap → tap.leaves one ≡ true → (tap.constant ≡ true → tap.leaves one ≡ false)
    → AreToldUpTo one old now at → AreToldUpTo one old (remove (set now at after) at) at
up_to_leaves one old now at tap after below is leaves constant (front, parts, told) =
    let P : List Face → Type 0 = λ taps. AreTold one (front ++ tap ∷ []) taps in (
      front ++ tap ∷ [],
      parts ∙ behind front now at tap below is
          ∙ ap (λ zs. (front ++ tap ∷ []) ++ zs) (sym (gone_back at now after below)),
      subst P (sym (gone_front at now after below)) (told_leaves one front (take at now) tap leaves constant told),
    )

whole_front : {T : Type 0} (at : ℕ) (xs : List T) → length xs ≤ at → take at xs ≡ xs
whole_front at xs beyond = grind (arith, common_steps)

no_back : {T : Type 0} (at : ℕ) (xs : List T) → length xs ≤ at → drop at xs ≡ []
no_back at xs beyond = grind (arith, common_steps)

pub up_to_ends : (one : Released) (old now : List Face) (at : ℕ) → length now ≤ at → AreToldUpTo one old now at →
    AreTold one old now
up_to_ends one old now at beyond (front, parts, told) =
    let P : List Face → Type 0 = λ taps. AreTold one taps (take at now) in
    let Q : List Face → Type 0 = λ taps. AreTold one old taps in
    let all : old ≡ front = parts ∙ ap (λ zs. front ++ zs) (no_back at now beyond) ∙ append-nil front in
    subst Q (whole_front at now beyond) (subst P (sym all) told)

unchanged : {T : Type 0} (at : ℕ) (xs : List T) (x y : T) → at < length xs → x ≡ get_or xs at x → y ≡ x →
    set xs at y ≡ xs
unchanged at xs x y below is same = grind (arith, common_steps)

pub up_to_refused : (one : Released) (old now : List Face) (at : ℕ) (tap after : Face) → at < length now →
    tap ≡ get_or now at tap → after ≡ tap → AreToldUpTo one old now at → AreToldInPart one old (set now at after)
up_to_refused one old now at tap after below is same (front, parts, told) = record {
  front = front;
  told = take at now;
  rest = drop at now;
  before = parts;
  after = unchanged at now tap after below is same ∙ sym (take-append-drop at now);
  front_told = told;
}

stays_of : (b : Bool) → true ≡ not b → b ≡ false
stays_of true e = let no : true ≡ false = e in cc
stays_of false e = refl

leaves_of : (b : Bool) → false ≡ not b → b ≡ true
leaves_of true e = refl
leaves_of false e = let no : false ≡ true = e in cc

-- the same of values that have faces
module _ {T : Type 0} (face : T → Face) (one : Released) (old : List Face) where
  face_at : (xs : List T) (at : ℕ) (x : T) → x ≡ get_or xs at x → face x ≡ get_or (map face xs) at (face x)
  face_at xs at x is = ap face is ∙ sym (get_or-map face xs at x)

  face_below : (xs : List T) (at : ℕ) → at < length xs → at < length (map face xs)
  face_below xs at below = let e = length-map xs face in omega (arith, e, below)

  map-remove : (xs : List T) (at : ℕ) → map face (remove xs at) ≡ remove (map face xs) at
  map-remove xs at =
      map-append face (take at xs) (drop (suc at) xs)
      ∙ ap (λ zs. zs ++ map face (drop (suc at) xs)) (sym (take-map face at xs))
      ∙ ap (λ zs. take at (map face xs) ++ zs) (sym (drop-map face (suc at) xs))

  pub one_stays : (xs : List T) (at : ℕ) (x y : T) → at < length xs → x ≡ get_or xs at x →
      true ≡ not ((face x).leaves one) → WasTold (one ∷ []) (face x) (face y)
      → AreToldUpTo one old (map face xs) at → AreToldUpTo one old (map face (set xs at y)) (at + 1)
  one_stays xs at x y below is stays was told =
      let P : List Face → Type 0 = λ taps. AreToldUpTo one old taps (at + 1) in
      subst P (sym (map-set face xs at y)) (up_to_stays one old (map face xs) at (face x) (face y)
      (face_below xs at below) (face_at xs at x is) (stays_of _ stays) was told)

  pub one_leaves : (xs ys : List T) (at : ℕ) (x y : T) (stays : Bool) → at < length xs → x ≡ get_or xs at x →
      stays ≡ not ((face x).leaves one) → stays ≡ false → ((face x).constant ≡ true → stays ≡ true) →
      ys ≡ remove (set xs at y) at
      → AreToldUpTo one old (map face xs) at → AreToldUpTo one old (map face ys) at
  one_leaves xs ys at x y stays below is says leaves constant gone told =
      let P : List Face → Type 0 = λ taps. AreToldUpTo one old taps at in
      let removed : map face ys ≡ remove (set (map face xs) at (face y)) at =
      ap (λ zs. map face zs) gone ∙ map-remove (set xs at y) at ∙ ap (λ zs. remove zs at) (map-set face xs at y) in
      subst P (sym removed) (up_to_leaves one old (map face xs) at (face x) (face y) (face_below xs at below)
      (face_at xs at x is) (leaves_of _ (sym leaves ∙ says)) (λ is. stays_of _ (sym (constant is) ∙ says)) told)

  pub one_refuses : (xs : List T) (at : ℕ) (x y : T) → at < length xs → x ≡ get_or xs at x → face y ≡ face x
      → AreToldUpTo one old (map face xs) at → AreToldInPart one old (map face (set xs at y))
  one_refuses xs at x y below is same told =
      let P : List Face → Type 0 = λ taps. AreToldInPart one old taps in
      subst P (sym (map-set face xs at y)) (up_to_refused one old (map face xs) at (face x) (face y)
      (face_below xs at below) (face_at xs at x is) same told)
