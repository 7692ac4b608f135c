-- Lines of numbered items, and one more.
use Rattle.std.proofs.Common.{◌≡◌, ℕ, ◌+◌, ◌<◌, ◌≤◌, List, [], ◌∷◌, ◌++◌, length, take, map, refl, sym, ap, ◌∙◌, arith}
use Rattle.std.proofs.Common.{get_or}
use Rattle.std.specs.List.{enumerate_from, flat_map, range_with_len}
use Rattle.std.proofs.lemmas.List.{take_more, flat_map_more, length-take-le}
use Rattle.std.proofs.lemmas.List.FromFn.{length-map-range_with_len, map-range_with_len_more}

numbered_more : {A : Type 0} (from : ℕ) (xs : List A) (x : A) →
    enumerate_from from (xs ++ x ∷ []) ≡ enumerate_from from xs ++ (from + length xs, x) ∷ []
numbered_more from [] x = let same : from + 0 ≡ from = omega arith in rw same refl
numbered_more from (y ∷ ys) x =
    let same : (from + 1) + length ys ≡ from + length (y ∷ ys) = omega arith in
    rw (numbered_more (from + 1) ys x, same) refl

-- the lines of the items before it stand in front of an item's
lines_more : {A : Type 0} (f : ℕ × A → List ℕ) (start out next line : List ℕ) (before : List A) (place : ℕ) (x : A) →
    length before ≡ place → out ≡ start ++ flat_map f (enumerate_from 0 before) → line ≡ f (place, x) →
    next ≡ out ++ line
    → next ≡ start ++ flat_map f (enumerate_from 0 (before ++ x ∷ []))
lines_more f start out next line before place x size was is added =
    let number : 0 + length before ≡ place = omega arith in
    added
    ∙ rw (was, is) refl
    ∙ flat_map_more f start (enumerate_from 0 before) (place, x)
    ∙ ap (λ (items : List (ℕ × _)). start ++ flat_map f items) (sym (rw number at (numbered_more 0 before x)))

-- the same, where the items are those of a list
pub lines_of_list : {A : Type 0} (f : ℕ × A → List ℕ) (start out next line : List ℕ) (xs : List A) (place : ℕ) (x : A) →
    place < length xs → x ≡ get_or xs place x → out ≡ start ++ flat_map f (enumerate_from 0 (take place xs)) →
    line ≡ f (place, x) → next ≡ out ++ line
    → next ≡ start ++ flat_map f (enumerate_from 0 (take (place + 1) xs))
lines_of_list f start out next line xs place x within there was is added =
    let small : place ≤ length xs = omega arith in
    let one : take (place + 1) xs ≡ take place xs ++ x ∷ [] = rw (← there) at (take_more xs place x within) in
    rw one (lines_more f start out next line (take place xs) place x (length-take-le place xs small) was is added)

-- and where they are a function's values
pub lines_of_values : {A : Type 0} (f : ℕ × A → List ℕ) (start out next : List ℕ) (value : ℕ → A) (place number : ℕ)
    (x : A) → out ≡ start ++ flat_map f (enumerate_from 0 (map value (range_with_len 0 place))) → number ≡ place →
    x ≡ value number → next ≡ out ++ f (number, x)
    → next ≡ start ++ flat_map f (enumerate_from 0 (map value (range_with_len 0 (place + 1))))
lines_of_values f start out next value place number x was same is added =
    rw (map-range_with_len_more value 0 place place (omega arith))
    (lines_more f start out next (f (number, x)) (map value (range_with_len 0 place)) place (value place)
    (length-map-range_with_len value 0 place) was (rw (is, same) refl) added)
