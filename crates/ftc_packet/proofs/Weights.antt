-- The plain sum of the words of a list as a sum over its bytes: a byte at an even place counts 256 times.
use Rattle.std.proofs.Common.{◌≡◌, ℕ, zero, suc, ◌+◌, ◌*◌, ◌%◌, ◌<◌, ◌≤◌, List, [], ◌∷◌, ◌++◌, sum, length, get_or, set}
use Rattle.std.proofs.Common.{take, arith, cond, eqb, ap, refl}
use Rattle.std.proofs.lemmas.Bool.Decides.{nat_tests}
use Rattle.std.proofs.lemmas.List.{take_more, length-take-le}
use Rattle.std.proofs.lemmas.List.Sums.{sum_by-cons}
use Rattle.ftc_packet.specs.Sum.{words}

-- What a byte counts at a place.
unfoldable pub weight : ℕ → ℕ
weight i = cond (eqb (i % 2) 0) 256 1

pub weight_even : (i : ℕ) → i % 2 ≡ 0 → weight i ≡ 256
unfolding weight
weight_even i h = grind (arith, nat_tests)

pub weight_odd : (i : ℕ) → i % 2 ≡ 1 → weight i ≡ 1
unfolding weight
weight_odd i h = grind (arith, nat_tests)

weight_two : (i : ℕ) → weight (suc (suc i)) ≡ weight i
unfolding weight
weight_two i = let e : suc (suc i) % 2 ≡ i % 2 = omega arith in ap (λ r. cond (eqb r 0) 256 1) e

-- The bytes of a list from the place i on, each by its weight.
unfoldable pub weighted : ℕ → List ℕ → ℕ
weighted i [] = 0
weighted i (x ∷ xs) = weight i * x + weighted (suc i) xs

weighted_two : (i : ℕ) (xs : List ℕ) → weighted (suc (suc i)) xs ≡ weighted i xs
unfolding weighted
weighted_two i [] = refl
weighted_two i (x ∷ xs) = omega (arith, ap (λ w. w * x) (weight_two i), weighted_two (suc i) xs)

-- The words of a list sum to its weighted bytes.
pub sum-words : (xs : List ℕ) → sum (words xs) ≡ weighted 0 xs
unfolding words weighted weight
sum-words [] = refl
sum-words (a ∷ []) = omega arith
sum-words (a ∷ b ∷ rest) =
    omega (arith, sum_by-cons (λ x. x) (256 * a + b) (words rest), sum-words rest, weighted_two 0 rest)

-- One byte more at the end.
pub weighted_push : (i : ℕ) (xs : List ℕ) (y : ℕ) →
    weighted i (xs ++ y ∷ []) ≡ weighted i xs + weight (i + length xs) * y
unfolding weighted
weighted_push i [] y = let e : i + 0 ≡ i = omega arith in rw e (omega arith)
weighted_push i (x ∷ xs) y =
    let e : i + suc (length xs) ≡ suc i + length xs = omega arith in
    rw e (omega (arith, weighted_push (suc i) xs y))

pub weighted_more : (xs : List ℕ) (i : ℕ) → i < length xs →
    weighted 0 (take (i + 1) xs) ≡ weighted 0 (take i xs) + weight i * get_or xs i 0
weighted_more xs i h =
    let e : 0 + length (take i xs) ≡ i = omega (arith, length-take-le i xs (omega arith)) in
    rw (take_more xs i 0 h, weighted_push 0 (take i xs) (get_or xs i 0), e) refl

-- Another byte in the place of one.
pub weighted-set : (i : ℕ) (xs : List ℕ) (k y : ℕ) → k < length xs →
    weighted i (set xs k y) + weight (i + k) * get_or xs k 0 ≡ weighted i xs + weight (i + k) * y
unfolding weighted
weighted-set i [] k y h = absurd (omega arith)
weighted-set i (x ∷ xs) zero y h = let e : i + 0 ≡ i = omega arith in rw e (omega arith)
weighted-set i (x ∷ xs) (suc k) y h =
    let e : i + suc k ≡ suc i + k = omega arith in
    rw e (omega (arith, weighted-set (suc i) xs k y (omega arith)))

-- A byte counts for no more than the whole.
pub get-le-weighted : (i : ℕ) (xs : List ℕ) (k : ℕ) → weight (i + k) * get_or xs k 0 ≤ weighted i xs
unfolding weighted
get-le-weighted i [] k = omega arith
get-le-weighted i (x ∷ xs) zero = let e : i + 0 ≡ i = omega arith in rw e (omega arith)
get-le-weighted i (x ∷ xs) (suc k) =
    let e : i + suc k ≡ suc i + k = omega arith in
    rw e (omega (arith, get-le-weighted (suc i) xs k))

weight_like : (i j : ℕ) → i % 2 ≡ j % 2 → weight i ≡ weight j
unfolding weight
weight_like i j e = ap (λ r. cond (eqb r 0) 256 1) e

-- Only whether the first place is even counts.
pub weighted_like : (i j : ℕ) (xs : List ℕ) → i % 2 ≡ j % 2 → weighted i xs ≡ weighted j xs
unfolding weighted
weighted_like i j [] e = refl
weighted_like i j (x ∷ xs) e =
    omega (arith, ap (λ w. w * x) (weight_like i j e), weighted_like (suc i) (suc j) xs (omega arith))

-- The second list goes on where the first one ends.
pub weighted-append : (i : ℕ) (xs ys : List ℕ) → weighted i (xs ++ ys) ≡ weighted i xs + weighted (i + length xs) ys
unfolding weighted
weighted-append i [] ys = let e : i + 0 ≡ i = omega arith in rw e (omega arith)
weighted-append i (x ∷ xs) ys =
    let e : i + suc (length xs) ≡ suc i + length xs = omega arith in
    rw e (omega (arith, weighted-append (suc i) xs ys))
