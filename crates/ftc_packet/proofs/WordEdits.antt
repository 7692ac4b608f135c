-- Words put into a list of bytes, and the parts of a list.
use Rattle.std.proofs.Common.{◌≡◌, ◌≢◌, ℕ, ◌+◌, ◌*◌, ◌/◌, ◌%◌, ◌<◌, ◌≤◌, ◌⊎◌, List, length, get_or, set, take, drop}
use Rattle.std.proofs.Common.{arith, ap, ◌∙◌, refl}
use Rattle.std.proofs.lemmas.List.{length-set, length-drop, length-take-le, get_or-set_other, get_or-take, get_or-drop}
use Rattle.std.proofs.lemmas.List.{drop-set-add, drop-set-lt, take-set-le}
use Rattle.std.proofs.Math.Seq.{take-set-lt}
use Rattle.ftc_packet.specs.Layout.{word_at, with_word}
use Rattle.ftc_packet.proofs.Weights.{weight, weighted, weight_even, weight_odd, weighted-set, weighted_more}
use Rattle.ftc_packet.proofs.Weights.{get-le-weighted}

-- Another byte at an even place, and at an odd one.
set_even : (xs : List ℕ) (k y : ℕ) → k % 2 ≡ 0 → k < length xs →
    weighted 0 (set xs k y) + 256 * get_or xs k 0 ≡ weighted 0 xs + 256 * y
set_even xs k y e h =
    let w : weight (0 + k) ≡ 256 = weight_even (0 + k) (omega arith) in
    let f = weighted-set 0 xs k y h in
    rw w at f

set_odd : (xs : List ℕ) (k y : ℕ) → k % 2 ≡ 1 → k < length xs →
    weighted 0 (set xs k y) + get_or xs k 0 ≡ weighted 0 xs + y
set_odd xs k y e h =
    let w : weight (0 + k) ≡ 1 = weight_odd (0 + k) (omega arith) in
    let f = weighted-set 0 xs k y h in
    omega (arith, rw w at f)

-- A byte at an even place counts 256 times.
pub even-le-weighted : (xs : List ℕ) (k : ℕ) → k % 2 ≡ 0 → 256 * get_or xs k 0 ≤ weighted 0 xs
even-le-weighted xs k e =
    let w : weight (0 + k) ≡ 256 = weight_even (0 + k) (omega arith) in
    let f = get-le-weighted 0 xs k in
    rw w at f

pub length-with_word : (xs : List ℕ) (at v : ℕ) → length (with_word xs at v) ≡ length xs
unfolding with_word
length-with_word xs at v = length-set (set xs at (v / 256)) (at + 1) (v % 256) ∙ length-set xs at (v / 256)

pub get-with_word_apart : (xs : List ℕ) (b v k : ℕ) → k ≢ b → k ≢ b + 1 →
    get_or (with_word xs b v) k 0 ≡ get_or xs k 0
unfolding with_word
get-with_word_apart xs b v k p q =
    get_or-set_other (set xs b (v / 256)) (b + 1) k (v % 256) 0 q ∙ get_or-set_other xs b k (v / 256) 0 p

-- Another word at an even place.
pub with_word-sum : (xs : List ℕ) (at v : ℕ) → at % 2 ≡ 0 → at + 1 < length xs →
    weighted 0 (with_word xs at v) + word_at xs at ≡ weighted 0 xs + v
unfolding with_word word_at
with_word-sum xs at v e h =
    let ys = set xs at (v / 256) in
    let one = set_even xs at (v / 256) e (omega arith) in
    let two = set_odd ys (at + 1) (v % 256) (omega arith) (omega (arith, length-set xs at (v / 256))) in
    let same = get_or-set_other xs at (at + 1) (v / 256) 0 (omega arith) in
    omega (arith, one, two, same)

-- The words at two places share no byte.
abbrev pub Apart : ℕ → ℕ → Type 0
Apart a b = (a + 1 < b) ⊎ (b + 1 < a)

pub word_at-with_word_apart : (xs : List ℕ) (b v a : ℕ) → Apart a b → word_at (with_word xs b v) a ≡ word_at xs a
unfolding word_at
word_at-with_word_apart xs b v a h =
    let one = get-with_word_apart xs b v a (omega arith) (omega arith) in
    let two = get-with_word_apart xs b v (a + 1) (omega arith) (omega arith) in
    omega (arith, one, two)

-- Two words, and three, that share no byte.
pub with_two-sum : (xs : List ℕ) (a u b v : ℕ) → a % 2 ≡ 0 → b % 2 ≡ 0 → Apart b a → a + 1 < length xs →
    b + 1 < length xs →
    weighted 0 (with_word (with_word xs a u) b v) + word_at xs a + word_at xs b ≡ weighted 0 xs + u + v
with_two-sum xs a u b v ea eb ab la lb =
    let one = with_word-sum xs a u ea la in
    let two = with_word-sum (with_word xs a u) b v eb (omega (arith, length-with_word xs a u)) in
    let same = word_at-with_word_apart xs a u b ab in
    omega (arith, one, two, same)

pub with_three-sum : (xs : List ℕ) (a u b v d w : ℕ) → a % 2 ≡ 0 → b % 2 ≡ 0 → d % 2 ≡ 0 → Apart b a → Apart d a →
    Apart d b → a + 1 < length xs → b + 1 < length xs → d + 1 < length xs →
    weighted 0 (with_word (with_word (with_word xs a u) b v) d w) + word_at xs a + word_at xs b + word_at xs d
    ≡ weighted 0 xs + u + v + w
with_three-sum xs a u b v d w ea eb ed ba da db la lb ld =
    let ys = with_word (with_word xs a u) b v in
    let two = with_two-sum xs a u b v ea eb ba la lb in
    let long = length-with_word (with_word xs a u) b v ∙ length-with_word xs a u in
    let one = with_word-sum ys d w ed (omega (arith, long)) in
    let same = word_at-with_word_apart (with_word xs a u) b v d db ∙ word_at-with_word_apart xs a u d da in
    omega (arith, one, two, same)

-- The n bytes from the place a on.
abbrev pub part : ℕ → ℕ → List ℕ → List ℕ
part a n xs = take n (drop a xs)

pub length-part : (a n : ℕ) (xs : List ℕ) → a + n ≤ length xs → length (part a n xs) ≡ n
length-part a n xs h = length-take-le n (drop a xs) (omega (arith, length-drop a xs))

-- A word inside a part, in front of it, and behind it.
pub part-with_word_in : (a n : ℕ) (xs : List ℕ) (i v : ℕ) → i + 1 < n →
    part a n (with_word xs (a + i) v) ≡ with_word (part a n xs) i v
unfolding with_word
part-with_word_in a n xs i v h =
    let place : a + i + 1 ≡ a + (i + 1) = omega arith in
    rw (
      place,
      drop-set-add a (set xs (a + i) (v / 256)) (i + 1) (v % 256),
      drop-set-add a xs i (v / 256),
      take-set-lt n (set (drop a xs) i (v / 256)) (i + 1) (v % 256) h,
      take-set-lt n (drop a xs) i (v / 256) (omega arith),
    ) refl

pub part-with_word_low : (a n : ℕ) (xs : List ℕ) (k v : ℕ) → k + 1 < a → part a n (with_word xs k v) ≡ part a n xs
unfolding with_word
part-with_word_low a n xs k v h =
    rw (drop-set-lt a (set xs k (v / 256)) (k + 1) (v % 256) h, drop-set-lt a xs k (v / 256) (omega arith)) refl

pub part-with_word_high : (a n : ℕ) (xs : List ℕ) (i v : ℕ) → n ≤ i → part a n (with_word xs (a + i) v) ≡ part a n xs
unfolding with_word
part-with_word_high a n xs i v h =
    let place : a + i + 1 ≡ a + (i + 1) = omega arith in
    rw (
      place,
      drop-set-add a (set xs (a + i) (v / 256)) (i + 1) (v % 256),
      drop-set-add a xs i (v / 256),
      take-set-le n (set (drop a xs) i (v / 256)) (i + 1) (v % 256) (omega arith),
      take-set-le n (drop a xs) i (v / 256) h,
    ) refl

-- A word of a part.
pub word_at-part : (a n : ℕ) (xs : List ℕ) (i : ℕ) → i + 1 < n → word_at (part a n xs) i ≡ word_at xs (a + i)
unfolding word_at
word_at-part a n xs i h =
    let place : a + i + 1 ≡ a + (i + 1) = omega arith in
    rw (
      place,
      get_or-take n (drop a xs) i 0 (omega arith),
      get_or-take n (drop a xs) (i + 1) 0 h,
      get_or-drop a xs i 0,
      get_or-drop a xs (i + 1) 0,
    ) refl

weighted-part_more : (a i : ℕ) (xs : List ℕ) → a + i < length xs →
    weighted 0 (part a (i + 1) xs) ≡ weighted 0 (part a i xs) + weight i * get_or xs (a + i) 0
weighted-part_more a i xs h =
    weighted_more (drop a xs) i (omega (arith, length-drop a xs)) ∙ ap (λ x. weighted 0 (part a i xs)
    + weight i * x) (get_or-drop a xs i 0)

-- One word more of a part.
pub weighted-part_word : (a i : ℕ) (xs : List ℕ) → i % 2 ≡ 0 → a + i + 1 < length xs →
    weighted 0 (part a (i + 2) xs) ≡ weighted 0 (part a i xs) + word_at xs (a + i)
unfolding word_at
weighted-part_word a i xs e h =
    let place : a + i + 1 ≡ a + (i + 1) = omega arith in
    let next : i + 2 ≡ (i + 1) + 1 = omega arith in
    let one = weighted-part_more a i xs (omega arith) in
    let two = weighted-part_more a (i + 1) xs (omega arith) in
    let high = ap (λ w. w * get_or xs (a + i) 0) (weight_even i e) in
    let low = ap (λ w. w * get_or xs (a + (i + 1)) 0) (weight_odd (i + 1) (omega arith)) in
    rw (next, place) (omega (arith, one, two, high, low))
