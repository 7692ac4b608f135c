-- Words and addresses as `byteorder` reads and writes them, in the part of a slice from a place on.
use Rattle.std.proofs.Common.{◌≡◌, ℕ, ◌+◌, ◌-◌, ◌/◌, ◌%◌, ◌<◌, ◌≤◌, List, ◌∷◌, ◌++◌, length, take, drop, get_or, set}
use Rattle.std.proofs.Common.{arith, refl, ap, ◌∙◌, [], zero, suc}
use Rattle.std.proofs.lemmas.List.{append-nil, drop_all, length-drop, get_or-drop, get_or-take, take_all}
use borrow.Rule.Slice.PartMut.{put_mid}
use Rattle.byteorder.specs.Endian.{big_number}
use Rattle.ftc_packet.specs.Layout.{address_at, with_word, word_at}

-- The part of a list from a place on, as a slice has it.
abbrev pub from : ℕ → List ℕ → List ℕ
from at xs = take (length xs - at) (drop at xs)

get_or-from : (at k : ℕ) (xs : List ℕ) → at + k < length xs → get_or (from at xs) k 0 ≡ get_or xs (at + k) 0
get_or-from at k xs h = get_or-take (length xs - at) (drop at xs) k 0 (omega arith) ∙ get_or-drop at xs k 0

pub big_number-word_at : (xs : List ℕ) (at : ℕ) → at + 1 < length xs → big_number 2 (from at xs) ≡ word_at xs at
unfolding word_at
big_number-word_at xs at h =
    let zero-at : at + 0 ≡ at = omega arith in
    let high = rw zero-at at (get_or-from at 0 xs (omega arith)) in
    let low = get_or-from at 1 xs h in
    omega (arith, high, low)

pub big_number-address_at : (xs : List ℕ) (at : ℕ) → at + 3 < length xs → big_number 4 (from at xs) ≡ address_at xs at
unfolding word_at
big_number-address_at xs at h =
    let zero-at : at + 0 ≡ at = omega arith in
    let third : at + 2 + 1 ≡ at + 3 = omega arith in
    let a = rw zero-at at (get_or-from at 0 xs (omega arith)) in
    let b = get_or-from at 1 xs (omega arith) in
    let c = get_or-from at 2 xs (omega arith) in
    let d = get_or-from at 3 xs h in
    rw third (omega (arith, a, b, c, d))

-- Two bytes put in the place of two.
splice-word : (xs : List ℕ) (at high low : ℕ) → at + 1 < length xs →
    take at xs ++ (high ∷ low ∷ drop 2 (drop at xs)) ≡ set (set xs at high) (at + 1) low
splice-word [] at high low h = absurd (omega arith)
splice-word (x ∷ []) at high low h = absurd (omega arith)
splice-word (x ∷ y ∷ xs) zero high low h = refl
splice-word (x ∷ y ∷ xs) (suc at) high low h =
    let next : suc at + 1 ≡ suc (at + 1) = omega arith in
    rw next (ap (λ (zs : List ℕ). x ∷ zs) (splice-word (y ∷ xs) at high low (omega arith)))

-- A word that was written to the part from a place on.
pub put_mid-with_word : (xs ys : List ℕ) (at word : ℕ) → at + 1 < length xs → word < 65536 →
    ys ≡ word / 256 % 256 ∷ word % 256 ∷ drop 2 (from at xs) →
    put_mid at (length xs - at) xs ys ≡ with_word xs at word
unfolding with_word
put_mid-with_word xs ys at word h fits is =
    let tail = drop at xs in
    let count = length xs - at in
    let long : length tail ≤ count = omega (arith, length-drop at xs) in
    let none : drop count tail ≡ [] = drop_all count tail long in
    let whole : take count tail ≡ tail = take_all count tail long in
    let high : word / 256 % 256 ≡ word / 256 = omega arith in
    let written : ys ++ drop count tail ≡ word / 256 ∷ word % 256 ∷ drop 2 tail =
    ap (λ (zs : List ℕ). ys ++ zs) none ∙ append-nil ys ∙ is
    ∙ ap (λ (n : ℕ). n ∷ word % 256 ∷ drop 2 (take count tail)) high
    ∙ ap (λ (zs : List ℕ). word / 256 ∷ word % 256 ∷ drop 2 zs) whole in
    ap (λ (zs : List ℕ). take at xs ++ zs) written ∙ splice-word xs at (word / 256) (word % 256) h
