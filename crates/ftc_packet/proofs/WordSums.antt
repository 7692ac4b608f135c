-- Sums that go through the words of a list from its front.
use Rattle.std.proofs.Common.{◌≡◌, ℕ, ◌+◌, ◌-◌, ◌*◌, ◌≤◌, List, [], ◌∷◌, sum, length, take, drop, get_or, arith, sym}
use Rattle.std.proofs.Common.{ap, ◌∙◌}
use Rattle.std.proofs.lemmas.List.{take_all}
use Rattle.std.proofs.lemmas.List.Sums.{sum_by-cons}
use Rattle.ftc_packet.specs.Sum.{ones_complement, words}
use Rattle.ftc_packet.proofs.Numbers.{ones_complement-add, ones_complement-word}

-- The first word, and those behind it.
pub sum-words-first : (xs : List ℕ) → 2 ≤ length xs →
    sum (words xs) ≡ 256 * get_or xs 0 0 + get_or xs 1 0 + sum (words (take (length xs - 2) (drop 2 xs)))
unfolding words
sum-words-first [] h = absurd (omega arith)
sum-words-first (a ∷ []) h = absurd (omega arith)
sum-words-first (a ∷ b ∷ rest) h =
    sum_by-cons (λ x. x) (256 * a + b) (words rest)
    ∙ ap (λ (xs : List ℕ). 256 * a + b + sum (words xs)) (sym (take_all (length (a ∷ b ∷ rest) - 2) rest (omega arith)))

-- One word more of a sum.
pub sum_more : (before after word : ℕ) (xs : List ℕ) → 2 ≤ length xs → word ≡ 256 * get_or xs 0 0 + get_or xs 1 0 →
    after ≡ ones_complement (before + word) →
    ones_complement (after + sum (words (take (length xs - 2) (drop 2 xs)))) ≡ ones_complement (before + sum (words xs))
sum_more before after word xs h is_word is_sum =
    let rest = sum (words (take (length xs - 2) (drop 2 xs))) in
    let all : before + word + rest ≡ before + sum (words xs) = omega (arith, sum-words-first xs h) in
    ap (λ (n : ℕ). ones_complement (n + rest)) is_sum ∙ ones_complement-add (before
    + word) rest ∙ ap ones_complement all

-- An odd last byte.
pub sum_last : (before word : ℕ) (xs : List ℕ) → length xs ≡ 1 → word ≡ 256 * get_or xs 0 0 →
    ones_complement (before + word) ≡ ones_complement (before + sum (words xs))
unfolding words
sum_last before word [] h e = absurd (omega arith)
sum_last before word (a ∷ []) h e = ap (λ (n : ℕ). ones_complement (before + n)) (omega arith)
sum_last before word (a ∷ b ∷ rest) h e = absurd (omega arith)

-- No byte is left.
pub sum_done : (before : ℕ) (xs : List ℕ) → length xs ≡ 0 → before ≤ 65535 →
    before ≡ ones_complement (before + sum (words xs))
unfolding words
sum_done before [] h most =
    let none : before + 0 ≡ before = omega arith in
    sym (ap ones_complement none ∙ ones_complement-word before most)
sum_done before (a ∷ rest) h most = absurd (omega arith)
