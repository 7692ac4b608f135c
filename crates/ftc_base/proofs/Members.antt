-- The members of a set after a change.
use Rattle.std.proofs.Common.{◌≡◌, ◌/◌, ◌-◌, ℕ, ◌<◌, ◌≤◌, ◌*◌, ◌%◌, ◌^◌, ◌∙◌, false, refl}
use Rattle.std.proofs.Common.{sym, arith}
use Rattle.std.specs.Prelude.{◌==◌, ◌||◌, ◌&&◌, not}
use Rattle.std.specs.Int.{bit_at, bit_not, w64}
use Rattle.std.specs.Int.RustNames.{bit_or, bit_and}
use Rattle.std.proofs.lemmas.Nat.Bits.{bit_at_set_same, bit_at_set_other, bit_at_clear_same, bit_at_clear_other}
use Rattle.std.proofs.lemmas.Nat.Bits.{bit_at_and, bit_at_above, bit_at-lt, same_from_bits, shr_and_one, bit_at-zero}
use Rattle.std.proofs.lemmas.Bool.Decides.{nat_tests}
use Rattle.ftc_base.specs.Sets.{has}

pub has-zero : (member : ℕ) → has 0 member ≡ false
unfolding has
has-zero member = rw (bit_at-zero member) refl

pub has-bit : (set number : ℕ) → (bit_and (set / 2 ^ number) 1 == 1) ≡ has set number
unfolding has
has-bit set number = rw (shr_and_one set number) refl

pub has-with : (set number member : ℕ) → number < 64 →
    has (bit_or set (1 * 2 ^ number % 2 ^ 64)) member ≡ (member == number || has set member)
unfolding has
has-with set number member within =
    grind (arith, nat_tests, bit_at_set_same w64 set number within, bit_at_set_other w64 set number within member)

pub has-without : (set number member : ℕ) → number < 64 → set < 2 ^ 64 →
    has (bit_and set (bit_not w64 (1 * 2 ^ number % 2 ^ 64))) member ≡ (not (member == number) && has set member)
unfolding has
has-without set number member within small =
    let high : 64 ≤ member → bit_at set member ≡ 0 = bit_at_above set 64 member small in
    let both = bit_at_and set (bit_not w64 (1 * 2 ^ number % 2 ^ 64)) member in
    grind (arith, nat_tests, bit_at_clear_same w64 set number within, bit_at_clear_other w64 set number within member)

pub same : (a b : ℕ) → ((member : ℕ) → has a member ≡ has b member) → a ≡ b
unfolding has
same a b alike = same_from_bits a b (λ i. grind (arith, nat_tests, alike i, bit_at-lt a i, bit_at-lt b i))

-- a set without a member is 0
pub no_member : (set : ℕ) → ((member : ℕ) → has set member ≡ false) → set ≡ 0
no_member set none = same set 0 (λ member. none member ∙ sym (has-zero member))
