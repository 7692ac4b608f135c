-- Sets to which a member is added.
use Rattle.std.proofs.Common.{◌≡◌, ◌≢◌, ◌<◌, ℕ, ◌^◌, ◌==◌, ◌||◌, true, false, max, bit_or, refl, ap, sym, ◌∙◌, inl, inr}
use Rattle.std.proofs.Common.{arith}
use Rattle.std.proofs.lemmas.Nat.Bits.{bit_at-zero, bit_at_or, bit_at-pow_same, bit_at-pow_other}
use Rattle.std.proofs.lemmas.Bool.{cases_eq, eq-eqb, ne_eqb}
use Rattle.std.specs.Int.{bit_at}
use Rattle.ftc_base.specs.Sets.{has}
use Rattle.ftc_base.proofs.Members.{same, has-zero}

with_bit : (a b : ℕ) → b < 2 → a ≡ max b 1 → (a == 1) ≡ true
with_bit a b small is = eq-eqb a 1 (omega arith)

pub has_added_same : (set member : ℕ) → has (bit_or set (2 ^ member)) member ≡ true
unfolding has
has_added_same set member =
    with_bit (bit_at (bit_or set (2 ^ member)) member) (bit_at set member) (omega arith)
    (rw (bit_at_or set (2 ^ member) member, bit_at-pow_same member) refl)

pub has_added_other : (set member other : ℕ) → other ≢ member → has (bit_or set (2 ^ member)) other ≡ has set other
unfolding has
has_added_other set member other differs =
    let is : bit_at (bit_or set (2 ^ member)) other ≡ bit_at set other =
    bit_at_or set (2 ^ member) other ∙ rw (bit_at-pow_other member other differs) (omega arith) in
    ap (λ (bit : ℕ). bit == 1) is

pub has_added : (set member other : ℕ) → has (bit_or set (2 ^ member)) other ≡ (other == member || has set other)
has_added set member other =
    elim (cases_eq other member) [
      | inl same ↦ rw (same, has_added_same set member, eq-eqb member member refl) refl
      | inr differs ↦ rw (ne_eqb other member differs) (has_added_other set member other differs)
    ]

-- a set that has one more member is that set
pub added : (set more member : ℕ) → ((other : ℕ) → has more other ≡ (other == member || has set other)) →
    more ≡ bit_or set (2 ^ member)
added set more member is = same more (bit_or set (2 ^ member)) (λ other. is other ∙ sym (has_added set member other))
