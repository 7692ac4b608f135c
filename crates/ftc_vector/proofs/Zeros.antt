-- Whether numbers are 0, and whether what their bits give together is.
use Rattle.std.proofs.Common.{◌≡◌, ◌==◌, ◌∙◌, ℕ, zero, suc, Bool, true, false, bit_or, refl, sym, ap, arith}
use Rattle.std.specs.Prelude.{◌&&◌}
use Rattle.std.proofs.lemmas.Nat.{le_or_l, le_or_r}
use Rattle.std.proofs.lemmas.Bool.{ne_eqb}

abbrev pub is_zero : ℕ → Bool
is_zero number = number == 0

-- both give 0 where each is 0
pub both_zero : (a b : ℕ) → is_zero (bit_or a b) ≡ (is_zero a && is_zero b)
both_zero zero zero = refl
both_zero zero (suc b) =
    ne_eqb (bit_or zero (suc b)) 0 (λ is. omega (arith, le_or_r zero (suc b))) ∙ sym
    (ne_eqb (suc b) 0 (λ is. omega arith))
both_zero (suc a) b =
    ne_eqb (bit_or (suc a) b) 0 (λ is. omega (arith, le_or_l (suc a) b))
    ∙ sym (ap (λ (t : Bool). t && is_zero b) (ne_eqb (suc a) 0 (λ is. omega arith)))

-- the first of the rest is taken among the bits
pub one_more : (bits number : ℕ) (rest : Bool) →
    (is_zero (bit_or bits number) && rest) ≡ (is_zero bits && (is_zero number && rest))
one_more bits number rest =
    ap (λ (t : Bool). t && rest) (both_zero bits number) ∙ grouped (is_zero bits) (is_zero number) rest
  where
    grouped : (s t u : Bool) → ((s && t) && u) ≡ (s && (t && u))
    grouped true t u = refl
    grouped false t u = refl
