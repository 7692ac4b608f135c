-- What is so of each number below another.
use Rattle.std.proofs.Common.{◌≡◌, ◌+◌, ◌<◌, ℕ, inl, inr, sym, subst, arith}
use Rattle.std.proofs.lemmas.Bool.{cases_eq}

-- what is so of all below a number, and of that number, is so of all below the next
pub below_next : (P : ℕ → Type 0) (number own next : ℕ) → own ≡ number → next ≡ number + 1 →
    ((below : ℕ) → below < number → P below) → P own → (below : ℕ) → below < next → P below
below_next P number own next is next_is all one below less = elim (cases_eq below own) [
  | inl same ↦ subst P (sym same) one
  | inr differs ↦ all below (omega (arith, less, differs, is, next_is))
]
