-- What follows from a fact of which it is known only that it holds.
use Rattle.std.proofs.Common.{◌≡◌, ◌<◌, ℕ}
use Rattle.std.proofs.lemmas.Bool.{ltb-true, lt-ltb, eqb-true, eq-eqb}
use Rattle.std.proofs.Math.Bool.{Bool-set}
use Rattle.std.proofs.Math.Logic.{∥∥₁_elim}

pub is_below : {A : Type 0} (number most : ℕ) → ∥ A ∥₁ → (A → number < most) → number < most
is_below number most some from =
    ltb-true number most (∥∥₁_elim some (Bool-set _ _) (λ fact. lt-ltb number most (from fact)))

pub is_same : {A : Type 0} (number other : ℕ) → ∥ A ∥₁ → (A → number ≡ other) → number ≡ other
is_same number other some from =
    eqb-true number other (∥∥₁_elim some (Bool-set _ _) (λ fact. eq-eqb number other (from fact)))
