-- Numbers that may rise.
use Rattle.std.proofs.Common.{◌≡◌, ◌<◌, ℕ, suc, true, List, [], ◌∷◌, refl, length, arith}
use Rattle.std.specs.Prelude.{nat_lt, slice_index}
use Rattle.std.specs.List.{list_all}
use Rattle.std.proofs.lemmas.Bool.{lt-ltb}
use Rattle.ftc_server.proofs.Finding.{and_both}

pub all_below : (most : ℕ) (numbers : List ℕ) → ((k : ℕ) → k < length numbers → slice_index numbers k < most)
    → list_all (λ number. nat_lt number most) numbers ≡ true
all_below most [] each = refl
all_below most (number ∷ numbers) each =
    and_both (nat_lt number most) (list_all (λ n. nat_lt n most) numbers) (lt-ltb number most (each 0 (omega arith)))
    (all_below most numbers (λ k within. each (suc k) (omega (arith, within))))
