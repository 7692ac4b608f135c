-- The packets that are left when one leaves.
use Rattle.std.proofs.Common.{◌≡◌, ◌+◌, ◌++◌, ◌∷◌, ℕ, List, length, ap, arith, length-append}
use Rattle.ftc_edge.specs.declared.buffer.Withheld.{Withheld}
use Rattle.ftc_edge.specs.Due.{without_due, IsFirstOf}

pub one_fewer : (known : List (List ℕ)) (items : List Withheld) (due : Withheld) →
    IsFirstOf known items (without_due known items) due → length (without_due known items) + 1 ≡ length items
one_fewer known items due first =
    let before : length items ≡ length (first.before ++ due ∷ first.after) =
    ap (λ (list : List Withheld). length list) first.among in
    let left : length (without_due known items) ≡ length (first.before ++ first.after) =
    ap (λ (list : List Withheld). length list) first.others in
    omega (arith, before, left, length-append first.before (due ∷ first.after), length-append first.before first.after)
