-- The words of a line, as they are printed.
use Rattle.std.proofs.Common.{◌≡◌, ℕ, List, [], ◌∷◌, ◌++◌, append_assoc}
use Rattle.std.specs.Prelude.{codes}
use Rattle.std.specs.List.{join_with_byte}

pub of_line : (outside protocol a b c d port : List ℕ)
    → codes "port " ++ ((outside ++ (32 ∷ (protocol ++ (32 ∷ (a ++ (46 ∷ (b ++ (46 ∷ (c ++ (46 ∷ d)))))))))) ++ (58
    ∷ (port ++ (10 ∷ []))))
    ≡ join_with_byte 32 (codes "port" ∷ outside ∷ protocol ∷ (join_with_byte 46 (a ∷ b ∷ c ∷ d ∷ []) ++ 58 ∷ port)
    ∷ []) ++ 10 ∷ []
of_line outside protocol a b c d port = simp append_assoc
