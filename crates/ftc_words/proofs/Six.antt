-- Six words, one after another.
use Rattle.std.proofs.Common.{◌≡◌, ℕ, List, [], ◌∷◌, length, refl, slice_index_or}
use Rattle.std.specs.Borrow.{Bor}
use Rattle.ftc_words.specs.Given.{texts_of}

pub six_words : (ws : List (Bor (List ℕ))) (d : Bor (List ℕ)) → length ws ≡ 6
    → (slice_index_or ws 0 d).now ∷ (slice_index_or ws 1 d).now ∷ (slice_index_or ws 2 d).now
    ∷ (slice_index_or ws 3 d).now ∷ (slice_index_or ws 4 d).now ∷ (slice_index_or ws 5 d).now ∷ [] ≡ texts_of ws
six_words [] d is = cc
six_words (a ∷ []) d is = cc
six_words (a ∷ b ∷ []) d is = cc
six_words (a ∷ b ∷ c ∷ []) d is = cc
six_words (a ∷ b ∷ c ∷ e ∷ []) d is = cc
six_words (a ∷ b ∷ c ∷ e ∷ f ∷ []) d is = cc
six_words (a ∷ b ∷ c ∷ e ∷ f ∷ g ∷ []) d is = refl
six_words (a ∷ b ∷ c ∷ e ∷ f ∷ g ∷ h ∷ ws) d is = cc
