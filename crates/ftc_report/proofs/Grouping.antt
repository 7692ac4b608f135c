-- Pieces that are put together from the right and from the left are the same.
use Rattle.std.proofs.Common.{◌≡◌, ℕ, List, ◌++◌, append_assoc, ap}
use Rattle.std.specs.Prelude.{codes, decimal, length, count_by}
use Rattle.hex.specs.Hex.{encode_lower}
use Rattle.ftc_protocol.specs.declared.fate.Fate.{Fate}
use Rattle.ftc_report.specs.Text.{is_released, is_filtered, is_lost, count_lines, value_text, key_line}

of_four : (a b c d : List ℕ) → a ++ (b ++ (c ++ d)) ≡ ((a ++ b) ++ c) ++ d
of_four a b c d = simp append_assoc

pub of_key : (key value key_text text : List ℕ) → key_text ≡ encode_lower key → text ≡ value_text value →
    codes "key " ++ (key_text ++ (codes " " ++ (text ++ codes "\n"))) ≡ key_line (key, value)
unfolding key_line
of_key key value key_text text key-is text-is =
    rw (key-is, text-is) (ap (λ (rest : List ℕ). codes "key "
    ++ rest) (of_four (encode_lower key) (codes " ") (value_text value) (codes "\n")))

of_counts : (a b c d feed r f l : List ℕ)
    → a ++ ((feed ++ r) ++ (b ++ ((feed ++ f) ++ (c ++ ((feed ++ l) ++ (d ++ feed))))))
    ≡ (((a ++ feed) ++ (r ++ (b ++ feed))) ++ (f ++ (c ++ feed))) ++ (l ++ (d ++ feed))
of_counts a b c d feed r f l = simp append_assoc

pub of_count_lines : (fates : List Fate) (packets released filtered lost : ℕ) → packets ≡ length fates →
    released ≡ count_by is_released fates → filtered ≡ count_by is_filtered fates → lost ≡ count_by is_lost fates
    → codes "packets " ++ (decimal packets
    ++ (codes "\nreleased " ++ (decimal released
    ++ (codes "\nfiltered " ++ (decimal filtered ++ (codes "\nlost " ++ (decimal lost ++ codes "\n")))))))
    ≡ count_lines fates
unfolding count_lines
of_count_lines fates packets released filtered lost packets-is released-is filtered-is lost-is =
    rw (← packets-is, ← released-is, ← filtered-is, ← lost-is)
    (ap (λ (rest : List ℕ). codes "packets "
    ++ rest) (of_counts (decimal packets) (decimal released) (decimal filtered) (decimal lost) (codes "\n")
    (codes "released ") (codes "filtered ") (codes "lost ")))
