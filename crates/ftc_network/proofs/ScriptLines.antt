-- The lines of a script that are left behind one.
use Rattle.std.proofs.Common.{◌≡◌, ◌+◌, ◌∙◌, ℕ, zero, suc, List, [], ◌∷◌, drop, refl, ap, arith}
use Rattle.ftc_protocol.specs.Next.{lines_behind}
use Rattle.ftc_script.specs.declared.line.ScriptLine.{ScriptLine}

behind_drop : (lines : List ScriptLine) (done : ℕ) → lines_behind (drop done lines) ≡ drop (suc done) lines
behind_drop [] zero = refl
behind_drop [] (suc done) = refl
behind_drop (line ∷ lines) zero = refl
behind_drop (line ∷ lines) (suc done) = behind_drop lines done

pub lines_left : (lines left : List ScriptLine) (done : ℕ) → left ≡ drop done lines →
    lines_behind left ≡ drop (done + 1) lines
lines_left lines left done same =
    let one_more : suc done ≡ done + 1 = omega arith in
    ap lines_behind same ∙ (behind_drop lines done ∙ ap (λ (n : ℕ). drop n lines) one_more)
