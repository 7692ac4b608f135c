-- What is left of marks behind a partition.
use Rattle.std.proofs.Common.{◌≡◌, ℕ, suc, ◌+◌, ◌≤◌, List, [], ◌∷◌, ◌++◌, length, drop, get_or, Option, Some, None}
use Rattle.std.proofs.Common.{refl, sym, ap, ◌∙◌, arith}
use Rattle.std.proofs.lemmas.List.{append-nil, get_or-drop}
use Rattle.ftc_vector.specs.Vector.{IsEnd}
use Rattle.ftc_message.specs.Spelling.{marked, marks_from, parts_from}
use Rattle.ftc_message.proofs.MarkLaws.{marked_few}

pub count_small : (marks : List (Option ℕ)) (p count : ℕ) → count + marked (drop p marks) ≡ marked marks →
    count ≤ length marks
count_small marks p count so_far = omega (arith, marked_few marks)

-- no partition has a mark
AreNone : List (Option ℕ) → Type 0
AreNone marks = (p : ℕ) → get_or marks p None ≡ None

none_counted : (marks : List (Option ℕ)) → AreNone marks → marked marks ≡ 0
unfolding AreNone
none_counted [] none = refl
none_counted (None ∷ marks) none = none_counted marks (λ p. none (suc p))
none_counted (Some number ∷ marks) none = let there : Some number ≡ None = none 0 in absurd cc

none_marked : (marks : List (Option ℕ)) (from : ℕ) → AreNone marks → marks_from from marks ≡ []
unfolding AreNone
none_marked [] from none = refl
none_marked (None ∷ marks) from none = none_marked marks (from + 1) (λ p. none (suc p))
none_marked (Some number ∷ marks) from none = let there : Some number ≡ None = none 0 in absurd cc

none_in_parts : (marks : List (Option ℕ)) (changed from : ℕ) → AreNone marks → parts_from changed from marks ≡ []
unfolding AreNone
none_in_parts [] changed from none = refl
none_in_parts (None ∷ marks) changed from none = none_in_parts marks changed (from + 1) (λ p. none (suc p))
none_in_parts (Some number ∷ marks) changed from none = let there : Some number ≡ None = none 0 in absurd cc

-- behind the end there is none
none_behind : (marks : List (Option ℕ)) (end p : ℕ) → IsEnd marks end → end ≤ p → AreNone (drop p marks)
unfolding AreNone
none_behind marks end p is past = λ k. get_or-drop p marks k None ∙ is.beyond (p + k) (omega (arith, past))

pub all_counted : (marks : List (Option ℕ)) (end p count : ℕ) → IsEnd marks end → end ≤ p
    → count + marked (drop p marks) ≡ marked marks → count ≡ marked marks
all_counted marks end p count is past so_far =
    omega (arith, so_far, none_counted (drop p marks) (none_behind marks end p is past))

pub marks_all : (marks : List (Option ℕ)) (end p : ℕ) (out whole : List ℕ) → IsEnd marks end → end ≤ p
    → out ++ marks_from p (drop p marks) ≡ whole → out ≡ whole
marks_all marks end p out whole is past so_far =
    sym (append-nil out)
    ∙ ap (λ (rest : List ℕ). out
    ++ rest) (sym (none_marked (drop p marks) p (none_behind marks end p is past))) ∙ so_far

pub parts_all : (marks : List (Option ℕ)) (changed end p : ℕ) (out whole : List ℕ) → IsEnd marks end → end ≤ p
    → out ++ parts_from changed p (drop p marks) ≡ whole → out ≡ whole
parts_all marks changed end p out whole is past so_far =
    sym (append-nil out)
    ∙ ap (λ (rest : List ℕ). out
    ++ rest) (sym (none_in_parts (drop p marks) changed p (none_behind marks end p is past)))
    ∙ so_far
