-- What a look at the withheld packets tells.
use Rattle.std.proofs.Common.{◌≡◌, ◌≤◌, ◌<◌, ◌+◌, ◌∙◌, ℕ, zero, suc, Bool, true, false}
use Rattle.std.proofs.Common.{List, [], ◌∷◌, ◌++◌, length}
use Rattle.std.proofs.Common.{Option, Some, None, sym, ap, arith, inl, inr, take, drop}
use Rattle.std.specs.Prelude.{slice_index_or, slice_set}
use Rattle.std.specs.List.{find, slice_get, position_or_len, before_first, after_first, remove}
use Rattle.std.proofs.lemmas.Bool.{cases_lt, false_from_ne_true}
use Rattle.std.proofs.lemmas.List.{set-get_or, get_or_default}
use Rattle.std.proofs.lemmas.List.Folds.{find_at}
use Rattle.std.proofs.lemmas.List.Sums.{position_or_len_is}
use Rattle.std.proofs.lemmas.Option.{slice_get-get_or, slice_get_past}
use Rattle.ftc_vector.specs.Vector.{mark_at}
use Rattle.ftc_edge.specs.declared.buffer.Withheld.{Withheld}
use Rattle.ftc_edge.specs.Due.{is_due}
use Rattle.ftc_edge.specs.Known.{known_at, marks_of_group, IsBelowMarks, AreLacking, AreNotDue, AreDelayed}

-- ---- marks

no_mark : (partition number : ℕ) → mark_at [] partition ≡ Some number → ⊥
no_mark partition number marked = absurd cc

below_before : (vector : List ℕ) (least : List (List (Option ℕ))) (marks : List (Option ℕ)) (group : ℕ)
    → IsBelowMarks vector (marks_of_group (least ++ marks ∷ []) group)
    → IsBelowMarks vector (marks_of_group least group)
below_before vector [] marks group below = λ partition number marked. absurd (no_mark partition number marked)
below_before vector (first ∷ least) marks zero below = below
below_before vector (first ∷ least) marks (suc group) below = below_before vector least marks group below

-- marks that are added make no number lower
pub lacking_before : (commits : List (List ℕ)) (least : List (List (Option ℕ))) (marks : List (Option ℕ))
    → AreLacking commits (least ++ marks ∷ []) → AreLacking commits least
lacking_before commits least marks lacking = λ group. below_before _ least marks group (lacking group)

-- ---- a packet that is looked at

-- what is written back is what stood there
pub same_again : {A : Type 0} (items : List A) (place : ℕ) (item again : A)
    → item ≡ slice_index_or items place item → again ≡ item → slice_set items place again ≡ items
same_again items place item again read same =
    ap (slice_set items place) (same ∙ read) ∙ set-get_or items place item

pub one_more_not_due : (commits : List (List ℕ)) (items : List Withheld) (begin end : ℕ) (withheld : Withheld)
    → withheld ≡ slice_index_or items end withheld → end < length items → is_due commits withheld ≡ false
    → AreNotDue commits items begin end → AreNotDue commits items begin (end + 1)
one_more_not_due commits items begin end withheld read within is others = λ place other above below.
    elim (cases_lt place end) [
      | inl before ↦ others place other above before
      | inr behind ↦
          let at : place ≡ end = omega (arith, behind, below) in
          ap (λ (k : ℕ). is_due commits (slice_index_or items k other)) at
          ∙ ap (is_due commits) (get_or_default items end other withheld within ∙ sym read) ∙ is
    ]

-- a packet that lacks a number isn't due
pub not_due_lacking : (commits : List (List ℕ)) (withheld : Withheld) (number known : ℕ)
    → known < number → (is_due commits withheld ≡ true → number ≤ known) → is_due commits withheld ≡ false
not_due_lacking commits withheld number known lacking delays =
    false_from_ne_true (is_due commits withheld) (λ due. let reached = delays due in omega (arith, lacking, reached))

pub one_more_delayed : (before after : List (List (Option ℕ))) (items : List Withheld) (begin end : ℕ)
    (withheld : Withheld) (group partition number : ℕ)
    → ((commits : List (List ℕ)) → AreLacking commits after → AreLacking commits before)
    → ((commits : List (List ℕ)) → AreLacking commits after → known_at commits group partition < number)
    → ((commits : List (List ℕ)) → is_due commits withheld ≡ true → number ≤ known_at commits group partition)
    → withheld ≡ slice_index_or items end withheld → end < length items
    → AreDelayed before items begin end → AreDelayed after items begin (end + 1)
one_more_delayed before after items begin end withheld group partition number others own delays read within delayed =
    λ commits lacking. one_more_not_due commits items begin end withheld read within
    (not_due_lacking commits withheld number (known_at commits group partition) (own commits lacking) (delays commits))
    (delayed commits (others commits lacking))

-- ---- the first that is due

pub first_due_at : (commits : List (List ℕ)) (items : List Withheld) (place : ℕ) → place ≤ length items
    → AreNotDue commits items 0 place
    → (place < length items → (other : Withheld) → is_due commits (slice_index_or items place other) ≡ true)
    → position_or_len (is_due commits) items ≡ place
first_due_at commits [] place within not_due due = omega (arith, within)
first_due_at commits (first ∷ items) place within not_due due =
    position_or_len_is (is_due commits) (first ∷ items) place first within
    (λ k before. not_due k first (omega arith) before) (λ inside. due inside first)

-- packets up to one place and packets from there on
pub both_not_due : (commits : List (List ℕ)) (items : List Withheld) (begin middle end : ℕ)
    → AreNotDue commits items begin middle → AreNotDue commits items middle end → AreNotDue commits items begin end
both_not_due commits items begin middle end first second = λ place other above below.
    elim (cases_lt place middle) [
      | inl before ↦ first place other above before
      | inr behind ↦ second place other behind below
    ]

-- ---- what stands at the place that is found

pub found_at_place : {A : Type 0} (test : A → Bool) (items : List A) (place : ℕ) (item : A)
    → place ≡ position_or_len test items → place < length items → item ≡ slice_index_or items place item
    → find test items ≡ Some item
found_at_place {A} test items place item at within is =
    find_at test items ∙ ap (slice_get items) (sym at) ∙ slice_get-get_or items place item within
    ∙ ap (λ (x : A). Some x) (sym is)

pub none_at_end : {A : Type 0} (test : A → Bool) (items : List A) (place : ℕ)
    → place ≡ position_or_len test items → length items ≤ place → find test items ≡ None
none_at_end test items place at behind =
    find_at test items ∙ ap (slice_get items) (sym at) ∙ slice_get_past items place behind

pub removed_first : {A : Type 0} (test : A → Bool) (items : List A) (place : ℕ) → place ≡ position_or_len test items
    → remove items place ≡ before_first test items ++ after_first test items
removed_first {A} test items place at =
    let next : suc place ≡ position_or_len test items + 1 = omega (arith, at) in
    ap (λ (k : ℕ). take k items ++ drop (suc place) items) at
    ∙ ap (λ (k : ℕ). before_first test items ++ drop k items) next
