-- A list without one of its items, and with more behind it.
use Rattle.std.proofs.Common.{◌≡◌, ◌≤◌, ◌+◌, ◌∙◌, ◌++◌, ◌||◌, ℕ, Bool, true, false, List, [], ◌∷◌, length, refl, suc}
use Rattle.std.proofs.Common.{sym, ap, cond, arith}
use Rattle.std.specs.Prelude.{filter}
use Rattle.std.specs.List.{list_all, list_any}
use Rattle.std.proofs.lemmas.List.{length-append}
use Rattle.std.proofs.lemmas.List.Elements.{filter-append}
use Rattle.std.proofs.lemmas.List.Folds.{list_all-append, list_any-append}
use Rattle.std.proofs.lemmas.Bool.{or_left, or_right, and_parts}
use Rattle.ftc_server.proofs.Finding.{and_both}

-- the whole is what stands before the item, the item, and what stands after it
pub record IsOut {A : Type 0} (whole rest : List A) (item : A) : Type 0 where
  pub before : List A
  pub after : List A
  pub whole_is : whole ≡ before ++ item ∷ after
  pub rest_is : rest ≡ before ++ after

pub one : Bool → ℕ
one true = 1
one false = 0

pub at_most_one : (b : Bool) → one b ≤ 1
unfolding one
at_most_one true = omega arith
at_most_one false = omega arith

pub one_of : (b : Bool) → b ≡ true → 1 ≤ one b
unfolding one
one_of true is = omega arith
one_of false is = absurd cc

count_first : {A : Type 0} (test : A → Bool) (item : A) (items : List A) →
    length (filter test (item ∷ items)) ≡ one (test item) + length (filter test items)
unfolding one
count_first test item items =
    elim (test item) as (λ t. length (cond t (item ∷ filter test items) (filter test items))
    ≡ one t + length (filter test items)) [
      | true ↦ omega arith
      | false ↦ omega arith
    ]

pub count_behind : {A : Type 0} (test : A → Bool) (items more : List A) →
    length (filter test (items ++ more)) ≡ length (filter test items) + length (filter test more)
count_behind test items more =
    ap length (filter-append test items more) ∙ length-append (filter test items) (filter test more)

-- as many pass but for the item
pub count_out : {A : Type 0} (test : A → Bool) (whole rest : List A) (item : A) → IsOut whole rest item →
    length (filter test whole) ≡ one (test item) + length (filter test rest)
count_out test whole rest item out =
    let whole_count : length (filter test whole)
    ≡ length (filter test out.before) + (one (test item) + length (filter test out.after)) =
    ap (λ items. length (filter test items)) out.whole_is
    ∙ (count_behind test out.before (item ∷ out.after)
    ∙ ap (λ n. length (filter test out.before) + n) (count_first test item out.after)) in
    let rest_count : length (filter test rest) ≡ length (filter test out.before) + length (filter test out.after) =
    ap (λ items. length (filter test items)) out.rest_is ∙ count_behind test out.before out.after in
    omega (arith, whole_count, rest_count)

pub count_all : {A : Type 0} (whole rest : List A) (item : A) → IsOut whole rest item →
    length whole ≡ 1 + length rest
count_all whole rest item out =
    let whole_is : length whole ≡ length out.before + suc (length out.after) =
    ap length out.whole_is ∙ length-append out.before (item ∷ out.after) in
    let rest_is : length rest ≡ length out.before + length out.after =
    ap length out.rest_is ∙ length-append out.before out.after in
    omega (arith, whole_is, rest_is)

-- what holds of all holds of the others
pub all_out : {A : Type 0} (test : A → Bool) (whole rest : List A) (item : A) → IsOut whole rest item →
    list_all test whole ≡ true → list_all test rest ≡ true
all_out test whole rest item out all =
    let parts = and_parts (list_all test out.before) (list_all test (item ∷ out.after))
    (sym (list_all-append test out.before (item ∷ out.after)) ∙ ap (list_all test) (sym out.whole_is) ∙ all) in
    let later = and_parts (test item) (list_all test out.after) parts.1 in
    ap (list_all test) out.rest_is ∙ (list_all-append test out.before out.after
    ∙ and_both (list_all test out.before) (list_all test out.after) parts.0 later.1)

pub all_more : {A : Type 0} (test : A → Bool) (items more : List A) → list_all test items ≡ true →
    list_all test more ≡ true → list_all test (items ++ more) ≡ true
all_more test items more all others =
    list_all-append test items more ∙ and_both (list_all test items) (list_all test more) all others

-- what passes among all is among the others, where it isn't the item
or_false : (a b c : Bool) → a || (b || c) ≡ true → b ≡ false → a || c ≡ true
or_false true b c is fails = refl
or_false false true c is fails = absurd cc
or_false false false c is fails = is

pub any_out : {A : Type 0} (test : A → Bool) (whole rest : List A) (item : A) → IsOut whole rest item →
    list_any test whole ≡ true → test item ≡ false → list_any test rest ≡ true
any_out test whole rest item out any fails =
    ap (list_any test) out.rest_is ∙ (list_any-append test out.before out.after
    ∙ or_false (list_any test out.before) (test item) (list_any test out.after)
    (sym (list_any-append test out.before (item ∷ out.after)) ∙ ap (list_any test) (sym out.whole_is) ∙ any) fails)

pub any_before : {A : Type 0} (test : A → Bool) (items more : List A) → list_any test items ≡ true →
    list_any test (items ++ more) ≡ true
any_before test items more any =
    list_any-append test items more ∙ or_left (list_any test items) (list_any test more) any

pub any_behind : {A : Type 0} (test : A → Bool) (items more : List A) → list_any test more ≡ true →
    list_any test (items ++ more) ≡ true
any_behind test items more any =
    list_any-append test items more ∙ or_right (list_any test items) (list_any test more) any

-- where none passes, some doesn't pass
pub none_any : {A : Type 0} (test : A → Bool) (items : List A) → length (filter test items) ≡ 0 →
    list_any test items ≡ false
none_any test [] none = refl
none_any test (item ∷ items) none =
    elim (test item) as (λ t. length (cond t (item ∷ filter test items) (filter test items)) ≡ 0 →
    t || list_any test items ≡ false) [
      | true ↦ λ some. absurd cc
      | false ↦ λ others. none_any test items others
    ] none
