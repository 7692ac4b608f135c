-- The first item that passes a test, and the others.
use Rattle.std.proofs.Common.{◌≡◌, ◌+◌, ◌∙◌, ℕ, suc, Bool, true, false, not, nat_lt, List, [], ◌∷◌, ◌++◌, length}
use Rattle.std.proofs.Common.{Some, None, refl, sym, ap, subst, arith, cond, take, drop}
use Rattle.std.specs.Prelude.{slice_index_or}
use Rattle.std.specs.List.{find, slice_get, position, position_or_len, before_first, after_first, AllByRecursion}
use Rattle.std.proofs.lemmas.List.Folds.{find_at}
use Rattle.std.proofs.lemmas.Option.{slice_get-get_or, slice_get_past}
use Rattle.std.proofs.lemmas.Bool.Decides.{nat_tests}

-- no item passes
abbrev NonePasses : {A : Type 0} → (A → Bool) → List A → Type 0
NonePasses test items = AllByRecursion (λ item. test item ≡ false) items

-- how many stand before the first that passes, where the item in front passes or not
abbrev before : Bool → ℕ → ℕ
before passes behind = cond (not passes) (1 + behind) 0

taken : {A : Type 0} (n : ℕ) (item : A) (items : List A) → take (1 + n) (item ∷ items) ≡ item ∷ take n items
taken {A} n item items =
    let next : 1 + n ≡ suc n = omega arith in
    ap (λ (k : ℕ). take k (item ∷ items)) next

dropped : {A : Type 0} (n : ℕ) (item : A) (items : List A) → drop (1 + n + 1) (item ∷ items) ≡ drop (n + 1) items
dropped {A} n item items =
    let next : 1 + n + 1 ≡ suc (n + 1) = omega arith in
    ap (λ (k : ℕ). drop k (item ∷ items)) next

-- ---- what is found

pub test_of_found : {A : Type 0} (test : A → Bool) (items : List A) (item : A) → find test items ≡ Some item
    → test item ≡ true
test_of_found test [] item found = absurd cc
test_of_found {A} test (other ∷ items) item found =
    elim (test other) as (λ t. test other ≡ t → cond t (Some other) (find test items) ≡ Some item → test item ≡ true) [
      | true ↦ λ is same. let e : other ≡ item = cc in sym (ap test e) ∙ is
      | false ↦ λ is later. test_of_found test items item later
    ] refl found

pub around_found : {A : Type 0} (test : A → Bool) (items : List A) (item : A) → find test items ≡ Some item
    → items ≡ before_first test items ++ item ∷ after_first test items
around_found test [] item found = absurd cc
around_found {A} test (other ∷ items) item found =
    let n = position_or_len test items in
    elim (test other) as (λ t. cond t (Some other) (find test items) ≡ Some item
    → other ∷ items ≡ take (before t n) (other ∷ items) ++ item ∷ drop (before t n + 1) (other ∷ items)) [
      | true ↦ λ same. let e : other ≡ item = cc in ap (λ (x : A). x ∷ items) e
      | false ↦ λ later.
          ap (λ (rest : List A). other ∷ rest) (around_found test items item later)
          ∙ ap (λ (front : List A). front ++ item ∷ drop (n + 1) items) (sym (taken n other items))
          ∙ ap (λ (rest : List A). take (1 + n) (other ∷ items) ++ item ∷ rest) (sym (dropped n other items))
    ] found

pub none_before : {A : Type 0} (test : A → Bool) (items : List A) → NonePasses test (before_first test items)
none_before test [] = tt
none_before {A} test (item ∷ items) =
    let n = position_or_len test items in
    elim (test item) as (λ t. test item ≡ t → NonePasses test (take (before t n) (item ∷ items))) [
      | true ↦ λ is. tt
      | false ↦ λ is. subst (NonePasses test) (sym (taken n item items)) (is, none_before test items)
    ] refl

-- ---- where nothing is found

pub none_passes : {A : Type 0} (test : A → Bool) (items : List A) → find test items ≡ None → NonePasses test items
none_passes test [] none = tt
none_passes {A} test (item ∷ items) none =
    elim (test item) as (λ t. test item ≡ t → cond t (Some item) (find test items) ≡ None
    → NonePasses test (item ∷ items)) [
      | true ↦ λ is same. absurd cc
      | false ↦ λ is later. (is, none_passes test items later)
    ] refl none

pub all_stay : {A : Type 0} (test : A → Bool) (items : List A) → find test items ≡ None
    → before_first test items ++ after_first test items ≡ items
all_stay test [] none = refl
all_stay {A} test (item ∷ items) none =
    let n = position_or_len test items in
    elim (test item) as (λ t. cond t (Some item) (find test items) ≡ None
    → take (before t n) (item ∷ items) ++ drop (before t n + 1) (item ∷ items) ≡ item ∷ items) [
      | true ↦ λ same. absurd cc
      | false ↦ λ later.
          ap (λ (front : List A). front ++ drop (1 + n + 1) (item ∷ items)) (taken n item items)
          ∙ ap (λ (rest : List A). item ∷ take n items ++ rest) (dropped n item items)
          ∙ ap (λ (rest : List A). item ∷ rest) (all_stay test items later)
    ] none

-- ---- what stands at the place that is found

pub found_at : {A : Type 0} (test : A → Bool) (items : List A) (place : ℕ) (item : A)
    → position test items ≡ Some place → item ≡ slice_index_or items place item → find test items ≡ Some item
found_at {A} test items place item at is =
    let n = position_or_len test items in
    let size = length items in
    elim (nat_lt n size) as (λ t. nat_lt n size ≡ t → cond t (Some n) None ≡ Some place → find test items ≡ Some item) [
      | true ↦ λ within same.
          let e : n ≡ place = cc in
          find_at test items ∙ ap (slice_get items) e
          ∙ slice_get-get_or items place item (grind (arith, nat_tests, within, e))
          ∙ ap (λ (x : A). Some x) (sym is)
      | false ↦ λ beyond same. absurd cc
    ] refl at

pub none_found : {A : Type 0} (test : A → Bool) (items : List A) → position test items ≡ None → find test items ≡ None
none_found test [] none = refl
none_found {A} test (item ∷ items) none =
    let n = position_or_len test (item ∷ items) in
    let size = length (item ∷ items) in
    elim (nat_lt n size) as (λ t. nat_lt n size ≡ t → cond t (Some n) None ≡ None → find test (item ∷ items) ≡ None) [
      | true ↦ λ within same. absurd cc
      | false ↦ λ beyond same.
          find_at test (item ∷ items) ∙ slice_get_past (item ∷ items) n (grind (arith, nat_tests, beyond))
    ] refl none
