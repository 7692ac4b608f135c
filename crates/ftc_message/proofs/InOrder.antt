-- Lists in order stay so where items are put at their places and where items are left out.
use Rattle.std.proofs.Common.{◌≡◌, ◌+◌, ◌&&◌, Bool, true, false, List, [], ◌∷◌, ◌++◌, suc, Option, Some, None, refl}
use Rattle.std.proofs.Common.{sym, ap, ◌∙◌, arith, if◌then◌else◌, cond}
use Rattle.std.specs.Prelude.{not, filter, count_by, insert, is_some}
use Rattle.std.specs.Borrow.{Bor}
use Rattle.std.specs.Cmp.{IsStrictWeakOrder}
use Rattle.std.specs.List.{AllByRecursion, find, prefix_len}
use Rattle.std.specs.List.Sorted.{ties}
use Rattle.std.specs.Option.{option_copied}
use Rattle.std.proofs.lemmas.List.Sums.{sum_by-cons}
use Rattle.ftc_base.proofs.EachOf.{all-weaker}
use Rattle.ftc_message.specs.Ordered.{with_item, with_items}
use Rattle.ftc_message.specs.Rises.{Rises, TiesNone, TieNone}

-- ---- any items

-- an item goes behind the first of the others or before it
with_item-cases : {A : Type 0} (Q : List A → Type 0) (is_before : A → A → Bool) (item other : A) (others : List A)
    → (is_before other item ≡ true → Q (other ∷ with_item is_before item others))
    → (is_before other item ≡ false → Q (item ∷ other ∷ others)) → Q (with_item is_before item (other ∷ others))
with_item-cases Q is_before item other others behind before =
    elim (is_before other item) as (λ t. is_before other item ≡ t →
    Q (if t then other ∷ with_item is_before item others else item ∷ other ∷ others)) [
      | true ↦ behind
      | false ↦ before
    ] refl

pub all-with_item : {A : Type 0} (P : A → Type 0) (is_before : A → A → Bool) (item : A) (others : List A) → P item
    → AllByRecursion P others → AllByRecursion P (with_item is_before item others)
all-with_item P is_before item [] here all = (here, tt)
all-with_item P is_before item (other ∷ others) here all =
    with_item-cases (AllByRecursion P) is_before item other others
    (λ _. (all.0, all-with_item P is_before item others here all.1)) (λ _. (here, all))

pub all-with_items : {A : Type 0} (P : A → Type 0) (is_before : A → A → Bool) (items others : List A)
    → AllByRecursion P items → AllByRecursion P others → AllByRecursion P (with_items is_before items others)
all-with_items P is_before [] others all more = more
all-with_items P is_before (item ∷ items) others all more =
    all-with_item P is_before item (with_items is_before items others) all.0
    (all-with_items P is_before items others all.1 more)

pub with_items-push : {A : Type 0} (is_before : A → A → Bool) (items others : List A) (item : A)
    → with_items is_before (items ++ item ∷ []) others ≡ with_items is_before items (with_item is_before item others)
with_items-push is_before [] others item = refl
with_items-push is_before (first ∷ items) others item =
    ap (with_item is_before first) (with_items-push is_before items others item)

-- the item's place is behind all that stand before it
pub with_item-place : {A : Type 0} (is_before : A → A → Bool) (item : A) (others : List A)
    → with_item is_before item others ≡ insert others (prefix_len (λ o. is_before o item) others) item
with_item-place is_before item [] = refl
with_item-place {A} is_before item (other ∷ others) =
    let n = prefix_len (λ o. is_before o item) others in
    let next : 1 + n ≡ suc n = omega arith in
    let later = with_item-place is_before item others in
    with_item-cases (λ placed. placed ≡ insert (other ∷ others) (cond (is_before other item) (1 + n) 0) item) is_before
    item other others (λ is. rw (is, next) (ap (λ (more : List A). other ∷ more) later)) (λ isnt. rw isnt refl)

pub all-filter : {A : Type 0} (P : A → Type 0) (test : A → Bool) (items : List A) → AllByRecursion P items
    → AllByRecursion P (filter test items)
all-filter P test [] all = tt
all-filter P test (item ∷ items) all =
    elim (test item) as (λ t. AllByRecursion P (cond t (item ∷ filter test items) (filter test items))) [
      | true ↦ (all.0, all-filter P test items all.1)
      | false ↦ all-filter P test items all.1
    ]

count_cons : {A : Type 0} (test : A → Bool) (item : A) (items : List A)
    → count_by test (item ∷ items) ≡ cond (test item) 1 0 + count_by test items
count_cons test item items = sum_by-cons (λ x. cond (test x) 1 0) item items

-- an item that is put among others counts as it did
count_with_item : {A : Type 0} (test : A → Bool) (is_before : A → A → Bool) (item : A) (others : List A)
    → count_by test (with_item is_before item others) ≡ cond (test item) 1 0 + count_by test others
count_with_item test is_before item [] = count_cons test item []
count_with_item test is_before item (other ∷ others) =
    let later = count_with_item test is_before item others in
    let first = count_cons test other others in
    let moved = count_cons test other (with_item is_before item others) in
    with_item-cases (λ placed. count_by test placed ≡ cond (test item) 1 0 + count_by test (other ∷ others)) is_before
    item other others (λ _. omega (arith, later, first, moved)) (λ _. count_cons test item (other ∷ others))

pub count_with_items : {A : Type 0} (test : A → Bool) (is_before : A → A → Bool) (items others : List A)
    → count_by test (with_items is_before items others) ≡ count_by test items + count_by test others
count_with_items test is_before [] others = omega arith
count_with_items test is_before (item ∷ items) others =
    let first = count_with_item test is_before item (with_items is_before items others) in
    let later = count_with_items test is_before items others in
    omega (arith, first, later, count_cons test item items)

-- ---- items that rise by an order

module _ {A : Type 0} (is_before : A → A → Bool) (order : IsStrictWeakOrder is_before) where
  pub transitive : (one between other : A) → is_before one between ≡ true → is_before between other ≡ true
      → is_before one other ≡ true
  transitive one between other first second =
      elim (is_before one other) as (λ (t : Bool). is_before one other ≡ t → t ≡ true) [
        | true ↦ λ _. refl
        | false ↦ λ isnt. sym (order.chain between one other (order.one_way one between first) isnt) ∙ second
      ] refl

  -- what stands before the first of items that rise stands before all
  pub before_all : (item first : A) (items : List A) → is_before item first ≡ true → Rises is_before (first ∷ items)
      → AllByRecursion (λ later. is_before item later ≡ true) (first ∷ items)
  before_all item first items is rising = (is, all-weaker _ _ (λ later. transitive item first later is) items rising.0)

  pub else_before : (one other : A) → ties is_before one other ≡ false → is_before other one ≡ false
      → is_before one other ≡ true
  else_before one other apart later = grind (arith, apart, later)

  before_apart : (one other : A) → is_before one other ≡ true → ties is_before one other ≡ false
  before_apart one other is = ap (λ (t : Bool). not t && not (is_before other one)) is

  rises-with_item : (item : A) (others : List A) → TiesNone is_before item others → Rises is_before others
      → Rises is_before (with_item is_before item others)
  rises-with_item item [] none rising = (tt, tt)
  rises-with_item item (other ∷ others) none rising =
      with_item-cases (Rises is_before) is_before item other others
      (λ is. (
        all-with_item (λ later. is_before other later ≡ true) is_before item others is rising.0,
        rises-with_item item others none.1 rising.1,
      ))
      (λ isnt. (before_all item other others (else_before item other none.0 isnt) rising, rising))

  pub rises-with_items : (items others : List A) → Rises is_before items → Rises is_before others
      → TieNone is_before items others → Rises is_before (with_items is_before items others)
  rises-with_items [] others rising more apart = more
  rises-with_items (item ∷ items) others rising more apart =
      rises-with_item item (with_items is_before items others)
      (all-with_items (λ other. ties is_before item other ≡ false) is_before items others
      (all-weaker _ _ (before_apart item) items rising.0) apart.0)
      (rises-with_items items others rising.1 more apart.1)

pub rises-filter : {A : Type 0} (is_before : A → A → Bool) (test : A → Bool) (items : List A) → Rises is_before items
    → Rises is_before (filter test items)
rises-filter is_before test [] rising = tt
rises-filter is_before test (item ∷ items) rising =
    elim (test item) as (λ t. Rises is_before (cond t (item ∷ filter test items) (filter test items))) [
      | true ↦ (
        all-filter (λ later. is_before item later ≡ true) test items rising.0,
        rises-filter is_before test items rising.1,
      )
      | false ↦ rises-filter is_before test items rising.1
    ]

-- ---- items that rise with others rise without them

module _ {A : Type 0} (is_before : A → A → Bool) where
  all-without_item : (P : A → Type 0) (item : A) (others : List A)
      → AllByRecursion P (with_item is_before item others) → AllByRecursion P others
  all-without_item P item [] = λ _. tt
  all-without_item P item (other ∷ others) =
      with_item-cases (λ all. AllByRecursion P all → AllByRecursion P (other ∷ others)) is_before item other others
      (λ _ all. (all.0, all-without_item P item others all.1)) (λ _ all. all.1)

  rises-without_item : (item : A) (others : List A) → Rises is_before (with_item is_before item others)
      → Rises is_before others
  rises-without_item item [] = λ _. tt
  rises-without_item item (other ∷ others) =
      with_item-cases (λ all. Rises is_before all → Rises is_before (other ∷ others)) is_before item other others
      (λ _ rising. (
        all-without_item (λ later. is_before other later ≡ true) item others rising.0,
        rises-without_item item others rising.1,
      )) (λ _ rising. rising.1)

  pub rises-without_items : (items others : List A) → Rises is_before (with_items is_before items others)
      → Rises is_before others
  rises-without_items [] others rising = rising
  rises-without_items (item ∷ items) others rising =
      rises-without_items items others (rises-without_item item (with_items is_before items others) rising)

-- ---- an item that isn't found

find_none : {A : Type 0} (test : A → Bool) (items : List A) → find test items ≡ None →
    AllByRecursion (λ item. test item ≡ false) items
find_none test [] none = tt
find_none {A} test (item ∷ items) none =
    elim (test item) as (λ t. test item ≡ t → cond t (Some item) (find test items) ≡ None →
    AllByRecursion (λ x. test x ≡ false) (item ∷ items)) [
      | true ↦ λ is found. absurd cc
      | false ↦ λ is later. (is, find_none test items later)
    ] refl none

pub none_found : {A : Type 0} (found : Option (Bor A)) (test : A → Bool) (items : List A) (b : Bool)
    → option_copied found ≡ find test items → b ≡ is_some found → b ≡ false →
    AllByRecursion (λ item. test item ≡ false) items
none_found None test items b same is isnt = find_none test items (sym same)
none_found (Some item) test items b same is isnt = absurd (let clash = sym isnt ∙ is in cc)
