-- Where a wait stands by its ticket, and what is noted of the numbers that are waited for.
use Rattle.std.proofs.Common.{◌≡◌, ◌≤◌, ◌<◌, ◌∙◌, ◌+◌, ◌-◌, ℕ, suc, Bool, true, false, List, [], ◌∷◌, ◌++◌}
use Rattle.std.proofs.Common.{Option, Some, None, length, get_or, take, drop, cond, refl, sym, ap, subst, arith}
use Rattle.std.proofs.Common.{nat_lt, not, inl, inr}
use Rattle.std.specs.Prelude.{if◌then◌else◌}
use Rattle.std.specs.List.Sorted.{IsNonDecreasingBy}
use Rattle.std.specs.List.{All, AllPairs, count_by, position, position_or_len, before_first, after_first, remove}
use Rattle.std.proofs.lemmas.Bool.{cases_lt}
use Rattle.std.proofs.lemmas.Bool.Decides.{nat_tests}
use Rattle.std.proofs.lemmas.List.{length-map, map-append, take-map, drop-map}
use Rattle.std.proofs.lemmas.List.Elements.{All-push, All-append, All-take, All-drop}
use Rattle.std.proofs.lemmas.List.Quantifiers.{all_pairs_push, all_pairs_remove, position-Some}
use Rattle.std.proofs.lemmas.List.Sums.{position_or_len_is, get_or-le-sum_by, sum_by_push, sum_by-remove}
use Rattle.std.proofs.lemmas.List.Edits.{length-remove, get_or-remove_below, get_or-remove_above}
use Rattle.ftc_replica.specs.declared.awaited.Number.{Number}
use Rattle.ftc_replica.specs.declared.awaited.Queue.{Queue}
use Rattle.ftc_replica.specs.declared.waits.Wait.{Wait}
use Rattle.ftc_replica.specs.declared.waits.Ticketed.{Ticketed}
use Rattle.ftc_replica.specs.Awaited.{same_number, found, looks_from, noted, taken_off}
use Rattle.ftc_replica.specs.Tickets.{waits_of, waits_for_number, IsSo, AreTicketed}

-- ---- the first that passes a test

pub stands_at : {A : Type 0} (test : A → Bool) (items : List A) (place : ℕ) (other : A) → place < length items
    → ((k : ℕ) → k < place → test (get_or items k other) ≡ false) → test (get_or items place other) ≡ true
    → position test items ≡ Some place
stands_at test items place other within fails passes =
    let at : position_or_len test items ≡ place =
    position_or_len_is test items place other (omega (arith, within)) fails (λ inside. passes) in
    rw at (grind (arith, nat_tests, within))

pub stands_nowhere : {A : Type 0} (test : A → Bool) (items : List A) → All (λ item. test item ≡ false) items
    → position test items ≡ None
stands_nowhere test [] fails = refl
stands_nowhere test (item ∷ items) fails =
    let size = length (item ∷ items) in
    let at : position_or_len test (item ∷ items) ≡ size =
    position_or_len_is test (item ∷ items) size item (omega arith) (λ k within. fails k item within)
    (λ inside. absurd (omega (arith, inside))) in
    rw at (grind (arith, nat_tests))

-- no element passes where none is counted
pub none_passes : {A : Type 0} (test : A → Bool) (items : List A) → count_by test items ≡ 0
    → All (λ item. test item ≡ false) items
none_passes {A} test items none k other within =
    elim (test (get_or items k other)) as (λ t. test (get_or items k other) ≡ t → t ≡ false) [
      | true ↦ λ is.
          let one = get_or-le-sum_by (λ (x : A). cond (test x) 1 0) items k other within in
          let counted : ◌≡◌ {A = ℕ} (cond (test (get_or items k other)) 1 0) 1 = rw is refl in
          absurd (omega (arith, one, counted, none))
      | false ↦ λ is. refl
    ] refl

-- the first wait for a number stands where the first does that has a ticket
place_in_all : (test : Wait → Bool) (held : List Ticketed)
    → position_or_len test (waits_of held) ≡ position_or_len (λ (one : Ticketed). test one.wait) held
place_in_all test [] = refl
place_in_all test (one ∷ held) =
    ap (λ (n : ℕ). cond (not (test one.wait)) (1 + n) 0) (place_in_all test held)

pub place_of_wait : (test : Wait → Bool) (held : List Ticketed)
    → position test (waits_of held) ≡ position (λ (one : Ticketed). test one.wait) held
place_of_wait test held =
    rw (place_in_all test held, length-map held (λ (one : Ticketed). one.wait)) refl

-- ---- where to look

pub none_noted : (held : List Ticketed) (next : ℕ) (is_noted : Bool) (numbers : List (Number × Queue))
    (number : Number) → AreTicketed held next is_noted numbers → looks_from is_noted (found numbers number) ≡ None
    → position (waits_for_number number) held ≡ None
none_noted held next false numbers number are none = absurd cc
none_noted held next true numbers number are none =
    elim (found numbers number) as (λ q. looks_from true q ≡ None → IsSo held next number q
    → position (waits_for_number number) held ≡ None) [
      | None ↦ λ is counted.
          stands_nowhere (waits_for_number number) held (none_passes (waits_for_number number) held counted)
      | Some queue ↦ λ is so. absurd cc
    ] none (are.noted refl number)

pub none_lower : (held : List Ticketed) (next : ℕ) (is_noted : Bool) (numbers : List (Number × Queue))
    (number : Number) (from : ℕ) → AreTicketed held next is_noted numbers
    → looks_from is_noted (found numbers number) ≡ Some from
    → All (λ (one : Ticketed). one.ticket < from → waits_for_number number one ≡ false) held
none_lower held next false numbers number from are is = λ k other within lower.
    let e : from ≡ 0 = cc in absurd (omega (arith, e, lower))
none_lower held next true numbers number from are is =
    elim (found numbers number) as (λ q. looks_from true q ≡ Some from → IsSo held next number q
    → All (λ (one : Ticketed). one.ticket < from → waits_for_number number one ≡ false) held) [
      | None ↦ λ some so. absurd cc
      | Some queue ↦ λ some so k other within lower.
          let e : queue.from ≡ from = cc in so.2 k other within (omega (arith, e, lower))
    ] is (are.noted refl number)

pub rising : (held : List Ticketed) → AllPairs (λ (one two : Ticketed). one.ticket ≤ two.ticket) held
    → IsNonDecreasingBy (λ (one : Ticketed). one.ticket) held
rising held rise i j other up within =
    elim (cases_lt i j) [
      | inl less ↦ rise i j other less within
      | inr more ↦
          let e : i ≡ j = omega (arith, up, more) in
          let same = ap (λ (k : ℕ). (get_or held k other).ticket) e in omega (arith, same)
    ]

-- ---- what is noted stays so

pub same_numbers : (held : List Ticketed) (next : ℕ) (is_noted : Bool) (numbers others : List (Number × Queue))
    → AreTicketed held next is_noted numbers → ((number : Number) → found others number ≡ found numbers number)
    → AreTicketed held next is_noted others
same_numbers held next is_noted numbers others are same = record {
  rise = are.rise;
  below = are.below;
  noted = λ is number. subst (IsSo held next number) (sym (same number)) (are.noted is number);
}

-- ---- one more wait

so_noted : (held : List Ticketed) (next more : ℕ) (one : Ticketed) (number : Number) (queue : Option Queue)
    → next ≤ more → one.ticket ≡ next → waits_for_number number one ≡ true → IsSo held next number queue
    → IsSo (held ++ one ∷ []) more number (noted one.ticket queue)
so_noted held next more one number None up at is none =
    let test = waits_for_number number in
    let counted = sum_by_push (λ (x : Ticketed). cond (test x) 1 0) held one in
    let this : ◌≡◌ {A = ℕ} (cond (test one) 1 0) 1 = rw is refl in (
      omega (arith, counted, this, none),
      omega (arith, at, up),
      All-push (λ (x : Ticketed). x.ticket < one.ticket → test x ≡ false) held one
          (λ k other within lower. none_passes test held none k other within) (λ lower. absurd (omega (arith, lower))),
    )
so_noted held next more one number (Some queue) up at is so =
    let test = waits_for_number number in
    let counted = sum_by_push (λ (x : Ticketed). cond (test x) 1 0) held one in
    let this : ◌≡◌ {A = ℕ} (cond (test one) 1 0) 1 = rw is refl in
    let before = so.0 in
    let from = so.1 in (
      omega (arith, counted, this, before),
      omega (arith, from, up),
      All-push (λ (x : Ticketed). x.ticket < queue.from → test x ≡ false) held one so.2
          (λ lower. absurd (omega (arith, lower, at, from))),
    )

so_for_others : (held : List Ticketed) (next more : ℕ) (one : Ticketed) (number : Number) (queue : Option Queue)
    → next ≤ more → waits_for_number number one ≡ false → IsSo held next number queue
    → IsSo (held ++ one ∷ []) more number queue
so_for_others held next more one number None up is none =
    let test = waits_for_number number in
    let counted = sum_by_push (λ (x : Ticketed). cond (test x) 1 0) held one in
    let this : ◌≡◌ {A = ℕ} (cond (test one) 1 0) 0 = rw is refl in omega (arith, counted, this, none)
so_for_others held next more one number (Some queue) up is so =
    let test = waits_for_number number in
    let counted = sum_by_push (λ (x : Ticketed). cond (test x) 1 0) held one in
    let this : ◌≡◌ {A = ℕ} (cond (test one) 1 0) 0 = rw is refl in
    let before = so.0 in
    let from = so.1 in (
      omega (arith, counted, this, before),
      omega (arith, from, up),
      All-push (λ (x : Ticketed). x.ticket < queue.from → test x ≡ false) held one so.2 (λ lower. is),
    )

so_added : (held : List Ticketed) (next more : ℕ) (one : Ticketed) (number : Number) (queue : Option Queue)
    → next ≤ more → one.ticket ≡ next → IsSo held next number queue
    → IsSo (held ++ one ∷ []) more number (if waits_for_number number one then noted one.ticket queue else queue)
so_added held next more one number queue up at so =
    elim (waits_for_number number one) as (λ t. waits_for_number number one ≡ t
    → IsSo (held ++ one ∷ []) more number (if t then noted one.ticket queue else queue)) [
      | true ↦ λ is. so_noted held next more one number queue up at is so
      | false ↦ λ is. so_for_others held next more one number queue up is so
    ] refl

pub added : (held : List Ticketed) (next : ℕ) (is_noted : Bool) (numbers : List (Number × Queue)) (wait : Wait)
    (more : ℕ) (still : Bool) (others : List (Number × Queue))
    → AreTicketed held next is_noted numbers → next ≤ more
    → (still ≡ true → (is_noted ≡ true) × ((number : Number) → found others number
    ≡ (if waits_for_number number (record { ticket = next; wait = wait }) then noted next (found numbers number)
    else found numbers number)))
    → AreTicketed (held ++ record { ticket = next; wait = wait } ∷ []) more still others
added held next is_noted numbers wait more still others are up change =
    let one : Ticketed = record { ticket = next; wait = wait } in record {
      rise = all_pairs_push (λ (a b : Ticketed). a.ticket ≤ b.ticket) held one are.rise are.below;
      below =
          All-push (λ (a : Ticketed). a.ticket ≤ more) held one
          (λ k other within. let low = are.below k other within in omega (arith, low, up)) up;
      noted = λ is number.
          let changed = change is in
          subst (IsSo (held ++ one ∷ []) more number) (sym (changed.1 number))
          (so_added held next more one number (found numbers number) up refl (are.noted changed.0 number));
    }

-- ---- one wait less

all_but_one : {A : Type 0} (P : A → Type 0) (items : List A) (place : ℕ) → All P items → All P (remove items place)
all_but_one P items place all =
    All-append P (take place items) (drop (suc place) items) (All-take P place items all)
    (All-drop P (suc place) items all)

so_taken_off : (held : List Ticketed) (next place : ℕ) (one : Ticketed) (number : Number) (queue : Option Queue)
    → place < length held → ((other : Ticketed) → get_or held place other ≡ one)
    → AllPairs (λ (a b : Ticketed). a.ticket ≤ b.ticket) held → one.ticket ≤ next
    → ((k : ℕ) (other : Ticketed) → k < place → waits_for_number number (get_or held k other) ≡ false)
    → waits_for_number number one ≡ true → IsSo held next number queue
    → IsSo (remove held place) next number (taken_off one.ticket queue)
so_taken_off held next place one number None within stands rise low fails is none =
    let test = waits_for_number number in
    let counted = sum_by-remove (λ (x : Ticketed). cond (test x) 1 0) held place one within in
    omega (arith, counted, none)
so_taken_off held next place one number (Some queue) within stands rise low fails is so =
    let test = waits_for_number number in
    let counted = sum_by-remove (λ (x : Ticketed). cond (test x) 1 0) held place one within in
    let this : ◌≡◌ {A = ℕ} (cond (test (get_or held place one)) 1 0) 1 = rw (stands one, is) refl in
    let before = so.0 in
    elim (nat_lt 1 queue.count) as (λ t. nat_lt 1 queue.count ≡ t → IsSo (remove held place) next number
    (if t then Some (record { count = queue.count - 1; from = one.ticket }) else None)) [
      | true ↦ λ some. (
        omega (arith, counted, this, before),
        low,
        λ k other inside lower.
            elim (cases_lt k place) [
              | inl front ↦
                  let same = get_or-remove_below held place other k front within in
                  ap test same ∙ fails k other front
              | inr behind ↦
                  let same = get_or-remove_above held place other k behind within in
                  let fewer = length-remove held place within in
                  let up = rise place (k + 1) other (omega (arith, behind)) (omega (arith, inside, fewer)) in
                  let first = ap (λ (x : Ticketed). x.ticket) (stands other) in
                  let this_one = ap (λ (x : Ticketed). x.ticket) same in
                  absurd (omega (arith, up, first, this_one, lower))
            ],
      )
      | false ↦ λ last. grind (arith, nat_tests, counted, this, before, last)
    ] refl

so_without_other : (held : List Ticketed) (next place : ℕ) (one : Ticketed) (number : Number) (queue : Option Queue)
    → place < length held → ((other : Ticketed) → get_or held place other ≡ one)
    → waits_for_number number one ≡ false → IsSo held next number queue → IsSo (remove held place) next number queue
so_without_other held next place one number None within stands is none =
    let test = waits_for_number number in
    let counted = sum_by-remove (λ (x : Ticketed). cond (test x) 1 0) held place one within in
    omega (arith, counted, none)
so_without_other held next place one number (Some queue) within stands is so =
    let test = waits_for_number number in
    let counted = sum_by-remove (λ (x : Ticketed). cond (test x) 1 0) held place one within in
    let this : ◌≡◌ {A = ℕ} (cond (test (get_or held place one)) 1 0) 0 = rw (stands one, is) refl in
    let before = so.0 in (
      omega (arith, counted, this, before),
      so.1,
      all_but_one (λ (x : Ticketed). x.ticket < queue.from → test x ≡ false) held place so.2,
    )

-- whose number a wait is for
number_of_wait : (number : Number) (one : Ticketed) → waits_for_number number one ≡ true
    → (one.wait.group ≡ number.group) × (one.wait.partition ≡ number.partition) × (one.wait.number ≡ number.number)
number_of_wait number one is = (
  grind (arith, nat_tests, is),
  grind (arith, nat_tests, is),
  grind (arith, nat_tests, is),
)

same_for : (number other : Number) (one : Ticketed) → waits_for_number number one ≡ true
    → same_number number other ≡ waits_for_number other one
same_for number other one is =
    let same = number_of_wait number one is in rw (← same.0, ← same.1, ← same.2) refl

alike : (number other : Number) (one two : Ticketed) → waits_for_number number one ≡ true
    → waits_for_number other one ≡ true → waits_for_number other two ≡ waits_for_number number two
alike number other one two is so =
    let same = number_of_wait number one is in
    let same_too = number_of_wait other one so in
    rw (← same.0, ← same.1, ← same.2, ← same_too.0, ← same_too.1, ← same_too.2) refl

so_removed : (held : List Ticketed) (next place : ℕ) (one : Ticketed) (sought number : Number) (queue : Option Queue)
    → place < length held → ((other : Ticketed) → get_or held place other ≡ one)
    → AllPairs (λ (a b : Ticketed). a.ticket ≤ b.ticket) held → one.ticket ≤ next
    → ((k : ℕ) (other : Ticketed) → k < place → waits_for_number sought (get_or held k other) ≡ false)
    → waits_for_number sought one ≡ true → IsSo held next number queue
    → IsSo (remove held place) next number
    (if same_number sought number then taken_off one.ticket queue else queue)
so_removed held next place one sought number queue within stands rise low fails is so =
    rw (same_for sought number one is) (
    elim (waits_for_number number one) as (λ t. waits_for_number number one ≡ t
    → IsSo (remove held place) next number (if t then taken_off one.ticket queue else queue)) [
      | true ↦ λ this.
          so_taken_off held next place one number queue within stands rise low
          (λ k other less. alike sought number one (get_or held k other) is this ∙ fails k other less) this so
      | false ↦ λ this. so_without_other held next place one number queue within stands this so
    ] refl)

pub removed : (held : List Ticketed) (next : ℕ) (is_noted : Bool) (numbers : List (Number × Queue)) (sought : Number)
    (place : ℕ) (one : Ticketed) (others : List (Number × Queue))
    → AreTicketed held next is_noted numbers → position (waits_for_number sought) held ≡ Some place
    → ((other : Ticketed) → get_or held place other ≡ one)
    → ((number : Number) → found others number
    ≡ (if same_number sought number then taken_off one.ticket (found numbers number) else found numbers number))
    → AreTicketed (remove held place) next is_noted others
removed held next is_noted numbers sought place one others are at stands change =
    let here = position-Some (waits_for_number sought) held place one at in
    let low = are.below place one here.0 in
    let at_most : one.ticket ≤ next = rw (stands one) at low in
    let first : (k : ℕ) (other : Ticketed) → k < place → waits_for_number sought (get_or held k other) ≡ false =
    λ k other less. (position-Some (waits_for_number sought) held place other at).2 k less in
    let this : waits_for_number sought one ≡ true = rw (stands one) at here.1 in record {
      rise = all_pairs_remove (λ (a b : Ticketed). a.ticket ≤ b.ticket) held place here.0 are.rise;
      below = all_but_one (λ (a : Ticketed). a.ticket ≤ next) held place are.below;
      noted = λ is number.
          subst (IsSo (remove held place) next number) (sym (change number))
          (so_removed held next place one sought number (found numbers number) here.0 stands are.rise at_most first this
          (are.noted is number));
    }

-- the waits that are left
pub left_waits : (test : Wait → Bool) (held : List Ticketed) (place : ℕ) (other : Wait)
    → position test (waits_of held) ≡ Some place
    → waits_of (remove held place) ≡ before_first test (waits_of held) ++ after_first test (waits_of held)
left_waits test held place other at =
    let here = position-Some test (waits_of held) place other at in
    let first : position_or_len test (waits_of held) ≡ place =
    position_or_len_is test (waits_of held) place other (omega (arith, here.0)) here.2 (λ inside. here.1) in
    let next : place + 1 ≡ suc place = omega arith in
    rw (first, next) (
    map-append (λ (one : Ticketed). one.wait) (take place held) (drop (suc place) held)
    ∙ rw (take-map (λ (one : Ticketed). one.wait) place held, drop-map (λ (one : Ticketed). one.wait) (suc place) held)
    refl)
