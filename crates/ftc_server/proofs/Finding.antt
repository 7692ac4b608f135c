-- Looking for a held message in a list that changes.
use Rattle.std.proofs.Common.{◌≡◌, ◌≢◌, ◌∙◌, ◌&&◌, ℕ, Bool, true, false, List, [], ◌∷◌, ◌++◌, Option, Some, None, refl}
use Rattle.std.proofs.Common.{sym, ap, cond, get_or, set}
use Rattle.std.specs.List.{find, list_all, filter, position}
use Rattle.std.proofs.Common.{suc, zero, length, ◌<◌, arith}
use Rattle.std.proofs.lemmas.Bool.{eqb-true, and_parts}
use Rattle.std.proofs.lemmas.List.Quantifiers.{position-Some}
use Rattle.std.specs.List.{remove}
use Rattle.std.specs.Prelude.{◌==◌, IfSome, IsSome, OnSome}
use Rattle.ftc_server.specs.declared.held.HeldMessage.{HeldMessage}
use Rattle.ftc_server.specs.Holding.{is_of, found, without, with_changed}

abbrev Held : Type 0
Held = HeldMessage

pub true_false : {A : Type 0} (b : Bool) → b ≡ true → b ≡ false → A
true_false b is isnt = absurd cc

-- ---- a test of all

pub and_both : (a b : Bool) → a ≡ true → b ≡ true → a && b ≡ true
and_both true b first second = second
and_both false b first second = absurd cc

pub all_behind : {A : Type 0} (test : A → Bool) (items : List A) (item : A) → list_all test items ≡ true →
    test item ≡ true
    → list_all test (items ++ item ∷ []) ≡ true
all_behind test [] item all is = and_both (test item) true is refl
all_behind test (x ∷ items) item all is =
    let parts = and_parts (test x) (list_all test items) all in
    and_both (test x) (list_all test (items ++ item ∷ [])) parts.0 (all_behind test items item parts.1 is)

pub all_without : (test : Held → Bool) (origin : ℕ) (items : List Held) → list_all test items ≡ true
    → list_all test (without origin items) ≡ true
all_without test origin [] all = refl
all_without test origin (x ∷ items) all =
    let parts = and_parts (test x) (list_all test items) all in
    elim (is_of origin x) as (λ t. list_all test (cond t items (x ∷ without origin items)) ≡ true) [
      | true ↦ parts.1
      | false ↦ and_both (test x) (list_all test (without origin items)) parts.0 (all_without test origin items parts.1)
    ]

pub all_changed : (test : Held → Bool) (origin : ℕ) (change : Held → Held) (items : List Held)
    → ((held : Held) → test (change held) ≡ true) → list_all test items ≡ true
    → list_all test (with_changed origin change items) ≡ true
all_changed test origin change [] changed all = refl
all_changed test origin change (x ∷ items) changed all =
    let parts = and_parts (test x) (list_all test items) all in
    elim (is_of origin x) as (λ t. list_all test (cond t (change x ∷ items) (x ∷ with_changed origin change items))
    ≡ true) [
      | true ↦ and_both (test (change x)) (list_all test items) (changed x) parts.1
      | false ↦ and_both (test x) (list_all test (with_changed origin change items)) parts.0
          (all_changed test origin change items changed parts.1)
    ]

pub all_kept : {A : Type 0} (test keep : A → Bool) (items : List A) → list_all test items ≡ true
    → list_all test (filter keep items) ≡ true
all_kept test keep [] all = refl
all_kept {A} test keep (x ∷ items) all =
    let parts = and_parts (test x) (list_all test items) all in
    elim (keep x) as (λ t. list_all test (cond t (x ∷ filter keep items) (filter keep items)) ≡ true) [
      | true ↦ and_both (test x) (list_all test (filter keep items)) parts.0 (all_kept test keep items parts.1)
      | false ↦ all_kept test keep items parts.1
    ]

pub passes_found : {A : Type 0} (test is : A → Bool) (items : List A) (item : A) → list_all test items ≡ true
    → find is items ≡ Some item → test item ≡ true
passes_found test is [] item all there = absurd cc
passes_found {A} test is (x ∷ items) item all there =
    let parts = and_parts (test x) (list_all test items) all in
    elim (is x) as (λ t. cond t (Some x) (find is items) ≡ Some item → test item ≡ true) [
      | true ↦ λ same. let e : x ≡ item = cc in ap test (sym e) ∙ parts.0
      | false ↦ λ later. passes_found test is items item parts.1 later
    ] there

-- ---- what is found

pub found_behind : {A : Type 0} (is : A → Bool) (items more : List A) (item : A) → find is items ≡ Some item
    → find is (items ++ more) ≡ Some item
found_behind is [] more item there = absurd cc
found_behind {A} is (x ∷ items) more item there =
    elim (is x) as (λ t. cond t (Some x) (find is items) ≡ Some item →
    cond t (Some x) (find is (items ++ more)) ≡ Some item) [
      | true ↦ λ same. same
      | false ↦ λ later. found_behind is items more item later
    ] there

pub found_kept : {A : Type 0} (is keep : A → Bool) (items : List A) (item : A) → find is items ≡ Some item →
    keep item ≡ true
    → find is (filter keep items) ≡ Some item
found_kept is keep [] item there kept = absurd cc
found_kept {A} is keep (x ∷ items) item there kept =
    elim (is x) as (λ t. is x ≡ t → cond t (Some x) (find is items) ≡ Some item
    → find is (cond (keep x) (x ∷ filter keep items) (filter keep items)) ≡ Some item) [
      | true ↦ λ yes same.
          let e : x ≡ item = cc in
          let stays : keep x ≡ true = ap keep e ∙ kept in
          ap (λ (b : Bool). find is (cond b (x ∷ filter keep items) (filter keep items))) stays
          ∙ ap (λ (b : Bool). cond b (Some x) (find is (filter keep items))) yes ∙ same
      | false ↦ λ passed later.
          let rest = found_kept is keep items item later kept in
          elim (keep x) as (λ k. find is (cond k (x ∷ filter keep items) (filter keep items)) ≡ Some item) [
            | true ↦ ap (λ (b : Bool). cond b (Some x) (find is (filter keep items))) passed ∙ rest
            | false ↦ rest
          ]
    ] refl there

-- another origin
pub not_of : (origin other : ℕ) (held : Held) → other ≢ origin → is_of origin held ≡ true → is_of other held ≡ false
not_of origin other held differs is =
    let here : held.message.origin ≡ origin = eqb-true held.message.origin origin is in
    elim (is_of other held) as (λ t. is_of other held ≡ t → t ≡ false) [
      | true ↦ λ yes. absurd (differs (sym (eqb-true held.message.origin other yes) ∙ here))
      | false ↦ λ _. refl
    ] refl

pub found_without : (origin other : ℕ) (items : List Held) → other ≢ origin
    → found other (without origin items) ≡ found other items
found_without origin other [] differs = refl
found_without origin other (x ∷ items) differs =
    elim (is_of origin x) as (λ t. is_of origin x ≡ t
    → found other (cond t items (x ∷ without origin items)) ≡ found other (x ∷ items)) [
      | true ↦ λ yes. ap (λ (b : Bool). cond b (Some x) (found other items)) (sym (not_of origin other x differs yes))
      | false ↦ λ _. ap (λ (rest : Option Held). cond (is_of other x) (Some x) rest)
          (found_without origin other items differs)
    ] refl

pub found_changed : (origin other : ℕ) (change : Held → Held) (items : List Held)
    → ((held : Held) → (change held).message.origin ≡ held.message.origin) → other ≢ origin
    → found other (with_changed origin change items) ≡ found other items
found_changed origin other change [] keeps differs = refl
found_changed origin other change (x ∷ items) keeps differs =
    elim (is_of origin x) as (λ t. is_of origin x ≡ t
    → found other (cond t (change x ∷ items) (x ∷ with_changed origin change items)) ≡ found other (x ∷ items)) [
      | true ↦ λ yes.
          let isnt = not_of origin other x differs yes in
          let still : is_of other (change x) ≡ false = ap (λ (o : ℕ). o == other) (keeps x) ∙ isnt in
          ap (λ (b : Bool). cond b (Some (change x)) (found other items)) still
          ∙ ap (λ (b : Bool). cond b (Some x) (found other items)) (sym isnt)
      | false ↦ λ _. ap (λ (rest : Option Held). cond (is_of other x) (Some x) rest)
          (found_changed origin other change items keeps differs)
    ] refl

-- ---- by its place

-- the place is the first at which the test passes
pub record IsFirstAt {A : Type 0} (test : A → Bool) (items : List A) (place : ℕ) (d : A) : Type 0 where
  pub within : place < length items
  pub passes : test (get_or items place d) ≡ true
  pub before : (k : ℕ) → k < place → test (get_or items k d) ≡ false

pub first_at : {A : Type 0} (test : A → Bool) (items : List A) (place : ℕ) (d : A) → position test items ≡ Some place
    → IsFirstAt test items place d
first_at test items place d at =
    let is = position-Some test items place d at in
    record { within = is.0; passes = is.1; before = is.2 }

next_at : {A : Type 0} (test : A → Bool) (x : A) (items : List A) (place : ℕ) (d : A) →
    IsFirstAt test (x ∷ items) (suc place) d
    → IsFirstAt test items place d
next_at test x items place d at = record {
  within = let within = at.within in omega (arith, within);
  passes = at.passes;
  before = λ k below. at.before (suc k) (omega (arith, below));
}

pub found_first : {A : Type 0} (test : A → Bool) (items : List A) (place : ℕ) (d : A) → IsFirstAt test items place d
    → find test items ≡ Some (get_or items place d)
found_first test [] place d at = let within = at.within in absurd (omega (arith, within))
found_first {A} test (x ∷ items) zero d at = ap (λ (t : Bool). cond t (Some x) (find test items)) at.passes
found_first {A} test (x ∷ items) (suc place) d at =
    ap (λ (t : Bool). cond t (Some x) (find test items)) (at.before 0 (omega arith))
    ∙ found_first test items place d (next_at test x items place d at)

pub removed_first : (origin : ℕ) (items : List Held) (place : ℕ) (d : Held) → IsFirstAt (is_of origin) items place d
    → remove items place ≡ without origin items
removed_first origin [] place d at = let within = at.within in absurd (omega (arith, within))
removed_first origin (x ∷ items) zero d at = ap (λ (t : Bool). cond t items (x ∷ without origin items)) (sym at.passes)
removed_first origin (x ∷ items) (suc place) d at =
    ap (λ (rest : List Held). x ∷ rest) (removed_first origin items place d (next_at (is_of origin) x items place d at))
    ∙ ap (λ (t : Bool). cond t items (x ∷ without origin items)) (sym (at.before 0 (omega arith)))

pub changed_first : (origin : ℕ) (change : Held → Held) (items : List Held) (place : ℕ) (d : Held)
    → IsFirstAt (is_of origin) items place d
    → set items place (change (get_or items place d)) ≡ with_changed origin change items
changed_first origin change [] place d at = let within = at.within in absurd (omega (arith, within))
changed_first origin change (x ∷ items) zero d at =
    ap (λ (t : Bool). cond t (change x ∷ items) (x ∷ with_changed origin change items)) (sym at.passes)
changed_first origin change (x ∷ items) (suc place) d at =
    ap (λ (rest : List Held). x
    ∷ rest) (changed_first origin change items place d (next_at (is_of origin) x items place d at))
    ∙ ap (λ (t : Bool). cond t (change x ∷ items) (x ∷ with_changed origin change items))
    (sym (at.before 0 (omega arith)))

-- what is taken out at the place, and what is left
pub taken_first : {A : Type 0} (test : A → Bool) (items : List A) (place : ℕ) (taken : Option A)
    → position test items ≡ Some place → (place < length items → IsSome taken)
    → IfSome taken (λ item. item ≡ get_or items place item) → taken ≡ find test items
taken_first test [] place taken at there is = absurd cc
taken_first {A} test (x ∷ items) place None at there is =
    let taken = there (first_at test (x ∷ items) place x at).within in
    absurd cc
taken_first {A} test (x ∷ items) place (Some item) at there is =
    ap (λ (y : A). Some y) is ∙ sym (found_first test (x ∷ items) place item (first_at test (x ∷ items) place item at))

pub left_first : (origin : ℕ) (items left : List Held) (place : ℕ) (taken : Option Held)
    → position (is_of origin) items ≡ Some place → (place < length items → IsSome taken)
    → OnSome taken (left ≡ remove items place) → left ≡ without origin items
left_first origin [] left place taken at there is = absurd cc
left_first origin (x ∷ items) left place None at there is =
    let taken = there (first_at (is_of origin) (x ∷ items) place x at).within in
    absurd cc
left_first origin (x ∷ items) left place (Some item) at there is =
    is ∙ removed_first origin (x ∷ items) place x (first_at (is_of origin) (x ∷ items) place x at)

pub none_out : (origin : ℕ) (items : List Held) → find (is_of origin) items ≡ None → without origin items ≡ items
none_out origin [] none = refl
none_out origin (x ∷ items) none =
    elim (is_of origin x) as (λ t. cond t (Some x) (find (is_of origin) items) ≡ None →
    cond t items (x ∷ without origin items) ≡ x ∷ items) [
      | true ↦ λ same. absurd cc
      | false ↦ λ later. ap (λ (rest : List Held). x ∷ rest) (none_out origin items later)
    ] none

pub none_changed : (origin : ℕ) (change : Held → Held) (items : List Held) → find (is_of origin) items ≡ None
    → with_changed origin change items ≡ items
none_changed origin change [] none = refl
none_changed origin change (x ∷ items) none =
    elim (is_of origin x) as (λ t. cond t (Some x) (find (is_of origin) items) ≡ None
    → cond t (change x ∷ items) (x ∷ with_changed origin change items) ≡ x ∷ items) [
      | true ↦ λ same. absurd cc
      | false ↦ λ later. ap (λ (rest : List Held). x ∷ rest) (none_changed origin change items later)
    ] none
