-- Tests that all items of a list pass, or some.
use Rattle.std.proofs.Common.{◌≡◌, ◌&&◌, ◌||◌, not, Bool, true, false, List, [], ◌∷◌, Some, None, refl, ap}
use Rattle.std.proofs.Common.{cond}
use Rattle.std.specs.List.{find, list_all, list_any}
use Rattle.std.proofs.lemmas.Bool.{and_parts}
use Rattle.ftc_server.proofs.Finding.{and_both}

pub all_both : {A : Type 0} (first second : A → Bool) (items : List A) → list_all first items ≡ true →
    list_all second items ≡ true → list_all (λ item. first item && second item) items ≡ true
all_both first second [] one two = refl
all_both first second (item ∷ items) one two =
    let a = and_parts (first item) (list_all first items) one in
    let b = and_parts (second item) (list_all second items) two in
    and_both (first item && second item) (list_all (λ i. first i && second i) items)
    (and_both (first item) (second item) a.0 b.0) (all_both first second items a.1 b.1)

pub implies_any : {A : Type 0} (test other : A → Bool) (items : List A) → ((item : A) → test item ≡ true →
    other item ≡ true) → list_any test items ≡ true → list_any other items ≡ true
implies_any test other [] implies any = absurd cc
implies_any test other (item ∷ items) implies any =
    elim (test item) as (λ t. test item ≡ t → t || list_any test items ≡ true →
    other item || list_any other items ≡ true) [
      | true ↦ λ is any'. ap (λ (b : Bool). b || list_any other items) (implies item is)
      | false ↦ λ isnt later. elim (other item) as (λ o. o || list_any other items ≡ true) [
        | true ↦ refl
        | false ↦ implies_any test other items implies later
      ]
    ] refl any

pub implies_all : {A : Type 0} (test other : A → Bool) (items : List A) → ((item : A) → test item ≡ true →
    other item ≡ true) → list_all test items ≡ true → list_all other items ≡ true
implies_all test other [] implies all = refl
implies_all test other (item ∷ items) implies all =
    let parts = and_parts (test item) (list_all test items) all in
    and_both (other item) (list_all other items) (implies item parts.0) (implies_all test other items implies parts.1)

-- where none is found, none passes
pub none_passes : {A : Type 0} (test : A → Bool) (items : List A) → find test items ≡ None →
    list_all (λ item. not (test item)) items ≡ true
none_passes test [] none = refl
none_passes {A} test (item ∷ items) none =
    elim (test item) as (λ t. cond t (Some item) (find test items) ≡ None →
    not t && list_all (λ i. not (test i)) items ≡ true) [
      | true ↦ λ some. absurd cc
      | false ↦ λ later. none_passes test items later
    ] none
