-- Needs that are looked at from the last on.
use Rattle.std.proofs.Common.{◌≡◌, ◌<◌, ◌+◌, ◌∙◌, ℕ, Bool, true, false, List, length, drop, get_or}
use Rattle.std.proofs.Common.{Option, Some, None, refl, sym, ap}
use Rattle.std.specs.Prelude.{IfSome}
use Rattle.std.specs.List.{list_all, slice_get}
use Rattle.std.proofs.lemmas.Bool.{and_from}
use Rattle.std.proofs.lemmas.List.{drop_more}
use Rattle.std.proofs.lemmas.List.Folds.{list_all_at}
use Rattle.std.proofs.lemmas.Option.{slice_get-get_or}

item_at : {A : Type 0} (items : List A) (place : ℕ) (item : A) → place < length items
    → slice_get items place ≡ Some item → get_or items place item ≡ item
item_at {A} items place item within found =
    let both : Some (get_or items place item) ≡ Some item = sym (slice_get-get_or items place item within) ∙ found in cc

-- where each item passes, so does that at a place
pub all_at : {A : Type 0} (test : A → Bool) (items : List A) (place : ℕ) (item : A) → place < length items
    → slice_get items place ≡ Some item → list_all test items ≡ true → test item ≡ true
all_at {A} test items place item within found all =
    let same = ap test (item_at items place item within found) in
    elim (test (get_or items place item)) as (λ t. test (get_or items place item) ≡ t → test item ≡ true) [
      | true ↦ λ is. sym same ∙ is
      | false ↦ λ is. let fails = list_all_at test items place item within is in absurd cc
    ] refl

-- one more item that passes
pub all_from : {A : Type 0} (test : A → Bool) (items : List A) (place after : ℕ) (item : A) → place < length items
    → place + 1 ≡ after → slice_get items place ≡ Some item → test item ≡ true → list_all test (drop after items) ≡ true
    → list_all test (drop place items) ≡ true
all_from {A} test items place after item within next found passes rest =
    let first = ap test (item_at items place item within found) ∙ passes in
    let others = ap (λ (k : ℕ). list_all test (drop k items)) next ∙ rest in
    ap (list_all test) (drop_more items place item within)
    ∙ and_from (test (get_or items place item)) (list_all test (drop (place + 1) items)) first others

pub if_some_then : {A : Type 0} (found : Option A) (P Q : A → Type 0) → ((item : A) → P item → Q item)
    → IfSome found P → IfSome found Q
if_some_then None P Q then is = tt
if_some_then (Some item) P Q then is = then item is
