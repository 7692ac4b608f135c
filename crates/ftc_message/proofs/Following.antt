-- Lists of which each item follows the one before.
use Rattle.std.proofs.Common.{◌≡◌, ◌∙◌, ◌&&◌, Bool, true, List, [], ◌∷◌, ◌++◌, refl, sym}
use Rattle.std.specs.Cmp.{IsStrictWeakOrder}
use Rattle.std.specs.List.{AllByRecursion}
use Rattle.std.proofs.lemmas.Bool.{and_parts, and_from}
use Rattle.ftc_base.proofs.EachOf.{all-weaker}
use Rattle.ftc_message.specs.Rises.{Rises}
use Rattle.ftc_message.proofs.InOrder.{before_all}

-- the test `rise` asks of each item whether it follows the place of the one before
pub record GoesOn {L X : Type 0} (place : X → L) (follows : L → X → Bool) (rise : L → List X → Bool) : Type 0 where
  pub none : (last : L) → rise last [] ≡ true
  pub next : (last : L) (item : X) (items : List X)
      → rise last (item ∷ items) ≡ (follows last item && rise (place item) items)

-- the place of the last item
abbrev pub end_of : {L X : Type 0} → (X → L) → L → List X → L
end_of place last [] = last
end_of place last (item ∷ items) = end_of place (place item) items

pub end_of-push : {L X : Type 0} (place : X → L) (last : L) (items : List X) (item : X)
    → end_of place last (items ++ item ∷ []) ≡ place item
end_of-push place last [] item = refl
end_of-push place last (first ∷ items) item = end_of-push place (place first) items item

module _ {L X : Type 0} (place : X → L) (follows : L → X → Bool) (rise : L → List X → Bool)
    (goes : GoesOn place follows rise) where
  pub parts_of : (last : L) (item : X) (items : List X) → rise last (item ∷ items) ≡ true
      → (follows last item ≡ true) × (rise (place item) items ≡ true)
  parts_of last item items rising =
      and_parts (follows last item) (rise (place item) items) (sym (goes.next last item items) ∙ rising)

  pub of_parts : (last : L) (item : X) (items : List X) → follows last item ≡ true → rise (place item) items ≡ true
      → rise last (item ∷ items) ≡ true
  of_parts last item items is rising =
      goes.next last item items ∙ and_from (follows last item) (rise (place item) items) is rising

  pub rise-push : (last : L) (items : List X) (item : X) → rise last items ≡ true
      → follows (end_of place last items) item ≡ true → rise last (items ++ item ∷ []) ≡ true
  rise-push last [] item rising is = of_parts last item [] is (goes.none (place item))
  rise-push last (first ∷ items) item rising is =
      let parts = parts_of last first items rising in
      of_parts last first (items ++ item ∷ []) parts.0 (rise-push (place first) items item parts.1 is)

  -- the test says that they rise by an order
  module _ (is_before : X → X → Bool) (order : IsStrictWeakOrder is_before)
      (same : (item next : X) → follows (place item) next ≡ is_before item next) where
    rises_behind : (item : X) (items : List X) → rise (place item) items ≡ true → Rises is_before (item ∷ items)
    rises_behind item [] rising = (tt, tt)
    rises_behind item (next ∷ items) rising =
        let parts = parts_of (place item) next items rising in
        let behind = rises_behind next items parts.1 in
        (before_all is_before order item next items (sym (same item next) ∙ parts.0) behind, behind)

    pub by_order : (last : L) (items : List X) → rise last items ≡ true → Rises is_before items
    by_order last [] rising = tt
    by_order last (item ∷ items) rising = rises_behind item items (parts_of last item items rising).1

    pub by_test : (last : L) (items : List X) → AllByRecursion (λ item. follows last item ≡ true) items
        → Rises is_before items → rise last items ≡ true
    by_test last [] all rises = goes.none last
    by_test last (item ∷ items) all rises =
        of_parts last item items all.0
        (by_test (place item) items (all-weaker _ _ (λ later is. same item later ∙ is) items rises.0) rises.1)
