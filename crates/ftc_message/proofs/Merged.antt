-- Two lists that rise, put together: the same, whichever is put among the other.
use Rattle.std.proofs.Common.{◌≡◌, ◌∙◌, Bool, true, false, List, [], ◌∷◌, refl, sym, ap, arith}
use Rattle.std.specs.Prelude.{if◌then◌else◌}
use Rattle.std.specs.Cmp.{IsStrictWeakOrder}
use Rattle.std.specs.List.{AllByRecursion}
use Rattle.ftc_base.proofs.EachOf.{all-weaker}
use Rattle.ftc_message.specs.Ordered.{with_item, with_items}
use Rattle.ftc_message.specs.Rises.{Rises, TieNone}
use Rattle.ftc_message.proofs.InOrder.{all-with_items, before_all, else_before}

module _ {A : Type 0} (is_before : A → A → Bool) (order : IsStrictWeakOrder is_before) where
  -- what stands before all others goes to the front
  goes_first : (item : A) (others : List A) → AllByRecursion (λ other. is_before item other ≡ true) others
      → with_item is_before item others ≡ item ∷ others
  goes_first item [] first = refl
  goes_first item (other ∷ others) first =
      ap (λ (t : Bool). if t then other ∷ with_item is_before item others else item ∷ other ∷ others)
      (order.one_way item other first.0)

  -- and stays there
  stays_first : (first : A) (items others : List A) → AllByRecursion (λ item. is_before first item ≡ true) items
      → with_items is_before items (first ∷ others) ≡ first ∷ with_items is_before items others
  stays_first first [] others all = refl
  stays_first first (item ∷ items) others all =
      ap (with_item is_before item) (stays_first first items others all.1)
      ∙ ap (λ (t : Bool). if t then first ∷ with_item is_before item (with_items is_before items others)
      else item ∷ first ∷ with_items is_before items others) all.0

  rising_is : (items : List A) → Rises is_before items → with_items is_before items [] ≡ items
  rising_is [] rising = refl
  rising_is (item ∷ items) rising =
      ap (with_item is_before item) (rising_is items rising.1) ∙ goes_first item items rising.0

  -- each of two lists may be put among the other
  pub swapped : (items others : List A) → Rises is_before items → Rises is_before others
      → TieNone is_before items others → with_items is_before items others ≡ with_items is_before others items
  swapped [] others rising others_rising apart = sym (rising_is others others_rising)
  swapped (item ∷ items) [] rising others_rising apart = rising_is (item ∷ items) rising
  swapped (item ∷ items) (other ∷ others) rising others_rising apart =
      elim (is_before item other) as (λ (t : Bool). is_before item other ≡ t
      → with_items is_before (item ∷ items) (other ∷ others) ≡ with_items is_before (other ∷ others) (item ∷ items)) [
        | true ↦ λ is.
            let behind = before_all is_before order item other others is others_rising in
            goes_first item (with_items is_before items (other ∷ others))
            (all-with_items (λ later. is_before item later ≡ true) is_before items (other ∷ others) rising.0 behind)
            ∙ ap (λ (l : List A). item ∷ l) (swapped items (other ∷ others) rising.1 others_rising apart.1)
            ∙ sym (stays_first item (other ∷ others) items behind)
        | false ↦ λ isnt.
            let is = else_before is_before order other item (let apart = apart.0.0 in grind (arith, apart)) isnt in
            let behind = before_all is_before order other item items is rising in
            stays_first other (item ∷ items) others behind
            ∙ ap (λ (l : List A). other ∷ l) (swapped (item ∷ items) others rising others_rising.1
            (all-weaker _ _ (λ _ none. none.1) (item ∷ items) apart))
            ∙ sym (goes_first other (with_items is_before others (item ∷ items))
            (all-with_items (λ later. is_before other later ≡ true) is_before others (item ∷ items) others_rising.0
            behind))
      ] refl
