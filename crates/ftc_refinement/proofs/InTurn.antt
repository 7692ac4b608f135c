-- What was the first to come, and what came before another: lists in the order of coming.
use Rattle.std.proofs.Common.{◌≡◌, ◌<◌, ◌≤◌, ◌++◌, ◌∷◌, ◌∙◌, ℕ, List, [], Option, Some, None, refl, sym, ap, subst}
use Rattle.std.proofs.Common.{arith, inl, inr}
use Rattle.std.specs.List.{AllByRecursion}
use Rattle.std.proofs.lemmas.Bool.{cases_eq}
use Rattle.std.proofs.lemmas.Option.{none-some, same_Some}
use Rattle.std.proofs.lemmas.List.{append_assoc}
use Rattle.ftc_base.proofs.EachOf.{all-back}
use Rattle.ftc_serial.specs.Words.{AnyOf}
use Rattle.ftc_standing.specs.Arrivals.{kept_of, IsKeptAs, IsSooner, AreArrived}
use Rattle.ftc_standing.proofs.Arriving.{behind, kept_all, kept_front, kept_other, kept_for}

-- what is so at each place of a list is so of all
pub all_placed : {A : Type 0} (P : A → Type 0) (front items : List A) →
    ((before : List A) (item : A) (after : List A) → front ++ items ≡ before ++ item ∷ after → P item) →
    AllByRecursion P items
all_placed P front [] each = tt
all_placed P front (item ∷ items) each = (
  each front item items refl,
  all_placed P (front ++ item ∷ []) items (λ before other after parts.
      each before other after (sym (append_assoc front (item ∷ []) items) ∙ parts)),
)

module _ {A : Type 0} (origin_of : A → ℕ) where
  kept_any : (items : List A) (origin : ℕ) (item : A) → kept_of origin_of origin items ≡ Some item →
      AnyOf (λ other. origin_of other ≡ origin) items
  kept_any [] origin item is = absurd (none-some item is)
  kept_any (first ∷ items) origin item is = elim (cases_eq (origin_of first) origin) [
    | inl same ↦ inl same
    | inr differs ↦ inr (kept_any items origin item (sym (kept_other origin_of first items origin differs) ∙ is))
  ]

module _ {M A : Type 0} (since : M → ℕ) (origin_of : A → ℕ) (Stands : ℕ → M → A → Type 0) (there : ℕ → Option M) where
  abbrev Are : List A → Type 0
  Are items = AreArrived since origin_of Stands there items

  abbrev Sooner : A → A → Type 0
  Sooner earlier later = IsSooner since there (origin_of earlier) (origin_of later)

  kept_item_of : (items : List A) → Are items → (origin : ℕ) (message : M) → there origin ≡ Some message →
      (item : A) × (kept_of origin_of origin items ≡ Some item)
  kept_item_of items are origin message is =
      let kept = kept_for since origin_of Stands origin message (kept_of origin_of origin items)
      (subst (λ o. IsKeptAs Stands origin o (kept_of origin_of origin items)) is (are.each origin)) in
      (kept.0, kept.1)

  -- what is kept behind one came later
  comes_later : (item : A) (after : List A) (message other : M) (origin : ℕ) (kept : A) →
      AllByRecursion (Sooner item) after → there (origin_of item) ≡ Some message → there origin ≡ Some other →
      kept_of origin_of origin after ≡ Some kept → since message < since other
  comes_later item after message other origin kept later first second is =
      let its = kept_all origin_of (Sooner item) after later origin kept is in
      its.0 message other first (ap there its.1 ∙ second)

  -- the first is the oldest
  pub first_oldest : (item : A) (rest : List A) → Are (item ∷ rest) → (message other : M) (origin : ℕ) →
      there (origin_of item) ≡ Some message → there origin ≡ Some other → since message ≤ since other
  first_oldest item rest are message other origin first second = elim (cases_eq (origin_of item) origin) [
    | inl same ↦
        let alike : message ≡ other = same_Some message other (sym first ∙ (ap there same ∙ second)) in
        let times = ap since alike in omega (arith, times)
    | inr differs ↦
        let kept = kept_item_of (item ∷ rest) are origin other second in
        let less = comes_later item rest message other origin kept.0 are.order.0 first second
        (sym (kept_other origin_of item rest origin differs) ∙ kept.1) in
        omega (arith, less)
  ]

  pub later_is_later : (before : List A) (item : A) (between : List A) (later : A) (after : List A) →
      Are (before ++ item ∷ (between ++ later ∷ after)) → (message other : M) → there (origin_of item) ≡ Some message →
      there (origin_of later) ≡ Some other → since message < since other
  later_is_later before item between later after are message other first second =
      let rest = behind Sooner before item (between ++ later ∷ after) are.order in
      let its = all-back (Sooner item) between (later ∷ after) rest in
      its.0 message other first second

  -- one that came sooner stands before
  pub stands_before : (before : List A) (item : A) (after : List A) → Are (before ++ item ∷ after) →
      (message other : M) (origin : ℕ) → there (origin_of item) ≡ Some message → there origin ≡ Some other →
      since other < since message → AnyOf (λ one. origin_of one ≡ origin) before
  stands_before before item after are message other origin first second sooner =
      let kept = kept_item_of (before ++ item ∷ after) are origin other second in
      elim (kept_of origin_of origin before) as (λ o. kept_of origin_of origin before ≡ o →
      AnyOf (λ one. origin_of one ≡ origin) before) [
        | Some one ↦ λ is. kept_any origin_of before origin one is
        | None ↦ λ none.
            let here = sym (kept_front origin_of before (item ∷ after) origin none) ∙ kept.1 in
            elim (cases_eq (origin_of item) origin) [
              | inl same ↦
                  let alike : message ≡ other = same_Some message other (sym first ∙ (ap there same ∙ second)) in
                  let times = ap since alike in absurd (omega (arith, times, sooner))
              | inr differs ↦
                  let less = comes_later item after message other origin kept.0
                  (behind Sooner before item after are.order) first second
                  (sym (kept_other origin_of item after origin differs) ∙ here) in
                  absurd (omega (arith, less, sooner))
            ]
      ] refl
