-- Where a visit of the trace stands that has a footprint: behind which entries, and what its footprint says.
use Rattle.std.proofs.Common.{◌≡◌, ℕ, List, [], ◌∷◌, Option, Some, inl, inr, refl, sym, ap, subst, ◌∙◌}
use Rattle.std.specs.Option.{option_map_or}
use Rattle.std.proofs.lemmas.Option.{same_Some}
use Rattle.ftc_serial.specs.Take.{Outcome}
use Rattle.ftc_serial.specs.Serial.{Entry, Visited, Given}
use Rattle.ftc_machine.specs.declared.state.footprint.Footprint.{Footprint}
use Rattle.ftc_protocol.specs.Changes.{Meets}
use Rattle.ftc_protocol.specs.Trace.{IsInTrace, IsBefore}
use Rattle.ftc_machine.specs.Frontier.{Numbers, AreRising, IsChangingIn, Footprints, numbers_of, IsFootprint}
use Rattle.ftc_machine.specs.Frontier.{AreFootprints}
use Rattle.ftc_protocol.proofs.TraceLemmas.{stands_map, before_last}
use Rattle.ftc_machine.proofs.RisingNumbers.{once, both_in}

pub record IsPlaced (partitions : ℕ) (trace : List Entry) (numbers : Numbers) (server packet : ℕ)
    (footprint : Footprint) : Type 0 where
  pub outcome : Outcome
  pub older : List Entry
  pub made : IsFootprint partitions older numbers server outcome footprint
  pub there : IsInTrace (λ o. o ≡ outcome) trace server packet
  pub in_trace : (other partition : ℕ) → IsChangingIn partitions older server other partition →
      IsChangingIn partitions trace server other partition
  -- those before it are those that it meets among the older ones
  pub met : (other : ℕ) → IsBefore partitions trace server other packet →
      IsInTrace (λ o. Meets partitions o outcome) older server other
  pub before : (other : ℕ) → IsInTrace (λ o. Meets partitions o outcome) older server other →
      IsBefore partitions trace server other packet
  pub number : numbers server packet ≡ footprint.number

-- the footprint's number is the visit's
pub number_is : (footprints : Footprints) (server packet : ℕ) (footprint : Footprint) →
    footprints server packet ≡ Some footprint → numbers_of footprints server packet ≡ footprint.number
number_is footprints server packet footprint is =
    ap (λ (found : Option Footprint). option_map_or (λ (f : Footprint). f.number) found 0) is

module _ (partitions : ℕ) (footprints : Footprints) where
  newest : (bound : ℕ) (older : List Entry) (server packet : ℕ) (outcome : Outcome) (footprint : Footprint) →
      AreRising (numbers_of footprints) bound (Visited server packet outcome ∷ older)
      → footprints server packet ≡ Some footprint →
      IsFootprint partitions older (numbers_of footprints) server outcome footprint
      → IsPlaced partitions (Visited server packet outcome ∷ older) (numbers_of footprints) server packet footprint
  newest bound older server packet outcome footprint rising is made = record {
    outcome = outcome;
    older = older;
    made = made;
    there = inl (refl, refl, refl);
    in_trace = λ other partition changes. inr changes;
    met = λ other before. elim before [
      | inl here ↦ here.1.1
      | inr below ↦ absurd (once (numbers_of footprints) (λ o. Unit {0}) bound older server packet outcome rising
          (before_last partitions older server other packet below))
    ];
    before = λ other meets. inl (refl, (refl, meets));
    number = number_is footprints server packet footprint is;
  }

  behind : (bound : ℕ) (older : List Entry) (visited passed : ℕ) (newer : Outcome) (server packet : ℕ)
      (footprint : Footprint) → AreRising (numbers_of footprints) bound (Visited visited passed newer ∷ older)
      → IsPlaced partitions older (numbers_of footprints) server packet footprint
      → IsPlaced partitions (Visited visited passed newer ∷ older) (numbers_of footprints) server packet footprint
  behind bound older visited passed newer server packet footprint rising placed = record {
    outcome = placed.outcome;
    older = placed.older;
    made = placed.made;
    there = inr placed.there;
    in_trace = λ other partition changes. inr (placed.in_trace other partition changes);
    met = λ other before. elim before [
      | inl here ↦ absurd (once (numbers_of footprints) (λ o. o
          ≡ placed.outcome) bound older visited passed newer rising
          (subst (λ p. IsInTrace (λ o. o ≡ placed.outcome) older visited p) (sym here.0)
          (subst (λ s. IsInTrace (λ o. o ≡ placed.outcome) older s packet) (sym here.1.0) placed.there)))
      | inr below ↦ placed.met other below
    ];
    before = λ other meets. inr (placed.before other meets);
    number = placed.number;
  }

  -- a visit of the trace with its footprint
  pub place_of : (P : Outcome → Type 0) (bound : ℕ) (trace : List Entry) →
      AreRising (numbers_of footprints) bound trace → AreFootprints partitions footprints trace
      → (server packet : ℕ) (footprint : Footprint) → IsInTrace P trace server packet →
      footprints server packet ≡ Some footprint
      → IsPlaced partitions trace (numbers_of footprints) server packet footprint
  place_of P bound [] rising are server packet footprint there is = absurd there
  place_of P bound (Given other bytes ∷ older) rising are server packet footprint there is = elim there [
    | inl here ↦ absurd here
    | inr below ↦
        let placed = place_of P bound older rising are server packet footprint below is in
        record {
          outcome = placed.outcome;
          older = placed.older;
          made = placed.made;
          there = inr placed.there;
          in_trace = λ other partition changes. inr (placed.in_trace other partition changes);
          met = λ other before. elim before [ inl newer ↦ absurd newer.0 | inr under ↦ placed.met other under ];
          before = λ other meets. inr (placed.before other meets);
          number = placed.number;
        }
  ]
  place_of P bound (Visited visited passed outcome ∷ older) rising are server packet footprint there is = elim there [
    | inl here ↦
        subst (λ s. IsPlaced partitions (Visited visited passed outcome
        ∷ older) (numbers_of footprints) s packet footprint) here.0
        (subst (λ p. IsPlaced partitions (Visited visited passed outcome
        ∷ older) (numbers_of footprints) visited p footprint) here.1
        (let own : footprints visited passed
        ≡ Some footprint = subst (λ s. footprints s passed ≡ Some footprint) (sym here.0)
        (subst (λ p. footprints server p ≡ Some footprint) (sym here.1) is) in
        newest bound older visited passed outcome footprint rising own
        (subst (λ f. IsFootprint partitions older (numbers_of footprints) visited outcome f)
        (same_Some are.0.0 footprint (sym are.0.1 ∙ own)) are.0.2)))
    | inr below ↦ behind bound older visited passed outcome server packet footprint rising
        (place_of P (numbers_of footprints visited passed) older rising.2 are.1 server packet footprint below is)
  ]

-- ---- what the outcome has, the visit in the trace has

any_one : (P : Outcome → Type 0) (trace : List Entry) (server packet : ℕ) (R : Type 0) → ((o : Outcome) → P o → R) →
    IsInTrace P trace server packet → R
any_one P [] server packet R f there = absurd there
any_one P (Given other bytes ∷ older) server packet R f there =
    elim there [ inl here ↦ absurd here | inr below ↦ any_one P older server packet R f below ]
any_one P (Visited visited passed outcome ∷ older) server packet R f there =
    elim there [ inl here ↦ f outcome here.2 | inr below ↦ any_one P older server packet R f below ]

module _ (partitions bound : ℕ) (trace : List Entry) (numbers : Numbers) (rising : AreRising numbers bound trace)
    (server packet : ℕ) (footprint : Footprint)
    (placed : IsPlaced partitions trace numbers server packet footprint) where
  pub stands : (P : Outcome → Type 0) → P placed.outcome → IsInTrace P trace server packet
  stands P has = stands_map (λ o. o
      ≡ placed.outcome) P (λ o same. subst P (sym same) has) trace server packet placed.there

  pub stood : (P : Outcome → Type 0) → IsInTrace P trace server packet → P placed.outcome
  stood P there =
      any_one (λ o. (o ≡ placed.outcome) × P o) trace server packet (P placed.outcome) (λ o both. subst P both.0 both.1)
      (both_in numbers (λ o. o ≡ placed.outcome) P bound trace rising server packet placed.there there)
