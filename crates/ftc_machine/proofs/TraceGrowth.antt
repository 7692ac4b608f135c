-- The trace grows by a visit with a footprint, or by a release.
use Rattle.std.proofs.Common.{◌≡◌, ℕ, ◌<◌, ◌≤◌, ◌↔◌, Bool, true, false, List, [], ◌∷◌, Option, Some, ◌⊎◌, inl, inr}
use Rattle.std.proofs.Common.{refl, sym, ap, subst, ◌∙◌, arith}
use Rattle.std.specs.Option.{option_map_or}
use Rattle.std.proofs.lemmas.Bool.{true≢false, cases_lt}
use Rattle.ftc_base.proofs.EachOf.{all-weaker}
use Rattle.ftc_serial.specs.Take.{Outcome}
use Rattle.ftc_serial.specs.Serial.{Entry, Visited, Given}
use Rattle.ftc_machine.specs.declared.state.footprint.Touched.{Touched}
use Rattle.ftc_machine.specs.declared.state.footprint.Footprint.{Footprint}
use Rattle.ftc_protocol.specs.Changes.{Changes, is_changing}
use Rattle.ftc_protocol.specs.Trace.{IsInTrace, IsSomeVisit, IsChanging}
use Rattle.ftc_machine.specs.Frontier.{Numbers, Footprints, AreRising, AreFootprints, IsChangingIn, IsFrontier, IsLast}
use Rattle.ftc_machine.specs.Frontier.{IsFootprint, numbers_of}
use Rattle.ftc_machine.specs.FootprintMarks.{marked_at}
use Rattle.ftc_protocol.proofs.TraceLemmas.{stands_map, changes_some}
use Rattle.ftc_machine.proofs.RisingNumbers.{in_bounds, rising_more}
use Rattle.ftc_machine.proofs.PlacedVisits.{number_is}
use Rattle.ftc_machine.proofs.MarkedPartitions.{marked_cases}

-- ---- what is kept of other visits may change

some_visit : (P : Outcome → Type 0) (trace : List Entry) (server packet : ℕ) → IsInTrace P trace server packet →
    IsSomeVisit trace server packet
some_visit P trace server packet there = stands_map P (λ o. Unit {0}) (λ o has. tt) trace server packet there

-- numbers that are the same at each visit of the trace
module _ (numbers others : Numbers) where
  pub rising_same : (bound : ℕ) (trace : List Entry) →
      ((server packet : ℕ) → IsSomeVisit trace server packet → others server packet ≡ numbers server packet)
      → AreRising numbers bound trace → AreRising others bound trace
  rising_same bound [] same rising = rising
  rising_same bound (Given packet bytes ∷ older) same rising =
      rising_same bound older (λ s p there. same s p (inr there)) rising
  rising_same bound (Visited server packet outcome ∷ older) same rising =
      let here : others server packet ≡ numbers server packet = same server packet (inl (refl, refl, tt)) in
      let some : 0 < numbers server packet = rising.0 in
      let less : numbers server packet < bound = rising.1 in (
        omega arith,
        omega arith,
        subst (λ n. AreRising others n older) (sym here)
            (rising_same (numbers server packet) older (λ s p there. same s p (inr there)) rising.2),
      )

  pub last_same : (partitions : ℕ) (older : List Entry) (server partition number : ℕ) →
      ((packet : ℕ) → IsSomeVisit older server packet → others server packet ≡ numbers server packet)
      → IsLast partitions older numbers server partition number → IsLast partitions older others server partition number
  last_same partitions older server partition number same is = record {
    above = λ packet changes. omega (
      arith,
      is.above packet changes,
      same packet (some_visit (λ o. Changes partitions o partition) older server packet changes),
    );
    last = λ some.
        let found = is.last some in (
          found.0,
          found.1,
          same found.0
              (some_visit (λ o. Changes partitions o partition) older server found.0 found.1) ∙ found.2,
        );
  }

  pub footprint_same : (partitions : ℕ) (older : List Entry) (server : ℕ) (outcome : Outcome) (footprint : Footprint) →
      ((packet : ℕ) → IsSomeVisit older server packet → others server packet ≡ numbers server packet)
      → IsFootprint partitions older numbers server outcome footprint →
      IsFootprint partitions older others server outcome footprint
  footprint_same partitions older server outcome footprint same made = record {
    touched = made.touched;
    changed = made.changed;
    before = all-weaker (λ (touched : Touched). IsLast partitions older numbers server touched.partition touched.before)
        (λ (touched : Touched). IsLast partitions older others server touched.partition touched.before)
        (λ touched is. last_same partitions older server touched.partition touched.before same is)
        footprint.touched.items made.before;
    writes = made.writes;
    reads = made.reads;
  }

number_same : (footprints others : Footprints) (server packet : ℕ) → others server packet ≡ footprints server packet →
    numbers_of others server packet ≡ numbers_of footprints server packet
number_same footprints others server packet same =
    ap (λ (found : Option Footprint). option_map_or (λ (footprint : Footprint). footprint.number) found 0) same

-- footprints that are the same at each visit of the trace
pub footprints_same : (partitions : ℕ) (footprints others : Footprints) (trace : List Entry) →
    ((server packet : ℕ) → IsSomeVisit trace server packet → others server packet ≡ footprints server packet)
    → AreFootprints partitions footprints trace → AreFootprints partitions others trace
footprints_same partitions footprints others [] same are = are
footprints_same partitions footprints others (Given packet bytes ∷ older) same are =
    footprints_same partitions footprints others older (λ s p there. same s p (inr there)) are
footprints_same partitions footprints others (Visited server packet outcome ∷ older) same are = (
  (
    are.0.0,
    same server packet (inl (refl, refl, tt)) ∙ are.0.1,
    footprint_same (numbers_of footprints) (numbers_of others) partitions older server outcome are.0.0
        (λ p there. number_same footprints others server p (same server p (inr there))) are.0.2,
  ),
  footprints_same partitions footprints others older (λ s p there. same s p (inr there)) are.1,
)

-- ---- a release

pub gives_reach : (partitions : ℕ) (trace : List Entry) (numbers : Numbers) (row : ℕ) (packets : ℕ → Bool) (reach : ℕ →
    ℕ) (packet : ℕ) (bytes : List ℕ)
    → IsFrontier partitions trace numbers row packets reach →
    IsFrontier partitions (Given packet bytes ∷ trace) numbers row packets reach
gives_reach partitions trace numbers row packets reach packet bytes is = record {
  each = λ other partition changes. elim changes [ inl here ↦ absurd here | inr there ↦ is.each other partition there ];
  last = λ partition some. let found = is.last partition some in (found.0, inr found.1, found.2);
}

-- ---- a new visit, whose number isn't below the bound

module _ (partitions bound : ℕ) (trace : List Entry) (footprints grown : Footprints)
    (rising : AreRising (numbers_of footprints) bound trace)
    (server packet : ℕ) (outcome : Outcome) (footprint : Footprint) (fresh : IsSomeVisit trace server packet → ⊥)
    (is : grown server packet ≡ Some footprint) (others : (other another : ℕ) →
    ((other ≡ server) × (another ≡ packet) → ⊥) → grown other another ≡ footprints other another)
    (some : 0 < footprint.number) (above : bound ≤ footprint.number) where
  stays : (other another : ℕ) → IsSomeVisit trace other another → grown other another ≡ footprints other another
  stays other another there =
      others other another (λ same. fresh
      (subst (λ p. IsSomeVisit trace server p) same.1 (subst (λ s. IsSomeVisit trace s another) same.0 there)))

  number_stays : (other another : ℕ) → IsSomeVisit trace other another →
      numbers_of grown other another ≡ numbers_of footprints other another
  number_stays other another there = number_same footprints grown other another (stays other another there)

  pub rising_grows : (more : ℕ) → footprint.number < more →
      AreRising (numbers_of grown) more (Visited server packet outcome ∷ trace)
  rising_grows more less =
      let number : numbers_of grown server packet ≡ footprint.number = number_is grown server packet footprint is in (
        omega arith,
        omega arith,
        rising_more (numbers_of grown) bound (numbers_of grown server packet) trace (omega arith)
            (rising_same (numbers_of footprints) (numbers_of grown) bound trace number_stays rising),
      )

  pub footprints_grow : IsFootprint partitions trace (numbers_of footprints) server outcome footprint →
      AreFootprints partitions footprints trace → AreFootprints partitions grown (Visited server packet outcome ∷ trace)
  footprints_grow made are = (
    (
      footprint,
      is,
      footprint_same (numbers_of footprints) (numbers_of grown) partitions trace server outcome footprint
          (λ p there. number_stays server p there) made,
    ),
    footprints_same partitions footprints grown trace stays are,
  )

  -- no set of the older visits reaches the new one
  low : (row : ℕ) (packets : ℕ → Bool) (reach : ℕ → ℕ) →
      IsFrontier partitions trace (numbers_of footprints) row packets reach → (partition : ℕ) →
      reach partition < footprint.number
  low row packets reach reaches partition = elim (cases_lt 0 (reach partition)) [
    | inr none_there ↦ omega arith
    | inl there ↦
        let found = reaches.last partition there in
        let within = in_bounds (numbers_of footprints)
        (λ o. Changes partitions o partition) bound trace rising row found.0 found.1 in
        omega (arith, within.1, found.2)
  ]

  same_number : (row : ℕ) (another partition : ℕ) → IsChangingIn partitions trace row another partition →
      numbers_of grown row another ≡ numbers_of footprints row another
  same_number row another partition there =
      number_stays row another (some_visit (λ o. Changes partitions o partition) trace row another there)

  -- the new visit has its number
  new_number : (row another : ℕ) → server ≡ row → packet ≡ another → numbers_of grown row another ≡ footprint.number
  new_number row another one two =
      subst (λ s. numbers_of grown s another ≡ footprint.number) one
      (subst (λ p. numbers_of grown server p ≡ footprint.number) two (number_is grown server packet footprint is))

  -- a set without the new visit reaches as far as before
  pub others_grow : (row : ℕ) (packets : ℕ → Bool) (reach : ℕ → ℕ) → (row ≡ server → packets packet ≡ false) →
      IsFrontier partitions trace (numbers_of footprints) row packets reach
      → IsFrontier partitions (Visited server packet outcome ∷ trace) (numbers_of grown) row packets reach
  others_grow row packets reach without reaches = record {
    each = λ another partition changes. elim changes [
      | inl here ↦ (
        λ member. absurd (true≢false (sym member ∙ subst (λ p. packets p ≡ false) here.1 (without (sym here.0)))),
        λ less. absurd (omega (arith, new_number row another here.0 here.1, low row packets reach reaches partition)),
      )
      | inr there ↦ subst (λ n. (packets another ≡ true)
          ↔ (n ≤ reach partition)) (sym (same_number row another partition there))
          (reaches.each another partition there)
    ];
    last = λ partition reached. let found = reaches.last partition reached in
        (found.0, inr found.1, same_number row found.0 partition found.1 ∙ found.2);
  }

  -- A set of its row that has each older visit that changes something reaches, together with the new one where this
  -- changes something, what the new one leaves.
  pub head_grows : IsFootprint partitions trace (numbers_of footprints) server outcome footprint →
      (packets more : ℕ → Bool) (reach : ℕ → ℕ)
      → ((another : ℕ) → IsChanging partitions trace server another → packets another ≡ true)
      → ((another : ℕ) → (more another ≡ true)
      ↔ ((packets another ≡ true) ⊎ ((another ≡ packet) × (is_changing partitions outcome ≡ true))))
      → IsFrontier partitions trace (numbers_of footprints) server packets reach
      → IsFrontier partitions (Visited server packet outcome ∷ trace) (numbers_of grown) server more
      (marked_at footprint reach)
  head_grows made packets more reach all joined reaches = record {
    each = λ another partition changes. elim
        (marked_cases partitions trace (numbers_of footprints) server outcome footprint made reach partition) [
          | inl marked ↦ elim changes [
            | inl here ↦ (
              λ _. omega (arith, new_number server another here.0 here.1, marked.1),
              λ _. (joined another).1 (inr (sym here.1, changes_some partitions outcome partition marked.0)),
            )
            | inr there ↦
                let within = in_bounds (numbers_of footprints)
                (λ o. Changes partitions o partition) bound trace rising server another there in
                let changing = stands_map (λ o. Changes partitions o partition) (λ o. is_changing partitions o
                ≡ true) (λ o has. changes_some partitions o partition has) trace server another there in (
                  λ _. omega (arith, same_number server another partition there, within.1, marked.1),
                  λ _. (joined another).1 (inl (all another changing)),
                )
          ]
          | inr kept ↦ elim changes [
            | inl here ↦ absurd (kept.0 here.2)
            | inr there ↦ (
              λ member. elim ((joined another).0 member) [
                | inl old ↦ omega (
                  arith,
                  same_number server another partition there,
                  (reaches.each another partition there).0 old,
                  kept.1,
                )
                | inr new ↦ absurd (fresh
                    (subst (λ p. IsSomeVisit trace server p) new.0
                    (some_visit (λ o. Changes partitions o partition) trace server another there)))
              ],
              λ less. (joined another).1
                  (inl ((reaches.each another partition there).1 (omega (
                    arith,
                    same_number server another partition there,
                    kept.1,
                  )))),
            )
          ]
        ];
    last = λ partition reached. elim
        (marked_cases partitions trace (numbers_of footprints) server outcome footprint made reach partition) [
          | inl marked ↦ (packet, inl (refl, refl, marked.0), number_is grown server packet footprint is ∙ sym marked.1)
          | inr kept ↦ let found = reaches.last partition (omega (arith, kept.1)) in
              (found.0, inr found.1, same_number server found.0 partition found.1 ∙ (found.2 ∙ sym kept.1))
        ];
  }
