-- A visit of the trace joins a set that has each visit before it.
use Rattle.std.proofs.Common.{◌≡◌, ℕ, ◌<◌, ◌≤◌, ◌↔◌, Bool, true, false, List, Some, ◌⊎◌, inl, inr, sym, ap, subst, ◌∙◌}
use Rattle.std.proofs.Common.{arith}
use Rattle.std.proofs.lemmas.Bool.{true≢false, cases_lt, cases_eq}
use Rattle.ftc_serial.specs.Take.{Outcome}
use Rattle.ftc_serial.specs.Entries.{Touches}
use Rattle.ftc_serial.specs.Serial.{Entry}
use Rattle.ftc_machine.specs.declared.state.footprint.Footprint.{Footprint}
use Rattle.ftc_protocol.specs.Changes.{Changes}
use Rattle.ftc_protocol.specs.Trace.{IsInTrace, IsSomeVisit, IsBefore}
use Rattle.ftc_machine.specs.Frontier.{Footprints, AreRising, AreFootprints, IsChangingIn, IsFrontier, numbers_of}
use Rattle.ftc_machine.specs.FootprintMarks.{marked_at}
use Rattle.ftc_machine.proofs.RisingNumbers.{one_number, before_by_number}
use Rattle.ftc_machine.proofs.PlacedVisits.{IsPlaced, place_of, stands, stood}
use Rattle.ftc_machine.proofs.MarkedPartitions.{marked_cases}

module _ (partitions bound : ℕ) (trace : List Entry) (footprints : Footprints)
    (rising : AreRising (numbers_of footprints) bound trace) (are : AreFootprints partitions footprints trace)
    (server packet : ℕ) (footprint : Footprint) (there : IsSomeVisit trace server packet) (is : footprints server packet
    ≡ Some footprint)
    (packets others : ℕ → Bool) (reach : ℕ →
    ℕ) (reaches : IsFrontier partitions trace (numbers_of footprints) server packets reach) (new : packets packet
    ≡ false)
    (before : (earlier : ℕ) → IsBefore partitions trace server earlier packet → packets earlier ≡ true)
    (joined : (other : ℕ) → (others other ≡ true) ↔ ((packets other ≡ true) ⊎ (other ≡ packet))) where
  placed : IsPlaced partitions trace (numbers_of footprints) server packet footprint
  placed = place_of partitions footprints (λ o. Unit {0}) bound trace rising are server packet footprint there is

  in_trace : (P : Outcome → Type 0) → P placed.outcome → IsInTrace P trace server packet
  in_trace = stands partitions bound trace (numbers_of footprints) rising server packet footprint placed

  in_outcome : (P : Outcome → Type 0) → IsInTrace P trace server packet → P placed.outcome
  in_outcome = stood partitions bound trace (numbers_of footprints) rising server packet footprint placed

  -- the set doesn't reach the visit yet
  below : (partition : ℕ) → Changes partitions placed.outcome partition → reach partition < footprint.number
  below partition changes = elim (cases_lt (reach partition) footprint.number) [
    | inl less ↦ less
    | inr more ↦ absurd (true≢false
        (sym ((reaches.each packet partition (in_trace (λ o. Changes partitions o partition) changes)).1
        (omega (arith, placed.number))) ∙ new))
  ]

  changed_each : (other partition : ℕ) → IsChangingIn partitions trace server other partition →
      Changes partitions placed.outcome partition →
      (others other ≡ true) ↔ (numbers_of footprints server other ≤ footprint.number)
  changed_each other partition changes here = (
    λ member. elim ((joined other).0 member) [
      | inl old ↦ omega (arith, (reaches.each other partition changes).0 old, below partition here)
      | inr same ↦ omega (arith, placed.number, ap (numbers_of footprints server) same)
    ],
    λ less. elim (cases_eq (numbers_of footprints server other) (numbers_of footprints server packet)) [
      | inl same ↦ (joined other).1
          (inr (one_number (numbers_of footprints) (λ o. Changes partitions o partition)
          (λ o. Unit {0}) bound trace rising server other packet changes there same))
      | inr differs ↦
          let earlier = before_by_number
          (numbers_of footprints) partitions bound trace rising server other packet partition changes
          (in_trace (λ o. Touches partitions o partition) (placed.made.reads partition here))
          (omega (arith, placed.number)) in
          (joined other).1 (inl (before other earlier))
    ],
  )

  pub apply_reach : IsFrontier partitions trace (numbers_of footprints) server others (marked_at footprint reach)
  apply_reach = record {
    each = λ other partition changes. elim
        (marked_cases partitions placed.older
        (numbers_of footprints) server placed.outcome footprint placed.made reach partition) [
          | inl marked ↦ subst (λ n. (others other ≡ true) ↔ (numbers_of footprints server other ≤ n)) (sym marked.1)
              (changed_each other partition changes marked.0)
          | inr kept ↦ (
            λ member. elim ((joined other).0 member) [
              | inl old ↦ omega (arith, kept.1, (reaches.each other partition changes).0 old)
              | inr same ↦ absurd (kept.0
                  (in_outcome (λ o. Changes partitions o partition)
                  (subst (λ p. IsChangingIn partitions trace server p partition) same changes)))
            ],
            λ less. (joined other).1 (inl ((reaches.each other partition changes).1 (omega (arith, kept.1)))),
          )
        ];
    last = λ partition some. elim
        (marked_cases partitions placed.older
        (numbers_of footprints) server placed.outcome footprint placed.made reach partition) [
          | inl marked ↦ (packet, in_trace (λ o. Changes partitions o partition) marked.0, placed.number ∙ sym marked.1)
          | inr kept ↦ let found = reaches.last partition (omega (arith, kept.1)) in
              (found.0, found.1, found.2 ∙ sym kept.1)
        ];
  }
