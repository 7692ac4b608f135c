-- Visits are taken out of the trace, and with each those that it is before.
use Rattle.std.proofs.Common.{◌≡◌, ℕ, ◌<◌, Bool, true, false, cond, not, List, [], ◌∷◌, inl, inr, refl, sym, ◌∙◌, arith}
use Rattle.std.proofs.lemmas.Bool.{true≢false, false_from_ne_true}
use Rattle.ftc_serial.specs.Take.{Outcome}
use Rattle.ftc_serial.specs.Entries.{Touches}
use Rattle.ftc_serial.specs.Serial.{Entry, Visited, Given}
use Rattle.ftc_serial.specs.Removal.{Taken, left_of}
use Rattle.ftc_machine.specs.declared.state.footprint.Touched.{Touched}
use Rattle.ftc_protocol.specs.Changes.{Changes, Meets}
use Rattle.ftc_protocol.specs.Trace.{IsBefore}
use Rattle.ftc_machine.specs.Frontier.{Numbers, Footprints, AreRising, AreFootprints, IsFrontier, IsLast, numbers_of}
use Rattle.ftc_protocol.proofs.TraceLemmas.{stands_map, visit_left, visit_stood}
use Rattle.ftc_machine.proofs.RisingNumbers.{rising_more}
use Rattle.ftc_machine.proofs.FootprintTests.{all_within, touches_of}

module _ (out : Taken) where
  pub rising_left : (numbers : Numbers) (bound : ℕ) (trace : List Entry) → AreRising numbers bound trace →
      AreRising numbers bound (left_of out trace)
  rising_left numbers bound [] = λ rising. rising
  rising_left numbers bound (Given packet bytes ∷ older) = λ rising. rising_left numbers bound older rising
  rising_left numbers bound (Visited server packet outcome ∷ older) =
      elim (out server packet) as (λ b. AreRising numbers bound (Visited server packet outcome ∷ older) →
      AreRising numbers bound (cond (not b) (Visited server packet outcome ∷ left_of out older)
      (left_of out older))) [
        | true ↦ λ rising.
            let less : numbers server packet < bound =
            rising.1 in rising_more numbers (numbers server packet) bound (left_of out older) (omega arith)
            (rising_left numbers (numbers server packet) older rising.2)
        | false ↦ λ rising. (rising.0, rising.1, rising_left numbers (numbers server packet) older rising.2)
      ]

  -- a set none of whose visits is taken out reaches as far as before
  pub reach_left : (partitions : ℕ) (trace : List Entry) (numbers : Numbers) (server : ℕ) (packets : ℕ →
      Bool) (reach : ℕ → ℕ) → ((packet : ℕ) → packets packet ≡ true → out server packet ≡ false)
      → IsFrontier partitions trace numbers server packets reach →
      IsFrontier partitions (left_of out trace) numbers server packets reach
  reach_left partitions trace numbers server packets reach stay is = record {
    each = λ packet partition changes. is.each packet partition
        (visit_stood out (λ o. Changes partitions o partition) trace server packet changes).0;
    last = λ partition some.
        let found = is.last partition some in
        let member = (is.each found.0 partition found.1).1 (omega (arith, found.2)) in (
          found.0,
          visit_left out (λ o. Changes partitions o partition) trace server found.0 found.1
              (stay found.0 member),
          found.2,
        );
  }

  -- the last visit that changes a partition is left, where a visit that touches the partition is
  last_left : (partitions : ℕ) (older : List Entry) (numbers : Numbers) (server packet : ℕ) (outcome : Outcome)
      (partition number : ℕ) → Touches partitions outcome partition → out server packet ≡ false
      → ((other : ℕ) → IsBefore partitions (Visited server packet outcome ∷ older) server other packet →
      out server other ≡ true → out server packet ≡ true)
      → IsLast partitions older numbers server partition number →
      IsLast partitions (left_of out older) numbers server partition number
  last_left partitions older numbers server packet outcome partition number touches left closed is = record {
    above = λ other changes. is.above other
        (visit_stood out (λ o. Changes partitions o partition) older server other changes).0;
    last = λ some.
        let found = is.last some in
        let meets = stands_map (λ o. Changes partitions o partition) (λ o. Meets partitions o outcome)
        (λ o changes. (partition, changes, touches)) older server found.0 found.1 in
        let stays = false_from_ne_true (out server found.0)
        (λ taken. true≢false (sym (closed found.0 (inl (refl, (refl, meets))) taken) ∙ left)) in
        (found.0, visit_left out (λ o. Changes partitions o partition) older server found.0 found.1 stays, found.2);
  }

  pub footprints_left : (partitions : ℕ) (footprints : Footprints) (trace : List Entry)
      → ((server packet other : ℕ) → IsBefore partitions trace server packet other → out server packet ≡ true →
      out server other ≡ true)
      → AreFootprints partitions footprints trace → AreFootprints partitions footprints (left_of out trace)
  footprints_left partitions footprints [] = λ closed are. are
  footprints_left partitions footprints (Given packet bytes ∷ older) =
      λ closed are. footprints_left partitions footprints older (λ s p q before. closed s p q (inr before)) are
  footprints_left partitions footprints (Visited server packet outcome ∷ older) =
      elim (out server packet) as (λ b. out server packet ≡ b
      → ((s p q : ℕ) → IsBefore partitions (Visited server packet outcome ∷ older) s p q → out s p ≡ true →
      out s q ≡ true)
      → AreFootprints partitions footprints (Visited server packet outcome ∷ older)
      → AreFootprints partitions footprints
      (cond (not b) (Visited server packet outcome ∷ left_of out older) (left_of out older))) [
        | true ↦ λ taken closed are. footprints_left partitions footprints older
            (λ s p q before. closed s p q (inr before)) are.1
        | false ↦ λ left closed are.
            let made = are.0.2 in (
              (
                are.0.0,
                are.0.1,
                record {
                  touched = made.touched;
                  changed = made.changed;
                  before = all_within (λ (touched : Touched). IsLast partitions older
                      (numbers_of footprints) server touched.partition touched.before)
                      (λ (touched : Touched). IsLast partitions (left_of out older)
                      (numbers_of footprints) server touched.partition touched.before) are.0.0.touched.items
                      (λ touched member is. last_left partitions older
                      (numbers_of footprints) server packet outcome touched.partition touched.before
                      (touches_of partitions older
                      (numbers_of footprints) server outcome are.0.0 made touched member) left
                      (λ other before. closed server other packet before) is) made.before;
                  writes = made.writes;
                  reads = made.reads;
                },
              ),
              footprints_left partitions footprints older (λ s p q before. closed s p q (inr before)) are.1,
            )
      ] refl
