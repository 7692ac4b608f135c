-- Where the serial run of a trace has released or dropped a packet, so has the trace.
use Rattle.std.proofs.Common.{◌≡◌, ℕ, ◌+◌, ◌==◌, true, false, List, [], ◌∷◌, refl, sym, inl, inr, Option, Some, None}
use Rattle.std.specs.Prelude.{slice_get, option_map}
use Rattle.ftc_serial.specs.declared.position.Position.TheVariants as position
use Rattle.ftc_serial.specs.Serial.{Entry, Visited, Given}
use Rattle.ftc_serial.proofs.Functions.{with_at_cases}
use Rattle.ftc_protocol.specs.Setting.{Setting, servers}
use Rattle.ftc_protocol.specs.Fates.{IsDropped, IsGiven}
use Rattle.ftc_protocol.proofs.Places.{Filtered, Released, place_after, placed, serial_of}

opening_unreleased : (packet : Option (List ℕ)) → option_map (position.Waiting 0) packet ≡ Released → ⊥
opening_unreleased None is = absurd (cc)
opening_unreleased (Some bytes) is = absurd (cc)

pub opening_unfiltered : (packet : Option (List ℕ)) (k : ℕ) → option_map (position.Waiting 0) packet ≡ Filtered k → ⊥
opening_unfiltered None k is = absurd (cc)
opening_unfiltered (Some bytes) k is = absurd (cc)

module _ (c : Setting) where
  visit_unreleased : (k : ℕ) (packet : Option (List ℕ)) → place_after (servers c) k packet ≡ Released → ⊥
  visit_unreleased k None = λ is. absurd (cc)
  visit_unreleased k (Some bytes) =
      elim (k + 1 == servers c) as (λ b. placed b k bytes ≡ Released → ⊥) [
        | true ↦ λ is. absurd (cc)
        | false ↦
            λ is. absurd (cc)
      ]

  pub visit_filtered : (j k : ℕ) (packet : Option (List ℕ)) → place_after (servers c) j packet ≡ Filtered k →
      (j ≡ k) × (packet ≡ None)
  visit_filtered j k None = λ is. (cc, refl)
  visit_filtered j k (Some bytes) =
      elim (j + 1 == servers c) as (λ b. placed b j bytes ≡ Filtered k → (j ≡ k) × (Some bytes ≡ None)) [
        | true ↦
            λ is. absurd (cc)
        | false ↦ λ is. absurd (cc)
      ]

  pub released_given : (trace : List Entry) (p : ℕ) → (serial_of c trace).place p ≡ Released → IsGiven trace p
  released_given [] p = λ is. absurd (opening_unreleased (slice_get c.packets p) is)
  released_given (Given q bytes ∷ older) p =
      with_at_cases (λ v. v ≡ Released →
      IsGiven (Given q bytes ∷ older) p) (serial_of c older).place q Released p (λ same is. inl (sym same))
      (λ other is. inr (released_given older p is))
  released_given (Visited k q o ∷ older) p =
      with_at_cases (λ v. v ≡ Released →
      IsGiven (Visited k q o ∷ older) p) (serial_of c older).place q (place_after (servers c) k o.packet) p
      (λ same is. absurd (visit_unreleased k o.packet is)) (λ other is. inr (released_given older p is))

  pub filtered_dropped : (trace : List Entry) (k p : ℕ) → (serial_of c trace).place p ≡ Filtered k → IsDropped trace k p
  filtered_dropped [] k p = λ is. absurd (opening_unfiltered (slice_get c.packets p) k is)
  filtered_dropped (Given q bytes ∷ older) k p =
      with_at_cases (λ v. v ≡ Filtered k →
      IsDropped (Given q bytes ∷ older) k p) (serial_of c older).place q Released p (λ same is. absurd (cc))
      (λ other is. inr (filtered_dropped older k p is))
  filtered_dropped (Visited j q o ∷ older) k p =
      with_at_cases (λ v. v ≡ Filtered k →
      IsDropped (Visited j q o ∷ older) k p) (serial_of c older).place q (place_after (servers c) j o.packet) p
      (λ same is. let drop = visit_filtered j k o.packet is in
      inl (drop.0, sym same, drop.1)) (λ other is. inr (filtered_dropped older k p is))
