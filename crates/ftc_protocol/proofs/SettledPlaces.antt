-- A packet that the trace released or dropped is so in the serial run of the trace.
use Rattle.std.proofs.Common.{◌≡◌, ℕ, ◌<◌, ◌≤◌, List, [], ◌∷◌, refl, sym, ap, subst, arith, inl, inr, None}
use Rattle.ftc_serial.specs.Words.{AnyOf}
use Rattle.ftc_serial.specs.Serial.{Entry, Visited, Given}
use Rattle.ftc_serial.proofs.Functions.{with_at_cases}
use Rattle.ftc_protocol.specs.Setting.{Setting, servers}
use Rattle.ftc_protocol.specs.Trace.{IsSomeVisit}
use Rattle.ftc_protocol.specs.Fates.{IsDropped, IsGiven}
use Rattle.ftc_protocol.proofs.Places.{Filtered, Released, Waits, Passed, IsSerial, place_after, serial_of}
use Rattle.ftc_protocol.proofs.PlacedFates.{visit_filtered}
use Rattle.ftc_protocol.proofs.EarlierVisits.{visited_earlier}

-- a release of the trace, with its bytes
pub bytes_given : (trace : List Entry) (p : ℕ) → IsGiven trace p
    → (bytes : List ℕ) × AnyOf (λ entry. entry ≡ Given p bytes) trace
bytes_given [] p there = absurd there
bytes_given (Given q bytes ∷ older) p there = elim there [
  | inl here ↦ (bytes, inl (let is : q ≡ p = here in ap (λ x. Given x bytes) is))
  | inr more ↦ let found = bytes_given older p more in (found.0, inr found.1)
]
bytes_given (Visited k q o ∷ older) p there = elim there [
  | inl here ↦ absurd here
  | inr more ↦ let found = bytes_given older p more in (found.0, inr found.1)
]

module _ (c : Setting) where
  pub given_released : (trace : List Entry) → IsSerial c trace → (p : ℕ) → IsGiven trace p
      → (serial_of c trace).place p ≡ Released
  given_released [] is p there = absurd there
  given_released (Given q bytes ∷ older) is p there =
      with_at_cases (λ v. v ≡ Released) (serial_of c older).place q Released p (λ same. refl)
      (λ other. elim there [ inl here ↦ absurd (other (sym here)) | inr more ↦ given_released older is.1 p more ])
  given_released (Visited k q o ∷ older) is p there = elim there [
    | inl here ↦ absurd here
    | inr more ↦
        let before = given_released older is.1 p more in
        with_at_cases (λ v. v ≡ Released) (serial_of c older).place q (place_after (servers c) k o.packet) p
        (λ same. let waits = subst (λ x. (serial_of c older).place x ≡ Waits k is.0.0) (sym same) is.0.1 in
        absurd (cc)) (λ other. before)
  ]

  pub dropped_filtered : (trace : List Entry) → IsSerial c trace → (k p : ℕ) → IsDropped trace k p
      → (serial_of c trace).place p ≡ Filtered k
  dropped_filtered [] is k p there = absurd there
  dropped_filtered (Given q bytes ∷ older) is k p there = elim there [
    | inl here ↦ absurd here
    | inr more ↦
        let before = dropped_filtered older is.1 k p more in
        with_at_cases (λ v. v ≡ Filtered k) (serial_of c older).place q Released p
        (λ same. let passed = subst (λ x. (serial_of c older).place x ≡ Passed bytes) (sym same) is.0 in
        absurd (cc)) (λ other. before)
  ]
  dropped_filtered (Visited j q o ∷ older) is k p there =
      with_at_cases (λ v. v ≡ Filtered k) (serial_of c older).place q (place_after (servers c) j o.packet) p
      (λ same. elim there [
        | inl here ↦ let at : j ≡ k = here.0 in let none : o.packet ≡ None = here.2 in cc
        | inr more ↦
            let before = dropped_filtered older is.1 k p more in
            let waits = subst (λ x. (serial_of c older).place x ≡ Waits j is.0.0) (sym same) is.0.1 in absurd (cc)
      ])
      (λ other. elim there [ inl here ↦ absurd (other (sym here.1)) | inr more ↦ dropped_filtered older is.1 k p more ])

  -- a packet that a middlebox dropped has visited none behind it
  pub visited_until : (trace : List Entry) → IsSerial c trace → (k p : ℕ) → (serial_of c trace).place p ≡ Filtered k
      → (j : ℕ) → IsSomeVisit trace j p → j ≤ k
  visited_until [] is k p at j there = absurd there
  visited_until (Given q bytes ∷ older) is k p at j there =
      with_at_cases (λ v. v ≡ Filtered k → j ≤ k) (serial_of c older).place q Released p (λ same e. absurd (cc))
      (λ other e. elim there [ inl here ↦ absurd here | inr more ↦ visited_until older is.1 k p e j more ]) at
  visited_until (Visited i q o ∷ older) is k p at j there =
      with_at_cases (λ v. v ≡ Filtered k → j ≤ k) (serial_of c older).place q (place_after (servers c) i o.packet) p
      (λ same e.
      let last : i ≡ k = (visit_filtered c i k o.packet e).0 in
      elim there [
        | inl here ↦ let at : i ≡ j = here.0 in omega arith
        | inr more ↦
            let less : j < i = visited_earlier c older i p is.0.0 is.1
            (subst (λ x. (serial_of c older).place x ≡ Waits i is.0.0) (sym same) is.0.1) j more in omega arith
      ])
      (λ other e. elim there [
        | inl here ↦ absurd
            (other (sym here.1))
        | inr more ↦ visited_until older is.1 k p e j more
      ]) at
