-- A packet that waits for a middlebox has visited earlier ones alone.
use Rattle.std.proofs.Common.{◌≡◌, ℕ, ◌+◌, ◌<◌, ◌==◌, true, false, List, [], ◌∷◌, inl, inr, sym, subst, arith, Option}
use Rattle.std.proofs.Common.{Some, None}
use Rattle.ftc_serial.specs.Serial.{Entry, Given, Visited}
use Rattle.ftc_serial.proofs.Functions.{with_at_cases}
use Rattle.ftc_protocol.specs.Setting.{Setting, servers}
use Rattle.ftc_protocol.specs.Trace.{IsInTrace}
use Rattle.ftc_protocol.proofs.Places.{IsSerial, Released, Waits, place_after, placed, serial_of}

-- a packet that waits for middlebox k has visited earlier ones alone
pub waits_past : (n k j : ℕ) (bytes : (List ℕ)) (v : Option (List ℕ)) → place_after n j v ≡ Waits k bytes → k ≡ j + 1
waits_past n k j bytes None = λ e. cc
waits_past n k j bytes (Some b) =
    elim (j + 1 == n) as (λ t. (placed t j b) ≡ Waits k bytes → k ≡ j + 1) [ true ↦ λ e. cc | false ↦ λ e. cc ]

pub visited_earlier : (c : Setting) (trace : List Entry) (k p : ℕ) (bytes : (List ℕ)) → IsSerial c trace
    → (serial_of c trace).place p ≡ Waits k bytes
    → (j : ℕ) → IsInTrace (λ o. Unit {0}) trace j p → j < k
visited_earlier c [] k p bytes is waits j = λ h. absurd h
visited_earlier c (Given q b ∷ older) k p bytes is waits j =
    with_at_cases (λ w. w ≡ Waits k bytes → IsInTrace (λ o. Unit {0}) (Given q b ∷ older) j p → j < k)
    (serial_of c older).place q Released p
    (λ e w. cc)
    (λ ne w h. elim h [ inl here ↦ absurd here | inr there ↦ visited_earlier c older k p bytes is.1 w j there ])
    waits
visited_earlier c (Visited i q o ∷ older) k p bytes is waits j =
    with_at_cases (λ w. w ≡ Waits k bytes → IsInTrace (λ o. Unit {0}) (Visited i q o ∷ older) j p → j < k)
    (serial_of c older).place q _ p
    (λ e w h. let after' : k ≡ i + 1 = waits_past (servers c) k i bytes o.packet w in elim h [
      | inl here ↦ omega (arith, here.0)
      | inr there ↦ let below : j < i = visited_earlier c older i p is.0.0 is.1
          (subst (λ x. (serial_of c older).place x ≡ Waits i is.0.0) (sym e) is.0.1) j there in omega arith
    ])
    (λ ne w h. elim h [
      | inl here ↦ absurd
          (ne (sym here.1))
      | inr there ↦ visited_earlier c older k p bytes is.1 w j there
    ])
    waits
