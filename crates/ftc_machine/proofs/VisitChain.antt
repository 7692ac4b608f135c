-- A packet visits the middleboxes in turn: behind each earlier one.
use Rattle.std.proofs.Common.{◌≡◌, ℕ, ◌+◌, ◌<◌, ◌≤◌, List, [], ◌∷◌, inl, inr, sym, subst, arith}
use Rattle.std.specs.Prelude.{slice_get}
use Rattle.std.proofs.lemmas.Bool.{cases_eq}
use Rattle.ftc_serial.specs.Serial.{Entry, Visited, Given}
use Rattle.ftc_serial.proofs.Functions.{with_at_cases}
use Rattle.ftc_protocol.specs.Setting.{Setting, servers}
use Rattle.ftc_protocol.specs.Trace.{IsSomeVisit}
use Rattle.ftc_protocol.proofs.Places.{IsSerial, Waits, Released, place_after, serial_of, opening_waits}
use Rattle.ftc_protocol.proofs.EarlierVisits.{waits_past}

-- one that waits for a middlebox has visited all before it
waited : (c : Setting) (trace : List Entry) (k p : ℕ) (bytes : List ℕ) → IsSerial c trace →
    (serial_of c trace).place p ≡ Waits k bytes → (i : ℕ) → i < k → IsSomeVisit trace i p
waited c [] k p bytes is waits i less = let first : 0 ≡ k = opening_waits (slice_get c.packets p) k bytes waits in
    absurd (omega arith)
waited c (Given q b ∷ older) k p bytes is waits i less =
    with_at_cases (λ w. w ≡ Waits k bytes → IsSomeVisit (Given q b ∷ older) i p) (serial_of c older).place q Released p
    (λ e w. cc) (λ ne w. inr (waited c older k p bytes is.1 w i less)) waits
waited c (Visited m q o ∷ older) k p bytes is waits i less =
    with_at_cases (λ w. w ≡ Waits k bytes →
    IsSomeVisit (Visited m q o ∷ older) i p) (serial_of c older).place q (place_after (servers c) m o.packet) p
    (λ e w.
    let behind : k ≡ m + 1 = waits_past (servers c) k m bytes o.packet w in
    elim (cases_eq i m) [
      | inl same ↦ inl (sym same, sym e, tt)
      | inr other ↦ inr (waited c older m p is.0.0 is.1
          (subst (λ x. (serial_of c older).place x ≡ Waits m is.0.0) (sym e) is.0.1) i (omega arith))
    ])
    (λ ne w. inr (waited c older k p bytes is.1 w i less))
    waits

pub visited_before : (c : Setting) (trace : List Entry) → IsSerial c trace → (j p : ℕ) → IsSomeVisit trace j p →
    (i : ℕ) → i ≤ j → IsSomeVisit trace i p
visited_before c [] is j p there i le = absurd there
visited_before c (Given q b ∷ older) is j p there i le =
    elim there [ inl here ↦ absurd here | inr below ↦ inr (visited_before c older is.1 j p below i le) ]
visited_before c (Visited k q o ∷ older) is j p there i le = elim there [
  | inr below ↦ inr (visited_before c older is.1 j p below i le)
  | inl here ↦ elim (cases_eq i j) [
    | inl same ↦ inl (subst (λ x. k ≡ x) (sym same) here.0, here.1, tt)
    | inr other ↦
        let at : k ≡ j = here.0 in
        inr (subst (λ x. IsSomeVisit older i x) here.1 (waited c older k q is.0.0 is.1 is.0.1 i (omega arith)))
  ]
]
