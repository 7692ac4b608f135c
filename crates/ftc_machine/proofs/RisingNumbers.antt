-- Numbers that rise along a trace: each visit has its own, and the earlier of two has the lesser.
use Rattle.std.proofs.Common.{◌≡◌, ℕ, ◌<◌, ◌≤◌, List, [], ◌∷◌, inl, inr, sym, ◌∙◌, arith}
use Rattle.ftc_serial.specs.Take.{Outcome}
use Rattle.ftc_serial.specs.Entries.{Touches}
use Rattle.ftc_serial.specs.Serial.{Entry, Visited, Given}
use Rattle.ftc_protocol.specs.Changes.{Changes, Meets}
use Rattle.ftc_protocol.specs.Trace.{IsInTrace, IsBefore}
use Rattle.ftc_machine.specs.Frontier.{Numbers, AreRising, IsChangingIn}
use Rattle.ftc_protocol.proofs.TraceLemmas.{stands_map}

module _ (numbers : Numbers) where
  same_number : (server other packet another : ℕ) → server ≡ other → packet ≡ another →
      numbers server packet ≡ numbers other another
  same_number server other packet another one two = cc

  -- a visit of the trace has a number above 0 and below the bound
  pub in_bounds : (P : Outcome → Type 0) (bound : ℕ) (trace : List Entry) → AreRising numbers bound trace →
      (server packet : ℕ) → IsInTrace P trace server packet
      → (0 < numbers server packet) × (numbers server packet < bound)
  in_bounds P bound [] rising server packet there = absurd there
  in_bounds P bound (Given other bytes ∷ older) rising server packet there =
      elim there [ inl here ↦ absurd here | inr below ↦ in_bounds P bound older rising server packet below ]
  in_bounds P bound (Visited visited passed outcome ∷ older) rising server packet there =
      let some : 0 < numbers visited passed = rising.0 in
      let less : numbers visited passed < bound = rising.1 in
      elim there [
        | inl here ↦ let same = same_number visited server passed packet here.0 here.1 in
            (omega (arith, same), omega (arith, same))
        | inr below ↦ let within = in_bounds P (numbers visited passed) older rising.2 server packet below in
            (within.0, omega (arith, within.1))
      ]

  -- so it stands once
  pub once : (P : Outcome → Type 0) (bound : ℕ) (older : List Entry) (server packet : ℕ) (outcome : Outcome) →
      AreRising numbers bound (Visited server packet outcome ∷ older)
      → IsInTrace P older server packet → ⊥
  once P bound older server packet outcome rising there =
      let within = in_bounds P (numbers server packet) older rising.2 server packet there in omega (arith, within.1)

  -- with the older entries the numbers rise to any bound that isn't lower
  pub rising_more : (bound more : ℕ) (trace : List Entry) → bound ≤ more → AreRising numbers bound trace →
      AreRising numbers more trace
  rising_more bound more [] less rising = rising
  rising_more bound more (Given packet bytes ∷ older) less rising = rising_more bound more older less rising
  rising_more bound more (Visited server packet outcome ∷ older) less rising =
      let below : numbers server packet < bound = rising.1 in (rising.0, omega arith, rising.2)

  -- two visits of a middlebox with one number are the same
  pub one_number : (P Q : Outcome → Type 0) (bound : ℕ) (trace : List Entry) → AreRising numbers bound trace →
      (server one other : ℕ) → IsInTrace P trace server one → IsInTrace Q trace server other
      → numbers server one ≡ numbers server other → one ≡ other
  one_number P Q bound [] rising server one other first second same = absurd first
  one_number P Q bound (Given packet bytes ∷ older) rising server one other first second same = elim first [
    | inl here ↦ absurd here
    | inr below ↦ elim second [
      | inl here ↦ absurd here
      | inr under ↦
          one_number P Q bound older rising server one other below under same
    ]
  ]
  one_number P Q bound (Visited visited passed outcome ∷ older) rising server one other first second same = elim first [
    | inl here ↦ elim second [
      | inl there ↦ sym here.1 ∙ there.1
      | inr under ↦
          let less = in_bounds Q (numbers visited passed) older rising.2 server other under in
          absurd (omega (arith, less.1, same_number visited server passed one here.0 here.1))
    ]
    | inr below ↦
        let less = in_bounds P (numbers visited passed) older rising.2 server one below in
        elim second [
          | inl there ↦ absurd (omega (arith, less.1, same_number visited server passed other there.0 there.1))
          | inr under ↦ one_number P Q (numbers visited passed) older rising.2 server one other below under same
        ]
  ]

  -- a visit has one outcome
  pub both_in : (P Q : Outcome → Type 0) (bound : ℕ) (trace : List Entry) → AreRising numbers bound trace →
      (server packet : ℕ) → IsInTrace P trace server packet → IsInTrace Q trace server packet
      → IsInTrace (λ outcome. P outcome × Q outcome) trace server packet
  both_in P Q bound [] rising server packet first second = first
  both_in P Q bound (Given other bytes ∷ older) rising server packet first second = elim first [
    | inl here ↦ absurd here
    | inr below ↦ elim second [
      | inl here ↦ absurd here
      | inr under ↦
          inr (both_in P Q bound older rising server packet below under)
    ]
  ]
  both_in P Q bound (Visited visited passed outcome ∷ older) rising server packet first second = elim first [
    | inl here ↦ elim second [
      | inl there ↦ inl (here.0, here.1, (here.2, there.2))
      | inr under ↦
          let less = in_bounds Q (numbers visited passed) older rising.2 server packet under in
          absurd (omega (arith, less.1, same_number visited server passed packet here.0 here.1))
    ]
    | inr below ↦
        let less = in_bounds P (numbers visited passed) older rising.2 server packet below in
        elim second [
          | inl there ↦ absurd (omega (arith, less.1, same_number visited server passed packet there.0 there.1))
          | inr under ↦ inr (both_in P Q (numbers visited passed) older rising.2 server packet below under)
        ]
  ]

  -- of two visits of a middlebox of which the first changes a partition that the second touches, the first is before
  -- the second where its number is less
  pub before_by_number : (partitions bound : ℕ) (trace : List Entry) → AreRising numbers bound trace →
      (server earlier later partition : ℕ)
      → IsChangingIn partitions trace server earlier partition →
      IsInTrace (λ outcome. Touches partitions outcome partition) trace server later
      → numbers server earlier < numbers server later → IsBefore partitions trace server earlier later
  before_by_number partitions bound [] rising server earlier later partition first second less = first
  before_by_number partitions bound (Given other bytes
      ∷ older) rising server earlier later partition first second less = elim first [
        | inl here ↦ absurd here
        | inr below ↦ elim second [
          | inl here ↦ absurd here
          | inr under ↦
              inr (before_by_number partitions bound older rising server earlier later partition below under less)
        ]
      ]
  before_by_number partitions bound (Visited visited passed outcome
      ∷ older) rising server earlier later partition first second less = elim first [
        | inl here ↦ elim second [
          | inl there ↦ absurd (omega (
            arith,
            same_number visited server passed earlier here.0 here.1,
            same_number visited server passed later there.0 there.1,
          ))
          | inr under ↦
              let low = in_bounds (λ o. Touches partitions o partition)
              (numbers visited passed) older rising.2 server later under in
              absurd (omega (arith, low.1, same_number visited server passed earlier here.0 here.1))
        ]
        | inr below ↦ elim second [
          | inl there ↦ inl (
            there.1,
            (
              there.0,
              stands_map (λ o. Changes partitions o partition) (λ o. Meets partitions o outcome)
                  (λ o changes. (partition, changes, there.2)) older server earlier below,
            ),
          )
          | inr under ↦ inr (before_by_number partitions
              (numbers visited passed) older rising.2 server earlier later partition below under less)
        ]
      ]
