-- How many of the packets that have entered have no message any more.
use Rattle.std.proofs.Common.{◌≡◌, ℕ, zero, suc, ◌+◌, ◌<◌, ◌≤◌, if◌then◌else◌, Bool, true, false, refl, sym, ap, subst}
use Rattle.std.proofs.Common.{◌∙◌, arith, inl, inr, Option, is_some}
use Rattle.std.proofs.lemmas.Bool.{cases_eq}
use Rattle.ftc_protocol.specs.State.{Message}

-- one for a packet without a message
abbrev one_if : Bool → ℕ
one_if there = if there then 0 else 1

abbrev pub ended : ℕ → (ℕ → Option Message) → ℕ
ended zero message = 0
ended (suc n) message = ended n message + (if is_some (message n) then 0 else 1)

one_more : (a b : Bool) → (a ≡ false → b ≡ false) → one_if a ≤ one_if b
one_more true b less = omega arith
one_more false b less = subst (λ x. 1 ≤ one_if x) (sym (less refl)) (omega arith)

pub ended_more : (n : ℕ) (old new : ℕ → Option Message) →
    ((p : ℕ) → p < n → is_some (old p) ≡ false → is_some (new p) ≡ false) → ended n old ≤ ended n new
ended_more zero old new fewer = omega arith
ended_more (suc n) old new fewer =
    let rest = ended_more n old new (λ p less. fewer p (omega arith)) in
    let here = one_more (is_some (old n)) (is_some (new n)) (fewer n (omega arith)) in
    omega arith

pub ended_one : (n : ℕ) (old new : ℕ → Option Message) →
    ((p : ℕ) → p < n → is_some (old p) ≡ false → is_some (new p) ≡ false)
    → (p : ℕ) → p < n → is_some (old p) ≡ true → is_some (new p) ≡ false → ended n old + 1 ≤ ended n new
ended_one zero old new fewer p less was gone = absurd (omega arith)
ended_one (suc n) old new fewer p less was gone = elim (cases_eq p n) [
  | inl same ↦
      let rest = ended_more n old new (λ q below. fewer q (omega arith)) in
      let before : one_if (is_some (old n)) ≡ 0 =
      ap (λ (b : Bool). one_if b) (ap (λ x. is_some (old x)) (sym same) ∙ was) in
      let behind : one_if (is_some (new n)) ≡ 1 =
      ap (λ (b : Bool). one_if b) (ap (λ x. is_some (new x)) (sym same) ∙ gone) in
      omega arith
  | inr other ↦
      let rest = ended_one n old new (λ q below. fewer q (omega arith)) p (omega arith) was gone in
      let here = one_more (is_some (old n)) (is_some (new n)) (fewer n (omega arith)) in
      omega arith
]

pub ended_most : (n : ℕ) (message : ℕ → Option Message) → ended n message ≤ n
ended_most zero message = omega arith
ended_most (suc n) message =
    let rest = ended_most n message in
    let here : one_if (is_some (message n)) ≤ 1 =
    elim (is_some (message n)) as (λ b. one_if b ≤ 1) [ true ↦ omega arith | false ↦ omega arith ] in
    omega arith

pub ended_next : (n : ℕ) (message : ℕ → Option Message) → ended n message ≤ ended (n + 1) message
ended_next n message =
    let same : suc n ≡ n + 1 = omega arith in
    let more : ended n message ≤ ended n message + one_if (is_some (message n)) = omega arith in
    subst (λ k. ended n message ≤ ended k message) same more
