-- The number that is noted of an origin, as the map of numbers changes.
use Rattle.std.proofs.Common.{◌≡◌, ◌≢◌, ◌∙◌, ◌⊎◌, ℕ, Bool, true, false, Option, Some, None}
use Rattle.std.proofs.Common.{refl, sym, ap, cond, inl, inr}
use Rattle.std.specs.Prelude.{◌==◌, unwrap_or}
use Rattle.std.proofs.lemmas.Bool.{eqb-true, eq-eqb}

pub off_itself : (key : ℕ) (before after : Option ℕ) → after ≡ cond (key == key) None before → unwrap_or after 0 ≡ 0
off_itself key before after is =
    ap (λ (o : Option ℕ). unwrap_or o 0) (is ∙ ap (λ (b : Bool). cond b None before) (eq-eqb key key refl))

pub off_other : (key other : ℕ) (before after : Option ℕ) → other ≢ key → after ≡ cond (key == other) None before →
    unwrap_or after 0 ≡ unwrap_or before 0
off_other key other before after differs is =
    elim (key == other) as (λ t. (key == other) ≡ t → after ≡ cond t None before →
    unwrap_or after 0 ≡ unwrap_or before 0) [
      | true ↦ λ same _. absurd (differs (sym (eqb-true key other same)))
      | false ↦ λ _ stays. ap (λ (o : Option ℕ). unwrap_or o 0) stays
    ] refl is

pub put_or_same : (key other count : ℕ) (before after : Option ℕ) → after ≡ cond (key == other) (Some count) before →
    (unwrap_or after 0 ≡ unwrap_or before 0) ⊎ ((other ≡ key) × (unwrap_or after 0 ≡ count))
put_or_same key other count before after is =
    elim (key == other) as (λ t. (key == other) ≡ t → after ≡ cond t (Some count) before →
    (unwrap_or after 0 ≡ unwrap_or before 0) ⊎ ((other ≡ key) × (unwrap_or after 0 ≡ count))) [
      | true ↦ λ same put. inr (sym (eqb-true key other same), ap (λ (o : Option ℕ). unwrap_or o 0) put)
      | false ↦ λ _ stays. inl (ap (λ (o : Option ℕ). unwrap_or o 0) stays)
    ] refl is
