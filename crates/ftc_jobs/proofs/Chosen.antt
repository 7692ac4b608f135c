-- A job is legal exactly where it is the one that was found.
use Rattle.std.proofs.Common.{◌≡◌, ◌∙◌, ℕ, Bool, true, false, Option, Some, None, nat_eq, sym, ap}
use Rattle.std.specs.Prelude.{◌↔◌}
use Rattle.std.proofs.lemmas.Bool.{eq-eqb, eqb-true, true≢false}
use Rattle.std.proofs.lemmas.Option.{none-some, same_Some}

module _ (Fact : Type 0) where
  pub found_same : (found : Option ℕ) (one wanted : ℕ) → found ≡ Some one → (found ≡ Some wanted) ↔ Fact →
      (nat_eq one wanted ≡ true) ↔ Fact
  found_same found one wanted is says = (
    (λ test. says.0 (is ∙ ap (λ (n : ℕ). Some n) (eqb-true one wanted test))),
    (λ fact. eq-eqb one wanted (same_Some one wanted (sym is ∙ says.1 fact))),
  )

  pub found_none : {A : Type 0} (found : Option A) (wanted : A) → found ≡ None → (found ≡ Some wanted) ↔ Fact →
      (false ≡ true) ↔ Fact
  found_none found wanted none says = (
    (λ test. absurd (true≢false (sym test))),
    (λ fact. absurd (none-some wanted (sym none ∙ says.1 fact))),
  )

  -- a test that is false, of what the fact needs
  pub needed : (Part : Type 0) (test : Bool) → (test ≡ true) ↔ Part → test ≡ false → (Fact → Part) →
      (test ≡ true) ↔ Fact
  needed Part test says is part = (
    (λ so. absurd (true≢false (sym so ∙ is))),
    (λ fact. absurd (true≢false (sym (says.1 (part fact)) ∙ is))),
  )

  pub never : (Fact → ⊥) → (false ≡ true) ↔ Fact
  never isnt = ((λ test. absurd (true≢false (sym test))), (λ fact. absurd (isnt fact)))
