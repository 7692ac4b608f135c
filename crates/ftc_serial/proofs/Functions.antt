-- Functions that are changed at one place.
use Rattle.std.proofs.Common.{◌≡◌, ◌≢◌, ℕ, ◌==◌, if◌then◌else◌, true, false, refl, eqb-true, List, [], ◌∷◌, inl, inr}
use Rattle.std.specs.List.{AllByRecursion}
use Rattle.std.proofs.lemmas.Bool.{eqb-false}
use Rattle.ftc_serial.specs.Words.{AnyOf, with_at}

-- a value of a function that was changed at one place, by cases
pub with_at_cases : {A : Type 0} (P : A → Type 0) (f : ℕ → A) (k : ℕ) (v : A) (q : ℕ) → (q ≡ k → P v) →
    ((q ≡ k → ⊥) → P (f q)) → P (with_at f k v q)
with_at_cases P f k v q here elsewhere =
    elim (q == k) as (λ b. q == k ≡ b → P (if b then v else f q)) [
      | true ↦ λ e. here (eqb-true q k e)
      | false ↦ λ e. elsewhere (eqb-false q k e)
    ] refl

-- the same of two functions that were changed there
pub with_at_both : {A : Type 0} (R : A → A → Type 0) (f g : ℕ → A) (k : ℕ) (v w : A) (q : ℕ) → (q ≡ k → R v w) →
    ((q ≡ k → ⊥) → R (f q) (g q)) → R (with_at f k v q) (with_at g k w q)
with_at_both R f g k v w q here elsewhere =
    elim (q == k) as (λ b. q == k ≡ b → R (if b then v else f q) (if b then w else g q)) [
      | true ↦ λ e. here (eqb-true q k e)
      | false ↦ λ e. elsewhere (eqb-false q k e)
    ] refl

-- at its own place a changed function has what it was given, and elsewhere what it had
pub with_at_here : {A : Type 0} (f : ℕ → A) (k : ℕ) (v : A) → with_at f k v k ≡ v
with_at_here {A} f k v = with_at_cases (λ (x : A). x ≡ v) f k v k (λ _. refl) (λ differs. absurd (differs refl))

pub with_at_elsewhere : {A : Type 0} (f : ℕ → A) (k : ℕ) (v : A) (q : ℕ) → q ≢ k → with_at f k v q ≡ f q
with_at_elsewhere {A} f k v q differs =
    with_at_cases (λ (x : A). x ≡ f q) f k v q (λ same. absurd (differs same)) (λ _. refl)

-- one that has P and, as each, Q
pub any_of_all : {A R : Type 0} (P Q : A → Type 0) (xs : List A) → ((x : A) → P x → Q x → R) → AnyOf P xs →
    AllByRecursion Q xs → R
any_of_all P Q [] f a all = absurd a
any_of_all P Q (x ∷ xs) f a all = elim a [ inl p ↦ f x p all.0 | inr b ↦ any_of_all P Q xs f b all.1 ]
