-- Distances on the ring, and the nearest live servers.
use Rattle.std.proofs.Common.{◌≡◌, ◌≢◌, ℕ, ◌+◌, ◌-◌, ◌<◌, ◌≤◌, ◌==◌, if◌then◌else◌, Bool, true, false, ◌⊎◌, inl, inr}
use Rattle.std.proofs.Common.{refl, sym, ◌∙◌, arith, nat_le, leb-true, leb-false, eqb-true, Option, Some, None}
use Rattle.std.proofs.Common.{unwrap_or}
use Rattle.std.proofs.lemmas.Bool.{true≢false, eqb-false, cases_eq, false_from_ne_true}
use Rattle.ftc_ring.specs.Ring.{apart, next_of, previous_of}
use Rattle.ftc_ring.specs.Live.{live_after_of, live_before_of, IsLiveAfter, IsLiveBefore}
use Rattle.ftc_ring.proofs.Nearest.{after_found, after_none, before_found, before_none}

-- server b lies behind a by this distance: the sum is b, or wraps once
abbrev pub Apart : ℕ → ℕ → ℕ → ℕ → Type 0
Apart n a b d = ((a ≤ b) × (d + a ≡ b)) ⊎ ((b < a) × (d + a ≡ b + n))

pub apart_cases : (n a b : ℕ) → a < n → b < n → Apart n a b (apart n a b)
apart_cases n a b la lb = elim (nat_le a b) as (λ t. nat_le a b ≡ t → Apart n a b (if t then b - a else b + n - a)) [
  | true ↦ λ is. let le : a ≤ b = leb-true a b is in inl (le, omega arith)
  | false ↦ λ is. let gt : b < a = leb-false a b is in inr (gt, omega arith)
] refl

pub apart_after : (n a : ℕ) → a < n → Apart n a (next_of n a) 1 × (next_of n a < n) ⊎ (n ≡ 1)
apart_after n a la = elim (a + 1 == n) as (λ t. a + 1 == n ≡ t →
    (let b = if t then 0 else a + 1 in Apart n a b 1 × (b < n) ⊎ (n ≡ 1))) [
      | true ↦ λ is. let e : a + 1 ≡ n = eqb-true (a + 1) n is in
          elim (cases_eq n 1) [ inl one ↦ inr one | inr more ↦ inl (inr (omega arith, omega arith), omega arith) ]
      | false ↦ λ is. let e : a + 1 ≡ n → ⊥ = eqb-false (a + 1) n is in
          inl (inl (omega arith, omega arith), omega arith)
    ] refl

pub apart_before : (n a : ℕ) → a < n → Apart n (previous_of n a) a 1 × (previous_of n a < n) ⊎ (n ≡ 1)
apart_before n a la = elim (a == 0) as (λ t. a == 0 ≡ t →
    (let b = if t then n - 1 else a - 1 in Apart n b a 1 × (b < n) ⊎ (n ≡ 1))) [
      | true ↦ λ is. let e : a ≡ 0 =
          eqb-true a 0 is in elim (cases_eq n 1) [
            | inl one ↦ inr one
            | inr more ↦
                inl (inr (omega arith, omega arith), omega arith)
          ]
      | false ↦ λ is. let e : a ≡ 0 → ⊥ = eqb-false a 0 is in inl (inl (omega arith, omega arith), omega arith)
    ] refl

-- t is the nearest live server after k
pub record IsNextLive (n : ℕ) (up : ℕ → Bool) (k t : ℕ) : Type 0 where
  pub below : t < n
  pub live : up t ≡ true
  pub after : 0 < apart n k t
  pub between : (i : ℕ) → i < n → 0 < apart n k i → apart n k i < apart n k t → up i ≡ false

pub record IsLastLive (n : ℕ) (up : ℕ → Bool) (k r : ℕ) : Type 0 where
  pub below : r < n
  pub live : up r ≡ true
  pub before : 0 < apart n r k
  pub between : (i : ℕ) → i < n → 0 < apart n i k → apart n i k < apart n r k → up i ≡ false

module _ (n : ℕ) (up : ℕ → Bool) (k : ℕ) (inside : k < n) (y : ℕ) (y_below : y < n) (y_live : up y
    ≡ true) (other : y ≢ k) where
  next_from : (t : ℕ) → IsLiveAfter n up k t → IsNextLive n up k t
  next_from t is =
      let kt = apart_cases n k t inside is.within in
      record {
        below = is.within;
        live = is.up;
        after = let ne = is.other in omega arith;
        between = λ i il pos less. false_from_ne_true (up i) (λ live.
            let ki = apart_cases n k i inside il in
            let ne : i ≢ k = λ e. let same : k ≡ i = sym e in absurd (omega arith) in
            let le = is.nearest i il ne live in absurd (omega arith));
      }

  last_from : (r : ℕ) → IsLiveBefore n up k r → IsLastLive n up k r
  last_from r is =
      let rk = apart_cases n r k is.within inside in
      record {
        below = is.within;
        live = is.up;
        before = let ne = is.other in omega arith;
        between = λ i il pos less. false_from_ne_true (up i) (λ live.
            let ik = apart_cases n i k il inside in
            let ne : i ≢ k = λ e. let same : k ≡ i = sym e in absurd (omega arith) in
            let le = is.nearest i il ne live in absurd (omega arith));
      }

  next_some : (o : Option ℕ) → live_after_of n up k ≡ o → IsNextLive n up k (unwrap_or o k)
  next_some None is = absurd (true≢false (sym y_live ∙ (after_none n up k inside).0 is y y_below other))
  next_some (Some t) is = next_from t ((after_found n up k t inside).0 is)

  last_some : (o : Option ℕ) → live_before_of n up k ≡ o → IsLastLive n up k (unwrap_or o k)
  last_some None is = absurd (true≢false (sym y_live ∙ (before_none n up k inside).0 is y y_below other))
  last_some (Some r) is = last_from r ((before_found n up k r inside).0 is)

  pub next_live : IsNextLive n up k (unwrap_or (live_after_of n up k) k)
  next_live = next_some (live_after_of n up k) refl

  pub last_live : IsLastLive n up k (unwrap_or (live_before_of n up k) k)
  last_live = last_some (live_before_of n up k) refl
