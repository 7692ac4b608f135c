-- The first partition at which a log is ahead, and what it says of the log's number there.
use Rattle.std.proofs.Common.{◌≡◌, ◌≤◌, ◌<◌, ◌+◌, ◌∙◌, ℕ, suc, zero, Bool, true, false, Some, None, List, refl, sym, ap}
use Rattle.std.proofs.Common.{cond, subst, arith, inl, inr}
use Rattle.std.specs.Prelude.{find}
use Rattle.std.specs.List.{range_with_len}
use Rattle.std.proofs.lemmas.Bool.{cases_lt}
use Rattle.ftc_base.specs.declared.limits.TheConstants.{MOST_PARTITIONS}
use Rattle.ftc_message.specs.Logged.{Logged}
use Rattle.ftc_server.specs.Waiting.{is_ahead_at, first_ahead}

none_from : (test : ℕ → Bool) (from count : ℕ) → ((k : ℕ) → k < from + count → test k ≡ false) →
    find test (range_with_len from count) ≡ None
none_from test from zero none = refl
none_from test from (suc n) none =
    ap (λ (b : Bool). cond b (Some from) (find test (range_with_len (from + 1) n))) (none from (omega arith))
    ∙ none_from test (from + 1) n (λ k within. none k (omega (arith, within)))

first_from : (test : ℕ → Bool) (from count p : ℕ) → from ≤ p → p < from + count → test p ≡ true →
    ((k : ℕ) → k < p → test k ≡ false) → find test (range_with_len from count) ≡ Some p
first_from test from zero p after within passes none = absurd (omega (arith, after, within))
first_from test from (suc n) p after within passes none = elim (cases_lt from p) [
  | inl before ↦
      ap (λ (b : Bool). cond b (Some from) (find test (range_with_len (from + 1) n))) (none from before)
      ∙ first_from test (from + 1) n p (omega (arith, before)) (omega (arith, within)) passes none
  | inr behind ↦
      let same : p ≡ from = omega (arith, after, behind) in
      subst (λ (q : ℕ). find test (range_with_len from (suc n)) ≡ Some q) (sym same)
      (ap (λ (b : Bool). cond b (Some from) (find test (range_with_len (from + 1) n))) (ap test (sym same) ∙ passes))
]

pub ahead_first : (vector : List ℕ) (log : Logged) (p : ℕ) → p < MOST_PARTITIONS → is_ahead_at vector log p ≡ true →
    ((k : ℕ) → k < p → is_ahead_at vector log k ≡ false) → first_ahead vector log ≡ Some p
unfolding first_ahead
ahead_first vector log p within is none =
    first_from (is_ahead_at vector log) 0 MOST_PARTITIONS p (omega arith) (omega (arith, within)) is none

pub nowhere_ahead : (vector : List ℕ) (log : Logged)
    → ((k : ℕ) → k < MOST_PARTITIONS → is_ahead_at vector log k ≡ false) → first_ahead vector log ≡ None
unfolding first_ahead
nowhere_ahead vector log none =
    none_from (is_ahead_at vector log) 0 MOST_PARTITIONS (λ k within. none k (omega (arith, within)))

-- what is found passes, and lies within
passes_from : (test : ℕ → Bool) (from count p : ℕ) → find test (range_with_len from count) ≡ Some p →
    (test p ≡ true) × (p < from + count)
passes_from test from zero p is = absurd cc
passes_from test from (suc n) p is =
    elim (test from) as (λ b. test from ≡ b → cond b (Some from) (find test (range_with_len (from + 1) n)) ≡ Some p →
    (test p ≡ true) × (p < from + suc n)) [
      | true ↦ λ passes same. let e : from ≡ p = cc in
          (subst (λ (q : ℕ). test q ≡ true) e passes, omega (arith, e))
      | false ↦ λ fails same. let later = passes_from test (from + 1) n p same in (later.0, omega (arith, later.1))
    ] refl is

pub first_passes : (vector : List ℕ) (log : Logged) (p : ℕ) → first_ahead vector log ≡ Some p →
    (is_ahead_at vector log p ≡ true) × (p < MOST_PARTITIONS)
unfolding first_ahead
first_passes vector log p is =
    let found = passes_from (is_ahead_at vector log) 0 MOST_PARTITIONS p is in
    (found.0, omega (arith, found.1))

passes_none : (test : ℕ → Bool) (from count : ℕ) → find test (range_with_len from count) ≡ None
    → (k : ℕ) → from ≤ k → k < from + count → test k ≡ false
passes_none test from zero none k after within = absurd (omega (arith, after, within))
passes_none test from (suc n) none k after within =
    elim (test from) as (λ b. test from ≡ b → cond b (Some from) (find test (range_with_len (from + 1) n)) ≡ None →
    test k ≡ false) [
      | true ↦ λ passes same. absurd cc
      | false ↦ λ fails same. elim (cases_lt from k) [
        | inl before ↦ passes_none test (from + 1) n same k (omega (arith, before)) (omega (arith, within))
        | inr behind ↦ let e : from ≡ k = omega (arith, after, behind) in ap test (sym e) ∙ fails
      ]
    ] refl none

pub none_passes : (vector : List ℕ) (log : Logged) → first_ahead vector log ≡ None → (k : ℕ) → k < MOST_PARTITIONS →
    is_ahead_at vector log k ≡ false
unfolding first_ahead
none_passes vector log none k within =
    passes_none (is_ahead_at vector log) 0 MOST_PARTITIONS none k (omega arith) (omega (arith, within))
