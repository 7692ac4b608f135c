-- The first server that passes a test, among those that stand one behind the other at rising distances.
use Rattle.std.proofs.Common.{◌≡◌, ℕ, zero, suc, ◌+◌, ◌<◌, ◌≤◌, Bool, true, false, cond, Option, Some, None, List, inl}
use Rattle.std.proofs.Common.{inr, refl, sym, ap, ◌∙◌, arith, subst}
use Rattle.std.specs.List.{find, range_with_len}
use Rattle.std.proofs.Math.Nat.{eq-or-lt_of_le}
use Rattle.std.proofs.lemmas.Bool.{true≢false}
use Rattle.ftc_ring.specs.Ring.{apart, next_of, previous_of, along, against}
use Rattle.ftc_ring.proofs.Geometry.{next_within, previous_within, next_farther, previous_farther, same_end, same_start}

-- server k, at a distance from low up to below high, passes the test, and no server from low on that is nearer does
pub record IsFound (n : ℕ) (test : ℕ → Bool) (distance : ℕ → ℕ) (low high k : ℕ) : Type 0 where
  pub within : k < n
  pub passes : test k ≡ true
  pub above : low ≤ distance k
  pub below : distance k < high
  pub first : (x : ℕ) → x < n → low ≤ distance x → distance x < distance k → test x ≡ false

-- no server from low up to below high passes the test
pub record IsNowhere (n : ℕ) (test : ℕ → Bool) (distance : ℕ → ℕ) (low high : ℕ) : Type 0 where
  pub each : (x : ℕ) → x < n → low ≤ distance x → distance x < high → test x ≡ false

abbrev pub Tells : ℕ → (ℕ → Bool) → (ℕ → ℕ) → ℕ → ℕ → Option ℕ → Type 0
Tells n test distance low high None = IsNowhere n test distance low high
Tells n test distance low high (Some k) = IsFound n test distance low high k

at_or_later : (test : ℕ → Bool) (low d cur x : ℕ) → low ≤ d → (low ≡ d → x ≡ cur) → test cur ≡ false →
    (low + 1 ≤ d → test x ≡ false) → test x ≡ false
at_or_later test low d cur x above alone fails later = elim (eq-or-lt_of_le above) [
  | inl at ↦ subst (λ y. test y ≡ false) (sym (alone at)) fails
  | inr up ↦ later (omega arith)
]

-- the server at the lowest distance doesn't pass
one_later : (n : ℕ) (test : ℕ → Bool) (distance : ℕ → ℕ) (low more cur : ℕ) (r : Option ℕ) →
    ((x : ℕ) → x < n → low ≡ distance x → x ≡ cur) → test cur ≡ false →
    Tells n test distance (low + 1) (low + 1 + more) r → Tells n test distance low (low + suc more) r
one_later n test distance low more cur None alone fails tells = record {
  each = λ x lx above below. at_or_later test low (distance x) cur x above (alone x lx) fails
      (λ up. tells.each x lx up (omega arith));
}
one_later n test distance low more cur (Some k) alone fails tells = record {
  within = tells.within;
  passes = tells.passes;
  above = let l = tells.above in omega arith;
  below = let h = tells.below in omega arith;
  first = λ x lx above below. at_or_later test low (distance x) cur x above (alone x lx) fails
      (λ up. tells.first x lx up below);
}

-- one more server at the front of the list
one_more : (n : ℕ) (test : ℕ → Bool) (distance : ℕ → ℕ) (low more cur : ℕ) (later : List ℕ) → cur < n →
    distance cur ≡ low → ((x : ℕ) → x < n → low ≡ distance x → x ≡ cur) →
    Tells n test distance (low + 1) (low + 1 + more) (find test later)
    → Tells n test distance low (low + suc more) (cond (test cur) (Some cur) (find test later))
one_more n test distance low more cur later lc at alone tells =
    elim (test cur) as (λ t. test cur ≡ t →
    Tells n test distance low (low + suc more) (cond t (Some cur) (find test later))) [
      | true ↦ λ is. record {
        within = lc;
        passes = is;
        above = omega arith;
        below = omega arith;
        first = λ x lx above below. absurd (omega arith);
      }
      | false ↦ λ is. one_later n test distance low more cur (find test later) alone is tells
    ] refl

pub find_along : (n j : ℕ) (test : ℕ → Bool) (low more cur : ℕ) → j < n → cur < n → (0 < more → apart n j cur ≡ low) →
    low + more ≤ n → Tells n test (apart n j) low (low + more) (find test (along n more cur))
find_along n j test low zero cur lj lc at few = record { each = λ x lx above below. absurd (omega arith) }
find_along n j test low (suc more) cur lj lc at few =
    let here : apart n j cur ≡ low = at (omega arith) in
    one_more n test (apart n j) low more cur (along n more (next_of n cur)) lc here
    (λ x lx is. same_end n j x cur lj lx lc (sym is ∙ sym here))
    (find_along n j test (low + 1) more (next_of n cur) lj (next_within n cur lc)
    (λ some. next_farther n j cur lj lc (omega arith) ∙ ap (λ d. d + 1) here) (omega arith))

pub find_against : (n j : ℕ) (test : ℕ → Bool) (low more cur : ℕ) → j < n → cur < n → (0 < more → apart n cur j ≡ low) →
    low + more ≤ n → Tells n test (λ x. apart n x j) low (low + more) (find test (against n more cur))
find_against n j test low zero cur lj lc at few = record { each = λ x lx above below. absurd (omega arith) }
find_against n j test low (suc more) cur lj lc at few =
    let here : apart n cur j ≡ low = at (omega arith) in
    one_more n test (λ x. apart n x j) low more cur (against n more (previous_of n cur)) lc here
    (λ x lx is. same_start n x cur j lx lc lj (sym is ∙ sym here))
    (find_against n j test (low + 1) more (previous_of n cur) lj (previous_within n cur lc)
    (λ some. previous_farther n cur j lc lj (omega arith) ∙ ap (λ d. d + 1) here) (omega arith))

pub find_rising : (n : ℕ) (test : ℕ → Bool) (low more : ℕ) → low + more ≤ n →
    Tells n test (λ x. x) low (low + more) (find test (range_with_len low more))
find_rising n test low zero few = record { each = λ x lx above below. absurd (omega arith) }
find_rising n test low (suc more) few =
    one_more n test (λ x. x) low more low (range_with_len (low + 1) more) (omega arith) refl (λ x lx is. sym is)
    (find_rising n test (low + 1) more (omega arith))

-- a server that is found is the answer, where distances tell servers apart
pub is_answer : (n : ℕ) (test : ℕ → Bool) (distance : ℕ → ℕ) (low high k : ℕ) (r : Option ℕ) →
    ((x y : ℕ) → x < n → y < n → distance x ≡ distance y → x ≡ y) → Tells n test distance low high r →
    IsFound n test distance low high k → r ≡ Some k
is_answer n test distance low high k None alone tells found =
    absurd (true≢false (sym found.passes ∙ tells.each k found.within found.above found.below))
is_answer n test distance low high k (Some x) alone tells found =
    let not_before : distance k < distance x → ⊥ =
    λ less. true≢false (sym found.passes ∙ tells.first k found.within found.above less) in
    let not_behind : distance x < distance k → ⊥ =
    λ less. true≢false (sym tells.passes ∙ found.first x tells.within tells.above less) in
    ap Some (alone x k tells.within found.within (omega arith))

pub is_none_answer : (n : ℕ) (test : ℕ → Bool) (distance : ℕ → ℕ) (low high : ℕ) (r : Option ℕ) →
    Tells n test distance low high r → IsNowhere n test distance low high → r ≡ None
is_none_answer n test distance low high None tells nowhere = refl
is_none_answer n test distance low high (Some x) tells nowhere =
    absurd (true≢false (sym tells.passes ∙ nowhere.each x tells.within tells.above tells.below))
