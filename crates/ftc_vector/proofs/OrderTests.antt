-- What the tests of order say.
use Rattle.std.proofs.Common.{◌≡◌, ◌<◌, ◌≤◌, ◌+◌, ℕ, zero, suc, Bool, true, false, List, Option, Some, None, refl, sym}
use Rattle.std.proofs.Common.{ap, ◌∙◌, arith, inl, inr}
use Rattle.std.specs.Prelude.{◌↔◌}
use Rattle.std.specs.List.{list_all, range_with_len}
use Rattle.std.proofs.lemmas.Bool.{leb-true, le-leb, eqb-true, eq-eqb, and_parts, and_from, cases_eq}
use Rattle.std.proofs.lemmas.Bool.{false_from_ne_true}
use Rattle.ftc_base.specs.Sets.{has}
use Rattle.ftc_base.specs.declared.limits.TheConstants.{MOST_PARTITIONS}
use Rattle.ftc_vector.specs.Vector.{number_at, mark_at, need_at, need_of}
use Rattle.ftc_vector.specs.Order.{IsLogReady, IsCovered, allows, is_log_ready, reaches, covers}
use Rattle.ftc_vector.proofs.Needs.{mark_at-need_of}

pub all_in : (p : ℕ → Bool) (from count : ℕ) → list_all p (range_with_len from count) ≡ true → (k : ℕ) → from ≤ k →
    k < from + count → p k ≡ true
all_in p from zero all k low high = absurd (omega arith)
all_in p from (suc count) all k low high =
    let parts = and_parts (p from) (list_all p (range_with_len (from + 1) count)) all in
    elim (cases_eq k from) [
      | inl at ↦ ap p at ∙ parts.0
      | inr differs ↦ all_in p (from + 1) count parts.1 k (omega arith) (omega arith)
    ]

pub all_of : (p : ℕ → Bool) (from count : ℕ) → ((k : ℕ) → from ≤ k → k < from + count → p k ≡ true) →
    list_all p (range_with_len from count) ≡ true
all_of p from zero each = refl
all_of p from (suc count) each =
    and_from (p from) (list_all p (range_with_len (from + 1) count)) (each from (omega arith) (omega arith))
    (all_of p (from + 1) count (λ k low high. each k (omega arith) (omega arith)))

reached : (number least : ℕ) (mark : Option ℕ) → mark ≡ Some least → reaches number mark ≡ true → least ≤ number
reached number least None is there = absurd cc
reached number least (Some needed) is there = let same : needed ≡ least =
    cc in omega (arith, leb-true needed number there)

reaches_all : (number : ℕ) (mark : Option ℕ) → ((least : ℕ) → mark ≡ Some least → least ≤ number) →
    reaches number mark ≡ true
reaches_all number None each = refl
reaches_all number (Some least) each = le-leb least number (each least refl)

pub covered : (vector : List ℕ) (need : List (Option ℕ)) → (covers vector need ≡ true) ↔ IsCovered vector need
unfolding covers
covered vector need =
    let test : ℕ → Bool = λ p. reaches (number_at vector p) (mark_at need p) in (
      λ all. record {
        reached = λ p least within marked. reached (number_at vector p) least (mark_at need p) marked
            (all_in test 0 MOST_PARTITIONS all p (omega arith) (omega (arith, within)));
      },
      λ is. all_of test 0 MOST_PARTITIONS
          (λ p low high. reaches_all (number_at vector p) (mark_at need p)
          (λ least marked. is.reached p least (omega (arith, high)) marked)),
    )

-- the need of a log, place by place
pub covers_from : (vector : List ℕ) (before : List (Option ℕ)) (changed : ℕ) →
    ((k : ℕ) → k < MOST_PARTITIONS → reaches (number_at vector k) (need_at (mark_at before k) (has changed k)) ≡ true) →
    covers vector (need_of before changed) ≡ true
unfolding covers
covers_from vector before changed each =
    all_of (λ p. reaches (number_at vector p) (mark_at (need_of before changed) p)) 0 MOST_PARTITIONS (λ p low high.
    let within : p < MOST_PARTITIONS = omega (arith, high) in
    ap (reaches (number_at vector p)) (mark_at-need_of before changed p within) ∙ each p within)

false_is_not : false ≡ true → ⊥
false_is_not clash = cc

-- one partition that isn't reached
pub not_covered : (vector : List ℕ) (before : List (Option ℕ)) (changed k : ℕ) → k < MOST_PARTITIONS →
    reaches (number_at vector k) (need_at (mark_at before k) (has changed k)) ≡ false →
    covers vector (need_of before changed) ≡ false
unfolding covers
not_covered vector before changed k within fails =
    false_from_ne_true (list_all (λ p. reaches (number_at vector p) (mark_at (need_of before changed) p))
    (range_with_len 0 MOST_PARTITIONS)) (λ all.
    let there = all_in (λ p. reaches (number_at vector p) (mark_at (need_of before changed) p)) 0 MOST_PARTITIONS all k
    (omega arith) (omega (arith, within)) in
    false_is_not (sym fails ∙ ap (reaches (number_at vector k))
    (sym (mark_at-need_of before changed k within)) ∙ there))

-- at one partition
allowed_equal : (number carried : ℕ) (mark : Option ℕ) (changed : Bool) → mark ≡ Some carried → changed ≡ true
    → allows number mark changed ≡ true → number ≡ carried
allowed_equal number carried None changed is true_ allowed = absurd cc
allowed_equal number carried (Some other) true is true_ allowed =
    let same : other ≡ carried = cc in eqb-true number other allowed ∙ same
allowed_equal number carried (Some other) false is true_ allowed = absurd cc

allowed_reached : (number carried : ℕ) (mark : Option ℕ) (changed : Bool) → mark ≡ Some carried → changed ≡ false
    → allows number mark changed ≡ true → carried ≤ number
allowed_reached number carried None changed is false_ allowed = absurd cc
allowed_reached number carried (Some other) true is false_ allowed = absurd cc
allowed_reached number carried (Some other) false is false_ allowed =
    let same : other ≡ carried = cc in omega (arith, leb-true other number allowed)

allows_all : (number : ℕ) (mark : Option ℕ) (changed : Bool)
    → ((carried : ℕ) → mark ≡ Some carried → changed ≡ true → number ≡ carried)
    → ((carried : ℕ) → mark ≡ Some carried → changed ≡ false → carried ≤ number) → allows number mark changed ≡ true
allows_all number None changed equal reached = refl
allows_all number (Some carried) true equal reached = eq-eqb number carried (equal carried refl refl)
allows_all number (Some carried) false equal reached = le-leb carried number (reached carried refl refl)

pub ready : (vector : List ℕ) (before : List (Option ℕ)) (changed : ℕ)
    → (is_log_ready vector before changed ≡ true) ↔ IsLogReady vector before changed
unfolding is_log_ready
ready vector before changed =
    let test : ℕ → Bool = λ p. allows (number_at vector p) (mark_at before p) (has changed p) in (
      λ all. record {
        changed_equal = λ p carried within marked is. allowed_equal (number_at vector p) carried (mark_at before p)
            (has changed p) marked is
            (all_in test 0 MOST_PARTITIONS all p (omega arith) (omega (arith, within)));
        others_reached = λ p carried within marked is. allowed_reached (number_at vector p) carried (mark_at before p)
            (has changed p) marked is
            (all_in test 0 MOST_PARTITIONS all p (omega arith) (omega (arith, within)));
      },
      λ is. all_of test 0 MOST_PARTITIONS
          (λ p low high. allows_all (number_at vector p) (mark_at before p) (has changed p)
          (λ carried marked at. is.changed_equal p carried (omega (arith, high)) marked at)
          (λ carried marked at. is.others_reached p carried (omega (arith, high)) marked at)),
    )
