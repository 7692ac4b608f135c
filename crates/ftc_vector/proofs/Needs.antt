-- What is ready, what is covered, and what follows from the one for the other.
use Rattle.std.proofs.Common.{◌≡◌, ◌<◌, ◌≤◌, ◌+◌, ℕ, Bool, true, false, List, Option, Some, None, refl, sym, ◌∙◌, arith}
use Rattle.std.proofs.Common.{if◌then◌else◌}
use Rattle.ftc_base.specs.Sets.{has}
use Rattle.ftc_base.specs.declared.limits.TheConstants.{MOST_PARTITIONS}
use Rattle.ftc_vector.specs.Vector.{number_at, mark_at, raised, marks_of, need_at, need_of}
use Rattle.ftc_vector.specs.Order.{IsLogReady, IsCovered, IsBelow}
use Rattle.ftc_vector.proofs.Partitions.{get_or-by_partition}

pub number_at-raised : (a : List ℕ) (changed p : ℕ) → p < MOST_PARTITIONS →
    number_at (raised a changed) p ≡ (if has changed p then number_at a p + 1 else number_at a p)
number_at-raised a changed p within = get_or-by_partition _ p 0 within

pub mark_at-marks_of : (a : List ℕ) (touched p : ℕ) → p < MOST_PARTITIONS →
    mark_at (marks_of a touched) p ≡ (if has touched p then Some (number_at a p) else None)
mark_at-marks_of a touched p within = get_or-by_partition _ p None within

pub mark_at-need_of : (before : List (Option ℕ)) (changed p : ℕ) → p < MOST_PARTITIONS →
    mark_at (need_of before changed) p ≡ need_at (mark_at before p) (has changed p)
mark_at-need_of before changed p within = get_or-by_partition _ p None within

pub covered_above : (a b : List ℕ) (need : List (Option ℕ)) → IsBelow a b → IsCovered a need → IsCovered b need
covered_above a b need below covered =
    record {
      reached = λ p least within marked. omega (
        arith,
        below.each p within,
        covered.reached p least within marked,
      );
    }

one_more : (b : Bool) (n : ℕ) → n ≤ (if b then n + 1 else n)
one_more true n = omega arith
one_more false n = omega arith

pub below_raised : (a : List ℕ) (changed : ℕ) → IsBelow a (raised a changed)
below_raised a changed = record {
  each = λ p within. rw (number_at-raised a changed p within)
      (one_more (has changed p) (number_at a p));
}

-- the number that a mark taken from a vector carries is the vector's
pub carried_is : (b : Bool) (n carried : ℕ) → (if b then Some n else None) ≡ Some carried → n ≡ carried
carried_is true n carried is = cc
carried_is false n carried is = cc

pub own_ready : (a : List ℕ) (touched changed : ℕ) → IsLogReady a (marks_of a touched) changed
own_ready a touched changed =
    let is : (p carried : ℕ) → p < MOST_PARTITIONS → mark_at (marks_of a touched) p ≡ Some carried →
    number_at a p ≡ carried =
    λ p carried within marked. carried_is (has touched p) (number_at a p) carried
    (sym (mark_at-marks_of a touched p within) ∙ marked) in
    record {
      changed_equal = λ p carried within marked _. is p carried within marked;
      others_reached = λ p carried within marked _. omega (arith, is p carried within marked);
    }

-- at one partition
applied_at : (mark : Option ℕ) (changed : Bool) (n least : ℕ) →
    ((carried : ℕ) → mark ≡ Some carried → changed ≡ true → n ≡ carried) →
    ((carried : ℕ) → mark ≡ Some carried → changed ≡ false → carried ≤ n) → need_at mark changed ≡ Some least →
    least ≤ (if changed then n + 1 else n)
applied_at None changed n least equal reached needed = cc
applied_at (Some carried) true n least equal reached needed =
    let is : carried + 1 ≡ least = cc in
    omega (arith, equal carried refl refl)
applied_at (Some carried) false n least equal reached needed =
    let is : carried ≡ least = cc in
    omega (arith, reached carried refl refl)

pub applied_covered : (a : List ℕ) (before : List (Option ℕ)) (changed : ℕ) → IsLogReady a before changed →
    IsCovered (raised a changed) (need_of before changed)
applied_covered a before changed ready = record {
  reached = λ p least within marked.
      rw (number_at-raised a changed p within)
      (applied_at (mark_at before p) (has changed p) (number_at a p) least
      (λ carried. ready.changed_equal p carried within)
      (λ carried. ready.others_reached p carried within) (sym (mark_at-need_of before changed p within) ∙ marked));
}

pub covered_once : (a : List ℕ) (before : List (Option ℕ)) (changed p carried : ℕ) → p < MOST_PARTITIONS →
    mark_at before p ≡ Some carried → has changed p ≡ true → IsCovered a (need_of before changed) →
    ¬ IsLogReady a before changed
covered_once a before changed p carried within marked is covered ready =
    let needed : mark_at (need_of before changed) p ≡ Some (carried + 1) =
    mark_at-need_of before changed p within ∙ rw (marked, is) refl in
    omega (arith, covered.reached p (carried + 1) within needed, ready.changed_equal p carried within marked is)
