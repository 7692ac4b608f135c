-- The test finds each wanted visit had, where each is.
use Rattle.std.proofs.Common.{◌≡◌, ℕ, ◌||◌, true, not, List, [], ◌∷◌, inl, inr, refl, sym, ap, subst, lt_irrefl}
use Rattle.std.proofs.lemmas.Bool.{cases_Bool, and_from, or_left, or_right}
use Rattle.ftc_serial.specs.Serial.{Entry, Visited, Given}
use Rattle.ftc_serial.specs.Take.{Outcome}
use Rattle.ftc_protocol.specs.Setting.{Setting}
use Rattle.ftc_protocol.specs.Visits.{Visits, In}
use Rattle.ftc_protocol.specs.Trace.{IsSomeVisit, Has, has_each, is_had}
use Rattle.ftc_protocol.proofs.Places.{IsSerial}
use Rattle.ftc_protocol.proofs.TraceLemmas.{before_last}
use Rattle.ftc_protocol.proofs.EarlierVisits.{visited_earlier}
use Rattle.ftc_protocol.proofs.UndoneList.{had_here}

module _ (c : Setting) (set wanted : Visits) where
  once : (older : List Entry) (k q : ℕ) (o : Outcome) → IsSerial c (Visited k q o ∷ older) → IsSomeVisit older k q → ⊥
  once older k q o is there = lt_irrefl k (visited_earlier c older k q is.0.0 is.1 is.0.1 k there)

  -- what is had behind an entry is had among the older ones
  older_had : (e : Entry) (older : List Entry) → IsSerial c (e ∷ older) → (j p : ℕ) →
      Has c.partitions (e ∷ older) set j p → Has c.partitions older set j p
  older_had (Given x bytes) older is j p has = record {
    changing = λ there. has.changing (inr there);
    other = λ not_changing q before. has.other (λ there. elim there [
      | inl here ↦ absurd here
      | inr below ↦
          not_changing below
    ]) q (inr before);
  }
  older_had (Visited k x o) older is j p has = record {
    changing = λ there. has.changing (inr there);
    other = λ not_changing q before. has.other
        (λ there. elim there [
          | inl here ↦ once older k x o is
              (subst (λ y. IsSomeVisit older y x) (sym here.0)
              (subst (λ y. IsSomeVisit older j y) (sym here.1) (before_last c.partitions older j q p before)))
          | inr below ↦ not_changing below
        ]) q (inr before);
  }

  pub each_has : (trace : List Entry) → IsSerial c trace →
      ((j p : ℕ) → In wanted j p → Has c.partitions trace set j p) → has_each c.partitions trace set wanted ≡ true
  each_has [] is had = refl
  each_has (Given x bytes ∷ older) is had =
      each_has older is.1 (λ j p want. older_had (Given x bytes) older is j p (had j p want))
  each_has (Visited k x o ∷ older) is had =
      and_from (not (wanted k x) || is_had c.partitions set older k x o) (has_each c.partitions older set wanted)
      (elim (cases_Bool (wanted k x)) [
        | inl want ↦ or_right (not (wanted k x)) (is_had c.partitions set older k x o)
            (had_here c.partitions set older k x o (had k x want) (once older k x o is))
        | inr none_wanted ↦ or_left (not (wanted k x)) (is_had c.partitions set older k x o) (ap not none_wanted)
      ])
      (each_has older is.1 (λ j p want. older_had (Visited k x o) older is j p (had j p want)))
