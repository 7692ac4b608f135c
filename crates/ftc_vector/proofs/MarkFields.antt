-- Marks as numbers and flags: what reading, setting and comparing the fields says of the marks.
use Rattle.std.proofs.Common.{◌≡◌, ◌<◌, ◌∙◌, ◌^◌, ℕ, Bool, true, false, List, Option, Some, None, length, max, refl}
use Rattle.std.proofs.Common.{sym, ap, inl, inr, arith, ◌+◌, replicate}
use Rattle.std.specs.Prelude.{slice_set, slice_index_or, nat_eq, map, is_some, unwrap_or, if◌then◌else◌}
use Rattle.std.specs.Bool.{Decides}
use Rattle.std.specs.Cmp.{unsigned_Decides, booleans_Decides}
use Rattle.std.proofs.Math.Bool.{beq}
use Rattle.std.specs.Cmp.Lexicographic.{pointwise, pointwise_decides}
use Rattle.std.specs.Option.{option_eq}
use Rattle.std.proofs.lemmas.Bool.{cases_eq, cases_lt, false_from_ne_true}
use Rattle.std.proofs.lemmas.List.{length-set, get_or-set_same, get_or-set_other, get_or_past, get_or-replicate}
use Rattle.std.proofs.lemmas.List.{length-replicate}
use Rattle.ftc_base.specs.declared.limits.TheConstants.{MOST_PARTITIONS}
use Rattle.ftc_vector.specs.Vector.{number_at, mark_at, AreMarks, IsEnd}
use Rattle.ftc_vector.specs.Marked.{mark_in, marks_in, AreMarked, numbers_again, flags_again}
use Rattle.ftc_vector.proofs.Partitions.{length-by_partition, get_or-by_partition, by_partition-from}
use Rattle.ftc_vector.proofs.Needs.{carried_is}

pub mark_there : (numbers : List ℕ) (marked : List Bool) (partition : ℕ) → partition < MOST_PARTITIONS
    → mark_at (marks_in numbers marked) partition ≡ mark_in numbers marked partition
mark_there numbers marked partition within = get_or-by_partition (mark_in numbers marked) partition None within

pub marks_are : (numbers : List ℕ) (marked : List Bool) (end : ℕ) → AreMarked numbers marked end
    → AreMarks (marks_in numbers marked)
marks_are numbers marked end are = record {
  size = length-by_partition (mark_in numbers marked);
  bounds = λ p number is.
      elim (cases_lt p MOST_PARTITIONS) [
        | inl within ↦ omega (
          arith,
          are.bounds p,
          carried_is (slice_index_or marked p false) (number_at numbers p) number
              (sym (mark_there numbers marked p within) ∙ is),
        )
        | inr past ↦ let none : None ≡ Some number =
            sym (get_or_past (marks_in numbers marked) p None
            (omega (arith, past, length-by_partition (mark_in numbers marked)))) ∙ is in absurd cc
      ];
}

pub marks_set : (numbers : List ℕ) (marked : List Bool) (end partition number : ℕ) → AreMarked numbers marked end
    → partition < MOST_PARTITIONS
    → marks_in (slice_set numbers partition number) (slice_set marked partition true)
    ≡ slice_set (marks_in numbers marked) partition (Some number)
marks_set numbers marked end partition number are within =
    let size : length (marks_in numbers marked) ≡ MOST_PARTITIONS = length-by_partition (mark_in numbers marked) in
    sym (by_partition-from (mark_in (slice_set numbers partition number) (slice_set marked partition true))
    (slice_set (marks_in numbers marked) partition (Some number)) None
    (length-set (marks_in numbers marked) partition (Some number) ∙ size)
    (λ k before.
    elim (cases_eq k partition) [
      | inl same ↦ rw (
        same,
        get_or-set_same (marks_in numbers marked) partition (Some number) None (omega (arith, size, within)),
        get_or-set_same marked partition true false (omega (arith, are.flag_size, within)),
        get_or-set_same numbers partition number 0 (omega (arith, are.size, within)),
      ) refl
      | inr differs ↦ rw (
        get_or-set_other (marks_in numbers marked) partition k (Some number) None differs,
        get_or-set_other marked partition k true false differs,
        get_or-set_other numbers partition k number 0 differs,
      ) (mark_there numbers marked k before)
    ]))

pub mark_where : (numbers : List ℕ) (marked : List Bool) (partition : ℕ) → partition < MOST_PARTITIONS
    → slice_index_or marked partition false ≡ true →
    Some (number_at numbers partition) ≡ mark_at (marks_in numbers marked) partition
mark_where numbers marked partition within is = rw (mark_there numbers marked partition within, is) refl

pub mark_nowhere : (numbers : List ℕ) (marked : List Bool) (partition : ℕ) → partition < MOST_PARTITIONS
    → slice_index_or marked partition false ≡ false → None ≡ mark_at (marks_in numbers marked) partition
mark_nowhere numbers marked partition within is = rw (mark_there numbers marked partition within, is) refl

pub none_marked : AreMarked (replicate MOST_PARTITIONS 0) (replicate MOST_PARTITIONS false) 0
none_marked = record {
  size = length-replicate {A = ℕ} MOST_PARTITIONS 0;
  flag_size = length-replicate MOST_PARTITIONS false;
  bounds = λ p. omega (arith, all_zero p);
  none = λ p _. all_zero p;
  ends = record {
    within = omega arith;
    beyond = λ p _. no_mark p;
    last = λ p is. absurd (omega (arith, is));
  };
}
  where
    no_flag : (p : ℕ) → slice_index_or (replicate MOST_PARTITIONS false) p false ≡ false
    no_flag p =
        elim (cases_lt p MOST_PARTITIONS) [
          | inl within ↦ get_or-replicate MOST_PARTITIONS p false false within
          | inr past ↦ get_or_past (replicate MOST_PARTITIONS false) p false
              (omega (arith, past, length-replicate {A = Bool} MOST_PARTITIONS false))
        ]

    no_mark : (p : ℕ) → mark_at (marks_in (replicate MOST_PARTITIONS 0) (replicate MOST_PARTITIONS false)) p ≡ None
    no_mark p =
        elim (cases_lt p MOST_PARTITIONS) [
          | inl within ↦ sym (mark_nowhere (replicate MOST_PARTITIONS 0) (replicate MOST_PARTITIONS false) p within
              (no_flag p))
          | inr past ↦ get_or_past (marks_in (replicate MOST_PARTITIONS 0) (replicate MOST_PARTITIONS false)) p None
              (omega (
                arith,
                past,
                length-by_partition
                    (mark_in (replicate MOST_PARTITIONS 0) (replicate MOST_PARTITIONS false)),
              ))
        ]

    all_zero : (p : ℕ) → number_at (replicate MOST_PARTITIONS 0) p ≡ 0
    all_zero p =
        elim (cases_lt p MOST_PARTITIONS) [
          | inl within ↦ get_or-replicate MOST_PARTITIONS p 0 0 within
          | inr past ↦ get_or_past (replicate MOST_PARTITIONS 0) p 0
              (omega (arith, past, length-replicate {A = ℕ} MOST_PARTITIONS 0))
        ]

marks_decide : (x y : Option ℕ) → Decides (option_eq nat_eq x y) (x ≡ y)
marks_decide None None = (λ _. refl, λ _. refl)
marks_decide None (Some y) = (λ is. absurd cc, λ is. absurd cc)
marks_decide (Some x) None = (λ is. absurd cc, λ is. absurd cc)
marks_decide (Some x) (Some y) = (
  λ is. ap (λ (z : ℕ). Some z) ((unsigned_Decides x y).0 is),
  λ is. (unsigned_Decides x y).1 (let e : x ≡ y = cc in
      e),
)

-- marks with the same fields are told to be the same
pub told_same_marks : (a b : List (Option ℕ)) → a ≡ b → pointwise (option_eq nat_eq) a b ≡ true
told_same_marks a b same = (pointwise_decides marks_decide a b).1 same

pub told_other_marks : (a b : List (Option ℕ)) → (a ≡ b → ⊥) → pointwise (option_eq nat_eq) a b ≡ false
told_other_marks a b differ = false_from_ne_true _ (λ told. differ ((pointwise_decides marks_decide a b).0 told))

-- where the numbers are the same, the flags tell
pub told_by_flags : (numbers other_numbers : List ℕ) (marked other_marked : List Bool) (told : Bool)
    (end other_end : ℕ) → AreMarked numbers marked end → AreMarked other_numbers other_marked other_end →
    numbers ≡ other_numbers → told ≡ pointwise beq marked other_marked
    → told ≡ pointwise (option_eq nat_eq) (marks_in numbers marked) (marks_in other_numbers other_marked)
told_by_flags numbers other_numbers marked other_marked true end other_end are others same told =
    let flags : marked ≡ other_marked = (pointwise_decides booleans_Decides marked other_marked).0 (sym told) in
    sym (told_same_marks (marks_in numbers marked) (marks_in other_numbers other_marked) (rw (same, flags) refl))
told_by_flags numbers other_numbers marked other_marked false end other_end are others same told =
    sym (told_other_marks (marks_in numbers marked) (marks_in other_numbers other_marked) (λ alike.
    let flags : marked ≡ other_marked = sym (flags_again numbers marked end are)
    ∙ ap (λ (marks : List (Option ℕ)). map is_some marks) alike ∙ flags_again other_numbers other_marked other_end
    others in
    let so : false ≡ true = told ∙ (pointwise_decides booleans_Decides marked other_marked).1 flags in
    absurd cc))

-- where the numbers differ, the marks do
pub told_by_numbers : (numbers other_numbers : List ℕ) (marked other_marked : List Bool)
    (end other_end : ℕ) → AreMarked numbers marked end → AreMarked other_numbers other_marked other_end →
    false ≡ pointwise nat_eq numbers other_numbers
    → pointwise (option_eq nat_eq) (marks_in numbers marked) (marks_in other_numbers other_marked) ≡ false
told_by_numbers numbers other_numbers marked other_marked end other_end are others told =
    told_other_marks (marks_in numbers marked) (marks_in other_numbers other_marked) (λ alike.
    let same : numbers ≡ other_numbers = sym (numbers_again numbers marked end are)
    ∙ ap (λ (marks : List (Option ℕ)). map
    (λ mark. unwrap_or mark 0) marks) alike ∙ numbers_again other_numbers other_marked other_end others in
    let so : false ≡ true = told ∙ (pointwise_decides unsigned_Decides numbers other_numbers).1 same in
    absurd cc)

-- a mark that is set is before the end, which else stays
pub end_set : (marks : List (Option ℕ)) (end partition number : ℕ) → length marks ≡ MOST_PARTITIONS → IsEnd marks end
    → partition < MOST_PARTITIONS → IsEnd (slice_set marks partition (Some number)) (max end (partition + 1))
end_set marks end partition number size is within = record {
  within = omega (arith, is.within, within);
  beyond = λ p behind.
      get_or-set_other marks partition p (Some number) None (λ same. omega (arith, same, behind))
      ∙ is.beyond p (omega (arith, behind));
  last = λ p before.
      elim (cases_eq p partition) [
        | inl same ↦ rw (same, get_or-set_same marks partition (Some number) None (omega (arith, size, within))) refl
        | inr differs ↦ rw (get_or-set_other marks partition p (Some number) None differs)
            (is.last p (other_end p before differs))
      ];
}
  where
    other_end : (p : ℕ) → max end (partition + 1) ≡ p + 1 → (p ≡ partition → ⊥) → end ≡ p + 1
    other_end p before differs =
        elim (cases_lt end (partition + 1)) [
          | inl less ↦ absurd (differs (omega (arith, less, before)))
          | inr more ↦ omega (arith, more, before)
        ]

-- the fields after a mark is set
pub are_set : (numbers : List ℕ) (marked : List Bool) (end partition number : ℕ) → AreMarked numbers marked end
    → partition < MOST_PARTITIONS → number < 2 ^ 64
    → AreMarked (slice_set numbers partition number) (slice_set marked partition true) (max end (partition + 1))
are_set numbers marked end partition number are within small = record {
  size = length-set numbers partition number ∙ are.size;
  flag_size = length-set marked partition true ∙ are.flag_size;
  bounds = λ p.
      elim (cases_eq p partition) [
        | inl same ↦ rw (same, get_or-set_same numbers partition number 0 (omega (arith, are.size, within))) small
        | inr differs ↦ rw (get_or-set_other numbers partition p number 0 differs) (are.bounds p)
      ];
  none = λ p unmarked.
      elim (cases_eq p partition) [
        | inl same ↦ absurd (marked_there p same unmarked)
        | inr differs ↦ rw (get_or-set_other numbers partition p number 0 differs)
            (are.none p (sym (get_or-set_other marked partition p true false differs) ∙ unmarked))
      ];
  ends = rw (marks_set numbers marked end partition number are within)
      (end_set (marks_in numbers marked) end partition number
      (length-by_partition (mark_in numbers marked)) are.ends within);
}
  where
    marked_there : (p : ℕ) → p ≡ partition → slice_index_or (slice_set marked partition true) p false ≡ false → ⊥
    marked_there p same unmarked =
        let there : slice_index_or (slice_set marked partition true) p false ≡ true =
        rw same (get_or-set_same marked partition true false (omega (arith, are.flag_size, within))) in
        absurd cc
