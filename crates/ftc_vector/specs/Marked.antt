-- Marks as a number and a flag for each partition, and the number behind the last that is marked.
use Rattle.std.specs.Prelude.{◌≡◌, ◌<◌, ◌≤◌, ◌+◌, ◌^◌, ℕ, Bool, true, false, List, [], ◌∷◌, Option, Some, None, length}
use Rattle.std.specs.Prelude.{map, is_some, unwrap_or, slice_index_or, if◌then◌else◌}
use Rattle.std.proofs.Common.{◌∙◌, zero, suc, inl, inr, refl, sym, ap, arith, zero-add, get_or}
use Rattle.std.proofs.lemmas.Bool.{cases_lt, cases_eq}
use Rattle.std.proofs.lemmas.List.{ext_get_or, length-map, get_or-map, get_or_past}
use Rattle.std.proofs.lemmas.List.FromFn.{length-map-range_with_len, get_or-map-range_with_len}
use Rattle.ftc_base.specs.declared.limits.TheConstants.{MOST_PARTITIONS}
use Rattle.ftc_vector.specs.Vector.{by_partition, number_at, mark_at, IsEnd}

-- the numbers of the marked partitions
abbrev pub mark_in : List ℕ → List Bool → ℕ → Option ℕ
mark_in numbers marked partition = if slice_index_or marked partition false then Some (number_at numbers partition)
    else None

abbrev pub marks_in : List ℕ → List Bool → List (Option ℕ)
marks_in numbers marked = by_partition (mark_in numbers marked)

-- a number and a flag for each partition, 0 where there is no mark, and the number behind the last mark
pub record AreMarked (numbers : List ℕ) (marked : List Bool) (end : ℕ) : Type 0 where
  pub size : length numbers ≡ MOST_PARTITIONS
  pub flag_size : length marked ≡ MOST_PARTITIONS
  pub bounds : (partition : ℕ) → number_at numbers partition < 2 ^ 64
  pub none : (partition : ℕ) → slice_index_or marked partition false ≡ false → number_at numbers partition ≡ 0
  pub ends : IsEnd (marks_in numbers marked) end

-- one more, where there is a mark behind
abbrev one_behind : ℕ → ℕ
one_behind zero = zero
one_behind (suc end) = suc (suc end)

-- the number behind the last mark
abbrev pub end_of : List (Option ℕ) → ℕ
end_of [] = 0
end_of (Some number ∷ marks) = end_of marks + 1
end_of (None ∷ marks) = one_behind (end_of marks)

size : (numbers : List ℕ) (marked : List Bool) → length (marks_in numbers marked) ≡ MOST_PARTITIONS
unfolding by_partition
size numbers marked = length-map-range_with_len (mark_in numbers marked) 0 MOST_PARTITIONS

mark_is : (numbers : List ℕ) (marked : List Bool) (partition : ℕ) → partition < MOST_PARTITIONS
    → get_or (marks_in numbers marked) partition None ≡ mark_in numbers marked partition
unfolding by_partition
mark_is numbers marked partition within =
    get_or-map-range_with_len (mark_in numbers marked) 0 MOST_PARTITIONS partition partition None within
    (zero-add partition)

number_again : (number : ℕ) (is_marked : Bool) → (is_marked ≡ false → number ≡ 0)
    → unwrap_or (if is_marked then Some number else None) 0 ≡ number
number_again number true none = refl
number_again number false none = sym (none refl)

flag_again : (number : ℕ) (is_marked : Bool) → is_some (if is_marked then Some number else None) ≡ is_marked
flag_again number true = refl
flag_again number false = refl

-- the numbers and the flags are read off the marks
pub numbers_again : (numbers : List ℕ) (marked : List Bool) (end : ℕ) → AreMarked numbers marked end
    → map (λ mark. unwrap_or mark 0) (marks_in numbers marked) ≡ numbers
numbers_again numbers marked end are =
    ext_get_or 0 (map (λ mark. unwrap_or mark 0) (marks_in numbers marked)) numbers
    (length-map (marks_in numbers marked) (λ mark. unwrap_or mark 0) ∙ size numbers marked ∙ sym are.size)
    (λ k within. get_or-map (λ mark. unwrap_or mark 0) (marks_in numbers marked) k None 0
    (omega (arith, within, length-map (marks_in numbers marked) (λ mark. unwrap_or mark 0)))
    ∙ ap (λ (mark : Option ℕ). unwrap_or mark 0)
    (mark_is numbers marked k
    (omega (arith, within, length-map (marks_in numbers marked) (λ mark. unwrap_or mark 0), size numbers marked)))
    ∙ number_again (number_at numbers k) (slice_index_or marked k false) (are.none k))

pub flags_again : (numbers : List ℕ) (marked : List Bool) (end : ℕ) → AreMarked numbers marked end
    → map is_some (marks_in numbers marked) ≡ marked
flags_again numbers marked end are =
    ext_get_or false (map is_some (marks_in numbers marked)) marked
    (length-map (marks_in numbers marked) is_some ∙ size numbers marked ∙ sym are.flag_size)
    (λ k within. get_or-map is_some (marks_in numbers marked) k None false
    (omega (arith, within, length-map (marks_in numbers marked) is_some))
    ∙ ap (λ (mark : Option ℕ). is_some mark)
    (mark_is numbers marked k (omega (
      arith,
      within,
      length-map (marks_in numbers marked) is_some,
      size numbers marked,
    )))
    ∙ flag_again (number_at numbers k) (slice_index_or marked k false))

-- behind the end there is no mark
beyond_end : (marks : List (Option ℕ)) (partition : ℕ) → end_of marks ≤ partition → get_or marks partition None ≡ None
beyond_end [] partition behind = get_or_past {X = Option ℕ} [] partition None (omega arith)
beyond_end (Some number ∷ marks) zero behind = let some : end_of marks + 1 ≤ 0 = behind in absurd (omega (arith, some))
beyond_end (Some number ∷ marks) (suc partition) behind =
    let more : end_of marks + 1 ≤ suc partition = behind in beyond_end marks partition (omega (arith, more))
beyond_end (None ∷ marks) zero behind = refl
beyond_end (None ∷ marks) (suc partition) behind =
    beyond_end marks partition (behind_one (end_of marks) partition behind)
  where
    behind_one : (end partition : ℕ) → one_behind end ≤ suc partition → end ≤ partition
    behind_one zero partition behind = omega arith
    behind_one (suc end) partition behind = let more : suc (suc end) ≤ suc partition = behind in omega (arith, more)

-- and before it there is one
before_end : (marks : List (Option ℕ)) (partition : ℕ) → end_of marks ≡ partition + 1
    → is_some (get_or marks partition None) ≡ true
before_end [] partition is = let none : 0 ≡ partition + 1 = is in absurd (omega (arith, none))
before_end (Some number ∷ marks) zero is = refl
before_end (Some number ∷ marks) (suc partition) is =
    let more : end_of marks + 1 ≡ suc partition + 1 = is in before_end marks partition (omega (arith, more))
before_end (None ∷ marks) zero is = absurd (none_first (end_of marks) is)
  where
    none_first : (end : ℕ) → one_behind end ≡ 1 → ⊥
    none_first zero is = let none : 0 ≡ 1 = is in omega (arith, none)
    none_first (suc end) is = let more : suc (suc end) ≡ 1 = is in omega (arith, more)
before_end (None ∷ marks) (suc partition) is = before_end marks partition (one_less (end_of marks) is)
  where
    one_less : (end : ℕ) → one_behind end ≡ suc partition + 1 → end ≡ partition + 1
    one_less zero is = let none : 0 ≡ suc partition + 1 = is in absurd (omega (arith, none))
    one_less (suc end) is = let more : suc (suc end) ≡ suc partition + 1 = is in omega (arith, more)

-- the end is read off the marks
pub end_again : (marks : List (Option ℕ)) (end : ℕ) → IsEnd marks end → end_of marks ≡ end
end_again marks end is =
    elim (cases_eq (end_of marks) end) [
      | inl same ↦ same
      | inr differs ↦
          elim (cases_lt (end_of marks) end) [
            | inl less ↦ later end less is
            | inr more ↦ earlier (end_of marks) refl more differs
          ]
    ]
  where
    clash : (mark : Option ℕ) → mark ≡ None → is_some mark ≡ true → ⊥
    clash mark none some = absurd cc

    later : (end : ℕ) → end_of marks < end → IsEnd marks end → end_of marks ≡ end
    later zero less is = absurd (omega (arith, less))
    later (suc before) less is =
        absurd (clash (mark_at marks before) (beyond_end marks before (omega (arith, less)))
        (is.last before (omega arith)))

    earlier : (other : ℕ) → end_of marks ≡ other → end ≤ end_of marks → (end_of marks ≡ end → ⊥) → end_of marks ≡ end
    earlier zero same more differs = absurd (differs (omega (arith, same, more)))
    earlier (suc before) same more differs =
        absurd (clash (mark_at marks before) (is.beyond before (end_before before same more differs))
        (before_end marks before (same ∙ omega arith)))
      where
        end_before : (before : ℕ) → end_of marks ≡ suc before → end ≤ end_of marks → (end_of marks ≡ end → ⊥) →
            end ≤ before
        end_before before same more differs =
            elim (cases_lt before end) [
              | inl past ↦ absurd (differs (omega (arith, past, same, more)))
              | inr within ↦ within
            ]
