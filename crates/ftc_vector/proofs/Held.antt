-- The vectors of the first groups, and the one of zeros behind them that stands for all others.
use Rattle.std.proofs.Common.{◌≡◌, ◌≢◌, ◌<◌, ◌≤◌, ◌+◌, ◌-◌, ◌==◌, ℕ, zero, suc, true, false, List, [], ◌∷◌, length}
use Rattle.std.proofs.Common.{get_or, min, max, refl, sym, ap, ◌∙◌, inl, inr, zero-add, arith}
use Rattle.std.specs.Prelude.{slice_set}
use Rattle.std.specs.List.{list_all}
use Rattle.std.proofs.lemmas.Bool.{cases_lt, cases_eq, ne_eqb}
use Rattle.std.proofs.lemmas.List.{get_or_default, get_or_past, length-set, get_or-set_same}
use Rattle.std.proofs.lemmas.List.FromFn.{length-map-range_with_len, get_or-map-range_with_len}
use Rattle.ftc_base.specs.declared.limits.TheConstants.{MOST_SERVERS, MOST_PARTITIONS}
use Rattle.ftc_vector.specs.Vector.{by_partition, number_at, merged, IsVector}
use Rattle.ftc_vector.specs.Commits.{by_group, vector_of, all_merged, group_raised, held_of, AreHeld, IsGroupEnd}
use Rattle.ftc_vector.proofs.Partitions.{length-by_partition, get_or-by_partition, by_partition-from}
use Rattle.ftc_vector.proofs.GroupLists.{same_groups, vector_of-all_merged, vector_of-raised, vector_of-other}

abbrev zeros : List ℕ
zeros = by_partition (λ _. 0)

pub zeros_are : IsVector (by_partition (λ _. 0))
zeros_are = record {
  size = length-by_partition (λ _. 0);
  bounds = λ p.
      elim (cases_lt p MOST_PARTITIONS) [
        | inl within ↦ omega (arith, get_or-by_partition {A = ℕ} (λ _. 0) p 0 within)
        | inr past ↦ omega (
          arith,
          get_or_past {X = ℕ} (by_partition (λ _. 0)) p 0 (omega (arith, length-by_partition {A = ℕ} (λ _. 0))),
        )
      ];
}

pub length-by_group : {A : Type 0} (f : ℕ → A) → length (by_group f) ≡ MOST_SERVERS
unfolding by_group
length-by_group f = length-map-range_with_len f 0 MOST_SERVERS

pub vector_of-by_group : (f : ℕ → List ℕ) (group : ℕ) → group < MOST_SERVERS → vector_of (by_group f) group ≡ f group
unfolding by_group
vector_of-by_group f group within = get_or-map-range_with_len f 0 MOST_SERVERS group group [] within (zero-add group)

-- behind the last vector each has zeros, and it has them itself
pub held_behind : (vectors : List (List ℕ)) (group : ℕ) → AreHeld vectors → length vectors ≤ group + 1 →
    held_of vectors group ≡ zeros
held_behind vectors group held behind =
    elim (cases_lt group (length vectors)) [
      | inl within ↦ held.last group (omega (arith, within, behind))
      | inr past ↦ get_or_past vectors group zeros past
    ]

-- the last vector is read for all groups behind it
pub held_at : (vectors : List (List ℕ)) (group place : ℕ) (d : List ℕ) → AreHeld vectors
    → place ≡ min group (length vectors - 1) → get_or vectors place d ≡ held_of vectors group
held_at vectors group place d held is =
    elim (cases_lt (group + 1) (length vectors)) [
      | inl before ↦
          let same : place ≡ group = omega (arith, is, before) in
          rw same (get_or_default vectors group d zeros (omega (arith, before)))
      | inr behind ↦
          let last : length vectors ≡ place + 1 = omega (arith, is, behind, held.some) in
          get_or_default vectors place d zeros (omega (arith, last)) ∙ held.last place last
          ∙ sym (held_behind vectors group held behind)
    ]

pub held_is : (vectors : List (List ℕ)) (group : ℕ)
    → ((place : ℕ) → place < length vectors → IsVector (vector_of vectors place)) → IsVector (held_of vectors group)
held_is vectors group each =
    elim (cases_lt group (length vectors)) [
      | inl within ↦ rw (← get_or_default vectors group [] zeros within) (each group within)
      | inr past ↦ rw (get_or_past vectors group zeros past) zeros_are
    ]

pub merged_zeros : (a : List ℕ) → length a ≡ MOST_PARTITIONS → merged a zeros ≡ a
merged_zeros a long =
    sym (by_partition-from _ a 0 long (λ p within. omega (arith, get_or-by_partition {A = ℕ} (λ _. 0) p 0 within)))

pub all_merged_is : (old other new : List (List ℕ))
    → ((group : ℕ) → group < MOST_SERVERS → held_of new group ≡ merged (held_of old group) (held_of other group))
    → by_group (held_of new) ≡ all_merged (by_group (held_of old)) (by_group (held_of other))
all_merged_is old other new each =
    same_groups _ _ (length-by_group (held_of new))
    (length-by_group (λ group. merged (vector_of (by_group (held_of old)) group)
    (vector_of (by_group (held_of other)) group)))
    (λ group within. rw (
      vector_of-by_group (held_of new) group within,
      vector_of-all_merged (by_group (held_of old)) (by_group (held_of other)) group within,
      vector_of-by_group (held_of old) group within,
      vector_of-by_group (held_of other) group within,
    ) (each group within))

pub raised_is : (old new : List (List ℕ)) (group : ℕ) (vector : List ℕ) → group < MOST_SERVERS
    → held_of new group ≡ merged (held_of old group) vector
    → ((other : ℕ) → other ≢ group → held_of new other ≡ held_of old other)
    → by_group (held_of new) ≡ group_raised (by_group (held_of old)) group vector
raised_is old new group vector within own others =
    let size : length (by_group (held_of old)) ≡ MOST_SERVERS = length-by_group (held_of old) in
    same_groups _ _ (length-by_group (held_of new))
    (omega (
      arith,
      length-set (by_group (held_of old)) group
          (merged (vector_of (by_group (held_of old)) group) vector),
      size,
    ))
    (λ one before.
    elim (cases_eq one group) [
      | inl same ↦ rw same (rw (
        vector_of-by_group (held_of new) group within,
        vector_of-raised (by_group (held_of old)) group vector (omega (arith, size, within)),
        vector_of-by_group (held_of old) group within,
      ) own)
      | inr differs ↦ rw (
        vector_of-by_group (held_of new) one before,
        vector_of-other (by_group (held_of old)) group one vector differs,
        vector_of-by_group (held_of old) one before,
      ) (others one differs)
    ])

pub none_of_zeros : true ≡ list_all (λ number. number == 0) (by_partition (λ _. 0))
unfolding by_partition
none_of_zeros = refl

-- beside zeros a vector is the greater one
merged_with_zeros : (vector : List ℕ) → IsVector vector → merged zeros vector ≡ vector
merged_with_zeros vector is =
    sym (by_partition-from (λ partition. max (number_at zeros partition) (number_at vector partition)) vector 0 is.size
    (λ p within.
    let none : number_at zeros p ≡ 0 = get_or-by_partition {A = ℕ} (λ _. 0) p 0 within in
    omega (arith, none)))

-- the vector of a group that had none of its own
pub newly_held : (old new : List (List ℕ)) (group : ℕ) (vector : List ℕ) → AreHeld old → length old < group + 2
    → group + 1 < length new → IsVector vector
    → held_of (slice_set new group vector) group ≡ merged (held_of old group) vector
newly_held old new group vector held few own is =
    get_or-set_same new group vector zeros (omega (arith, own))
    ∙ sym (ap (λ (numbers : List ℕ). merged numbers vector) (held_behind old group held (omega (arith, few)))
    ∙ merged_with_zeros vector is)

-- ---- the number behind the last group that has a number

each_zero : (vector : List ℕ) → list_all (λ number. number == 0) vector ≡ true → (p : ℕ) → get_or vector p 0 ≡ 0
each_zero [] all p = refl
each_zero (zero ∷ vector) all zero = refl
each_zero (zero ∷ vector) all (suc p) = each_zero vector all p
each_zero (suc n ∷ vector) all p =
    let one : list_all (λ number. number == 0) (suc n ∷ vector) ≡ false =
    rw (ne_eqb (suc n) 0 (λ is. omega arith)) refl in
    let clash : true ≡ false = sym all ∙ one in
    absurd cc

-- a vector whose numbers are all 0
pub zeros_alone : (vector : List ℕ) → IsVector vector → list_all (λ number. number == 0) vector ≡ true → vector ≡ zeros
zeros_alone vector is all = by_partition-from (λ _. 0) vector 0 is.size (λ p within. each_zero vector all p)

pub end_found : (vectors : List (List ℕ)) (end : ℕ) → end ≤ MOST_SERVERS
    → ((group : ℕ) → end ≤ group → held_of vectors group ≡ zeros)
    → ((group : ℕ) → end ≡ group + 1 → list_all (λ number. number == 0) (held_of vectors group) ≡ false)
    → IsGroupEnd (by_group (held_of vectors)) end
end_found vectors end within beyond last = record {
  within = within;
  beyond = λ group past before. vector_of-by_group (held_of vectors) group before ∙ beyond group past;
  last = λ group is. rw (vector_of-by_group (held_of vectors) group (omega (arith, is, within))) (last group is);
}

-- one more group has zeros
pub one_less : (vectors : List (List ℕ)) (end : ℕ) (vector : List ℕ) → vector ≡ held_of vectors (end - 1)
    → IsVector vector → list_all (λ number. number == 0) vector ≡ true
    → ((group : ℕ) → end ≤ group → held_of vectors group ≡ zeros)
    → (group : ℕ) → end - 1 ≤ group → held_of vectors group ≡ zeros
one_less vectors end vector here is all beyond group past =
    elim (cases_lt group end) [
      | inl before ↦
          let same : group ≡ end - 1 = omega (arith, past, before) in
          rw (same, ← here) (zeros_alone vector is all)
      | inr behind ↦ beyond group behind
    ]
