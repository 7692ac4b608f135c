-- Parts of what sets have, by groups.
use Rattle.std.proofs.Common.{◌≡◌, ◌==◌, ◌&&◌, ◌||◌, ◌∙◌, ℕ, Bool, true, false, List, if◌then◌else◌, inl, inr, refl}
use Rattle.std.proofs.Common.{sym, ap, subst}
use Rattle.std.proofs.Common.{◌<◌, length, max, arith}
use Rattle.std.proofs.lemmas.List.{length-set}
use Rattle.std.proofs.lemmas.Bool.{cases_lt, cases_eq, eq-eqb, ne_eqb}
use Rattle.std.proofs.Math.Bool.{or-false}
use Rattle.ftc_base.specs.declared.limits.TheConstants.{MOST_SERVERS}
use Rattle.ftc_base.specs.Sets.{has}
use Rattle.ftc_serial.specs.Serial.{Entry}
use Rattle.ftc_vector.specs.Vector.{by_partition, number_at, merged, IsVector}
use Rattle.ftc_vector.specs.Commits.{vector_of, all_merged, group_raised}
use Rattle.ftc_vector.proofs.Partitions.{by_partition-from, by_partition-same, get_or-by_partition}
use Rattle.ftc_vector.proofs.Bounds.{number_at-merged}
use Rattle.ftc_vector.proofs.GroupLists.{vector_of-all_merged, vector_of-raised, vector_of-other, same_groups}
use Rattle.ftc_vector.proofs.Held.{length-by_group, vector_of-by_group}
use Rattle.ftc_machine.specs.Frontier.{Numbers, AreRising, IsFrontier, AreFrontiers, frontier_at}
use Rattle.ftc_machine.specs.Tails.{part_of}
use Rattle.ftc_protocol.specs.Visits.{Visits}
use Rattle.ftc_machine.proofs.GroupVectors.{by_group-same, vector_of-past}
use Rattle.ftc_machine.proofs.MergedFrontiers.{AreWithin, merged_row, outside}
use Rattle.ftc_machine.proofs.SetFrontiers.{zero_reach}

-- the row of a group, where the group is of the part or not
abbrev pub row_if : Bool → List ℕ → List ℕ
row_if test row = if test then merged (by_partition (λ _. 0)) row else by_partition (λ _. 0)

-- tests that agree on the groups tell the same part
pub part_of-same : (some other : ℕ → Bool) (reach : List (List ℕ)) → ((group : ℕ) → some group ≡ other group) →
    part_of some reach ≡ part_of other reach
part_of-same some other reach alike =
    by_group-same (λ group. row_if (some group) (vector_of reach group))
    (λ group. row_if (other group) (vector_of reach group))
    (λ group less. ap (λ test. row_if test (vector_of reach group)) (alike group))

-- a set of one number alone
pub has-only : (none_in only number : ℕ) → ((member : ℕ) → has none_in member ≡ false) →
    ((member : ℕ) → has only member ≡ (member == number || has none_in member)) → (member : ℕ) →
    has only member ≡ (member == number)
has-only none_in only number nothing is member =
    is member ∙ ap (λ b. member == number || b) (nothing member) ∙ or-false (member == number)

module _ (partitions : ℕ) (trace : List Entry) (numbers : Numbers) (within : AreWithin partitions trace) (bound : ℕ)
    (rising : AreRising numbers bound trace) where
  row_reach : (server : ℕ) (packets : ℕ → Bool) (row : List ℕ) →
      IsFrontier partitions trace numbers server packets (number_at row) → (test : Bool)
      → IsFrontier partitions trace numbers server (λ packet. test && packets packet) (number_at (row_if test row))
  row_reach server packets row is true =
      merged_row partitions trace numbers within server (λ packet. false) packets (by_partition (λ _. 0)) row
      (zero_reach partitions trace numbers server bound rising (λ packet. false) (λ packet. refl)) is
  row_reach server packets row is false =
      zero_reach partitions trace numbers server bound rising (λ packet. false) (λ packet. refl)

  -- the part of a reach is the reach of the part
  pub part_reaches : (groups : ℕ → Bool) (visits : Visits) (reach : List (List ℕ)) →
      AreFrontiers partitions trace numbers visits reach →
      AreFrontiers partitions trace numbers (λ group packet. groups group && visits group packet) (part_of groups reach)
  part_reaches groups visits reach is server = elim (cases_lt server MOST_SERVERS) [
    | inl less ↦ subst (λ (row : List ℕ). IsFrontier partitions trace numbers server (λ packet. groups server
        && visits server packet) (number_at row))
        (sym (vector_of-by_group (λ group. row_if (groups group) (vector_of reach group)) server less))
        (row_reach server (visits server) (vector_of reach server) (is server) (groups server))
    | inr past ↦ outside partitions trace numbers within server (λ packet. groups server
        && visits server packet) (frontier_at (part_of groups reach) server) past
        (λ partition. ap (λ (row : List ℕ). number_at row partition)
        (vector_of-past (λ group. row_if (groups group) (vector_of reach group)) server past))
  ]

-- ---- what is known with one group's list

-- a row merged with what a part has of the group
row_merged : (test : Bool) (row list : List ℕ) → IsVector row
    → merged row (row_if test list) ≡ (if test then merged row list else row)
row_merged true row list is =
    by_partition-same (λ p. max (number_at row p) (number_at (merged (by_partition (λ _. 0)) list) p))
    (λ p. max (number_at row p) (number_at list p)) 0 (λ p within.
    let zero_is : number_at (by_partition (λ _. 0)) p ≡ 0 = get_or-by_partition (λ _. 0) p 0 within in
    let both : number_at (merged (by_partition (λ _. 0)) list) p
    ≡ max (number_at (by_partition (λ _. 0)) p) (number_at list p) =
    number_at-merged (by_partition (λ _. 0)) list p within in
    omega (arith, zero_is, both))
row_merged false row list is =
    sym (by_partition-from (λ p. max (number_at row p) (number_at (by_partition (λ _. 0)) p)) row 0 is.size (λ p within.
    let zero_is : number_at (by_partition (λ _. 0)) p ≡ 0 = get_or-by_partition (λ _. 0) p 0 within in
    omega (arith, zero_is)))

module _ (known lists : List (List ℕ)) (ending : ℕ) where
  abbrev pub ending_alone : ℕ → Bool
  ending_alone other = other == ending

  -- the row of a group, with the list where it is the ending one
  abbrev pub row_with : ℕ → List ℕ
  row_with group = if group == ending then merged (vector_of known group) (vector_of lists group)
      else vector_of known group

  pub known_row : (group : ℕ) → group < MOST_SERVERS → IsVector (vector_of known group)
      → vector_of (all_merged known (part_of ending_alone lists)) group ≡ row_with group
  known_row group less is =
      vector_of-all_merged known (part_of ending_alone lists) group less
      ∙ ap (merged (vector_of known group))
      (vector_of-by_group (λ other. row_if (ending_alone other) (vector_of lists other)) group less)
      ∙ row_merged (group == ending) (vector_of known group) (vector_of lists group) is

  raised_row : (group : ℕ) → group < length known → vector_of (group_raised known ending (vector_of lists ending)) group
      ≡ row_with group
  raised_row group less = elim (cases_eq group ending) [
    | inl is ↦
        rw (eq-eqb group ending is) (ap (vector_of (group_raised known ending (vector_of lists ending))) is
        ∙ vector_of-raised known ending (vector_of lists ending) (omega (arith, less, is)) ∙
        (λ i. merged (vector_of known (sym is i)) (vector_of lists (sym is i))))
    | inr isnt ↦ rw (ne_eqb group ending isnt) (vector_of-other known ending group (vector_of lists ending) isnt)
  ]

  -- raising the row of the ending group is merging with that part
  pub raised_known : length known ≡ MOST_SERVERS →
      ((group : ℕ) → group < MOST_SERVERS → IsVector (vector_of known group))
      → group_raised known ending (vector_of lists ending) ≡ all_merged known (part_of ending_alone lists)
  raised_known size each =
      same_groups (group_raised known ending (vector_of lists ending)) (all_merged known (part_of ending_alone lists))
      (length-set known ending (merged (vector_of known ending) (vector_of lists ending)) ∙ size)
      (length-by_group (λ group. merged (vector_of known group) (vector_of (part_of ending_alone lists) group)))
      (λ group within. raised_row group (omega (arith, size, within)) ∙ sym
      (known_row group within (each group within)))
