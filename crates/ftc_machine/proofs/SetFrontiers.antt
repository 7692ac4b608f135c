-- How far sets of one middlebox's visits reach: none, the same set, two sets together, and all changing visits.
use Rattle.std.proofs.Common.{◌≡◌, ℕ, ◌<◌, ◌≤◌, ◌||◌, Bool, true, false, List, length, max, inl, inr, refl, sym, ◌∙◌}
use Rattle.std.proofs.Common.{subst, arith}
use Rattle.std.proofs.lemmas.Bool.{true≢false, cases_lt, or_cases, or_left, or_right}
use Rattle.std.proofs.lemmas.List.{get_or_past}
use Rattle.ftc_base.specs.declared.limits.TheConstants.{MOST_PARTITIONS}
use Rattle.ftc_vector.specs.Vector.{by_partition, number_at, merged}
use Rattle.ftc_vector.proofs.Partitions.{length-by_partition, get_or-by_partition}
use Rattle.ftc_serial.specs.Serial.{Entry}
use Rattle.ftc_protocol.specs.Changes.{Changes, is_changing}
use Rattle.ftc_protocol.specs.Trace.{IsChanging}
use Rattle.ftc_machine.specs.Frontier.{Numbers, AreRising, IsFrontier, IsLast}
use Rattle.ftc_protocol.proofs.TraceLemmas.{stands_map, changes_some}
use Rattle.ftc_machine.proofs.RisingNumbers.{in_bounds}

-- ---- vectors, at each partition

past : (vector : List ℕ) (partition : ℕ) → length vector ≡ MOST_PARTITIONS → MOST_PARTITIONS ≤ partition →
    number_at vector partition ≡ 0
past vector partition size beyond = get_or_past vector partition 0 (omega arith)

pub zero_at : (partition : ℕ) → number_at (by_partition (λ _. 0)) partition ≡ 0
zero_at partition = elim (cases_lt partition MOST_PARTITIONS) [
  | inl within ↦ get_or-by_partition (λ _. 0) partition 0 within
  | inr beyond ↦ past (by_partition (λ _. 0)) partition (length-by_partition {A = ℕ} (λ _. 0)) beyond
]

pub merged_at : (one other : List ℕ) (partition : ℕ) → length one ≡ MOST_PARTITIONS → length other ≡ MOST_PARTITIONS →
    number_at (merged one other) partition ≡ max (number_at one partition) (number_at other partition)
merged_at one other partition first second = elim (cases_lt partition MOST_PARTITIONS) [
  | inl within ↦ get_or-by_partition (λ p. max (number_at one p) (number_at other p)) partition 0 within
  | inr beyond ↦ omega (
    arith,
    past one partition first beyond,
    past other partition second beyond,
    past (merged one other) partition
        (length-by_partition {A = ℕ} (λ p. max (number_at one p) (number_at other p))) beyond,
  )
]

module _ (partitions : ℕ) (trace : List Entry) (numbers : Numbers) (server : ℕ) where
  -- no visits reach 0
  pub none_reach : (bound : ℕ) → AreRising numbers bound trace → (packets : ℕ → Bool) (reach : ℕ → ℕ) →
      ((packet : ℕ) → packets packet ≡ false) → ((partition : ℕ) → reach partition ≡ 0)
      → IsFrontier partitions trace numbers server packets reach
  none_reach bound rising packets reach none_in none_there = record {
    each = λ packet partition changes. (
      λ is. absurd (true≢false (sym is ∙ none_in packet)),
      λ less. let within = in_bounds numbers
          (λ o. Changes partitions o partition) bound trace rising server packet changes in
          absurd (omega (arith, within.0, none_there partition)),
    );
    last = λ partition some. absurd (omega (arith, none_there partition));
  }

  -- a set reaches as far as one with the same visits
  pub same_reach : (packets others : ℕ → Bool) (reach other : ℕ → ℕ) → ((packet : ℕ) → packets packet ≡ others packet) →
      ((partition : ℕ) → reach partition ≡ other partition)
      → IsFrontier partitions trace numbers server packets reach →
      IsFrontier partitions trace numbers server others other
  same_reach packets others reach other alike level is = record {
    each = λ packet partition changes. let both = is.each packet partition changes in (
      λ there. subst (λ n. numbers server packet ≤ n) (level partition) (both.0 (alike packet ∙ there)),
      λ less. sym (alike packet) ∙ both.1 (subst (λ n. numbers server packet ≤ n) (sym (level partition)) less),
    );
    last = λ partition some. let found = is.last partition (subst (λ n. 0 < n) (sym (level partition)) some) in
        (found.0, found.1, found.2 ∙ level partition);
  }

  -- two sets together reach as far as the one that reaches farther
  pub both_reach : (packets others : ℕ → Bool) (reach other : ℕ → ℕ) →
      IsFrontier partitions trace numbers server packets reach → IsFrontier partitions trace numbers server others other
      → IsFrontier partitions trace numbers server (λ packet. packets packet
      || others packet) (λ partition. max (reach partition) (other partition))
  both_reach packets others reach other one two = record {
    each = λ packet partition changes. (
      λ there. elim (or_cases (packets packet) (others packet) there) [
        | inl left ↦ omega (arith, (one.each packet partition changes).0 left)
        | inr right ↦ omega (arith, (two.each packet partition changes).0 right)
      ],
      λ less. elim (cases_lt (reach partition) (numbers server packet)) [
        | inl above ↦ or_right (packets packet) (others packet) ((two.each packet partition changes).1 (omega arith))
        | inr within ↦ or_left (packets packet) (others packet) ((one.each packet partition changes).1 within)
      ],
    );
    last = λ partition some. elim (cases_lt (reach partition) (other partition)) [
      | inl less ↦ let found = two.last partition (omega arith) in (found.0, found.1, omega (arith, found.2))
      | inr most ↦ let found = one.last partition (omega arith) in (found.0, found.1, omega (arith, found.2))
    ];
  }

  -- the same of vectors
  pub zero_reach : (bound : ℕ) → AreRising numbers bound trace → (packets : ℕ → Bool) →
      ((packet : ℕ) → packets packet ≡ false) →
      IsFrontier partitions trace numbers server packets (number_at (by_partition (λ _. 0)))
  zero_reach bound rising packets none_in =
      none_reach bound rising packets (number_at (by_partition (λ _. 0))) none_in zero_at

  pub merged_reach : (packets others : ℕ → Bool) (one other : List ℕ) → length one ≡ MOST_PARTITIONS →
      length other ≡ MOST_PARTITIONS
      → IsFrontier partitions trace numbers server packets (number_at one) →
      IsFrontier partitions trace numbers server others (number_at other)
      → IsFrontier partitions trace numbers server (λ packet. packets packet
      || others packet) (number_at (merged one other))
  merged_reach packets others one other first second is are =
      same_reach (λ packet. packets packet || others packet) (λ packet. packets packet
      || others packet) (λ partition. max (number_at one partition) (number_at other partition))
      (number_at (merged one other))
      (λ packet. refl) (λ partition. sym (merged_at one other partition first second))
      (both_reach packets others (number_at one) (number_at other) is are)

  -- a set that has all changing visits reaches the last of them
  pub head_last : (packets : ℕ → Bool) (reach : ℕ → ℕ) →
      ((packet : ℕ) → IsChanging partitions trace server packet → packets packet ≡ true) →
      IsFrontier partitions trace numbers server packets reach
      → (partition : ℕ) → IsLast partitions trace numbers server partition (reach partition)
  head_last packets reach all is partition = record {
    above = λ packet changes.
        (is.each packet partition changes).0
        (all packet (stands_map (λ o. Changes partitions o partition) (λ o. is_changing partitions o
        ≡ true) (λ o here. changes_some partitions o partition here) trace server packet changes));
    last = λ some. is.last partition some;
  }
