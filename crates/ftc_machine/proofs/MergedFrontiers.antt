-- How far sets of visits reach that are merged: of few middleboxes and few partitions a reach tells.
use Rattle.std.proofs.Common.{◌≡◌, ℕ, ◌<◌, ◌≤◌, ◌||◌, Bool, List, ◌∷◌, length, max, inl, inr, refl, sym, ◌∙◌, ap, subst}
use Rattle.std.proofs.Common.{arith}
use Rattle.std.proofs.lemmas.Bool.{cases_lt}
use Rattle.std.proofs.lemmas.List.{get_or_past}
use Rattle.ftc_base.specs.declared.limits.TheConstants.{MOST_PARTITIONS, MOST_SERVERS}
use Rattle.ftc_vector.specs.Vector.{number_at, merged}
use Rattle.ftc_vector.specs.Commits.{vector_of, all_merged}
use Rattle.ftc_vector.proofs.Partitions.{length-by_partition, get_or-by_partition}
use Rattle.ftc_vector.proofs.GroupLists.{vector_of-all_merged}
use Rattle.ftc_serial.specs.Serial.{Entry, Given}
use Rattle.ftc_protocol.specs.Visits.{Visits, union}
use Rattle.ftc_machine.specs.Frontier.{Numbers, IsFrontier, IsChangingIn, AreFrontiers, frontier_at}
use Rattle.ftc_machine.proofs.GroupVectors.{vector_of-past}
use Rattle.ftc_machine.proofs.SetFrontiers.{both_reach}

-- each changing visit of the trace is of one of these middleboxes, and changes one of the partitions
pub record AreWithin (partitions : ℕ) (trace : List Entry) : Type 0 where
  pub server : (server packet partition : ℕ) → IsChangingIn partitions trace server packet partition →
      server < MOST_SERVERS
  pub partition : (server packet partition : ℕ) → IsChangingIn partitions trace server packet partition →
      partition < MOST_PARTITIONS

module _ (partitions : ℕ) (trace : List Entry) (numbers : Numbers) where
  -- only changing visits tell, and only the partitions that they change
  pub reach_moves : (server : ℕ) (packets others : ℕ → Bool) (reach other : ℕ → ℕ)
      → ((packet partition : ℕ) → IsChangingIn partitions trace server packet partition →
      packets packet ≡ others packet)
      → ((packet partition : ℕ) → IsChangingIn partitions trace server packet partition →
      reach partition ≡ other partition)
      → ((partition : ℕ) → 0 < other partition → reach partition ≡ other partition)
      → IsFrontier partitions trace numbers server packets reach →
      IsFrontier partitions trace numbers server others other
  reach_moves server packets others reach other alike level some is = record {
    each = λ packet partition changes. let both = is.each packet partition changes in (
      λ there. subst (λ n. numbers server packet ≤ n) (level packet partition changes)
          (both.0 (alike packet partition changes ∙ there)),
      λ less. sym (alike packet partition changes) ∙ both.1
          (subst (λ n. numbers server packet ≤ n) (sym (level packet partition changes)) less),
    );
    last = λ partition above.
        let found = is.last partition (subst (λ n. 0 < n) (sym (some partition above)) above) in
        (found.0, found.1, found.2 ∙ some partition above);
  }

  module _ (within : AreWithin partitions trace) where
    merged_within : (one other : List ℕ) (partition : ℕ) → partition < MOST_PARTITIONS →
        max (number_at one partition) (number_at other partition) ≡ number_at (merged one other) partition
    merged_within one other partition less =
        sym (get_or-by_partition (λ p. max (number_at one p) (number_at other p)) partition 0 less)

    merged_some : (one other : List ℕ) (partition : ℕ) → 0 < number_at (merged one other) partition →
        max (number_at one partition) (number_at other partition) ≡ number_at (merged one other) partition
    merged_some one other partition some = elim (cases_lt partition MOST_PARTITIONS) [
      | inl less ↦ merged_within one other partition less
      | inr past ↦
          let size : length (merged one other) ≡ MOST_PARTITIONS =
          length-by_partition {A = ℕ} (λ p. max (number_at one p) (number_at other p)) in
          let none_there : number_at (merged one other) partition ≡ 0 =
          get_or_past (merged one other) partition 0 (omega arith) in
          absurd (omega arith)
    ]

    -- a row that is merged with another
    pub merged_row : (server : ℕ) (packets others : ℕ → Bool) (one other : List ℕ) →
        IsFrontier partitions trace numbers server packets (number_at one) →
        IsFrontier partitions trace numbers server others (number_at other)
        → IsFrontier partitions trace numbers server (λ packet. packets packet
        || others packet) (number_at (merged one other))
    merged_row server packets others one other first second =
        reach_moves server (λ packet. packets packet || others packet) (λ packet. packets packet || others packet)
        (λ partition. max (number_at one partition) (number_at other partition)) (number_at (merged one other))
        (λ packet partition changes. refl)
        (λ packet partition changes. merged_within one other partition
        (within.partition server packet partition changes))
        (λ partition some. merged_some one other partition some)
        (both_reach partitions trace numbers server packets others (number_at one) (number_at other) first second)

    -- where no visit changes anything, any set reaches as far as another, or nowhere
    pub outside : (server : ℕ) (packets : ℕ → Bool) (reach : ℕ → ℕ) → MOST_SERVERS ≤ server →
        ((partition : ℕ) → reach partition ≡ 0) → IsFrontier partitions trace numbers server packets reach
    outside server packets reach past nowhere = record {
      each = λ packet partition changes. let less = within.server server packet partition changes in
          absurd (omega arith);
      last = λ partition some. let none_there : reach partition ≡ 0 = nowhere partition in absurd (omega arith);
    }

    -- all rows are merged
    pub merged_reaches : (one other : Visits) (first second : List (List ℕ)) →
        AreFrontiers partitions trace numbers one first → AreFrontiers partitions trace numbers other second
        → AreFrontiers partitions trace numbers (union one other) (all_merged first second)
    merged_reaches one other first second is are server = elim (cases_lt server MOST_SERVERS) [
      | inl less ↦
          let row : merged (vector_of first server) (vector_of second server)
          ≡ vector_of (all_merged first second) server = sym (vector_of-all_merged first second server less) in
          subst (λ (vector : List ℕ). IsFrontier partitions trace numbers server (union one other server)
          (number_at vector)) row
          (merged_row server (one server) (other server) (vector_of first server) (vector_of second server) (is server)
          (are server))
      | inr past ↦
          outside server (union one other server) (frontier_at (all_merged first second) server) past
          (λ partition. ap (λ (vector : List ℕ). number_at vector partition)
          (vector_of-past (λ group. merged (vector_of first group) (vector_of second group)) server past))
    ]

-- a release tells nothing
pub given_reaches : (partitions : ℕ) (trace : List Entry) (numbers : Numbers) (packet : ℕ) (bytes : List ℕ)
    (visits : Visits) (reach : List (List ℕ)) → AreFrontiers partitions trace numbers visits reach
    → AreFrontiers partitions (Given packet bytes ∷ trace) numbers visits reach
given_reaches partitions trace numbers packet bytes visits reach is server = record {
  each = λ other partition changes. elim changes [
    | inl here ↦ absurd here
    | inr below ↦
        (is server).each other partition below
  ];
  last = λ partition some. let found = (is server).last partition some in (found.0, inr found.1, found.2);
}
