-- How far a set reaches to which visits of one middlebox are added, whose row is raised.
use Rattle.std.proofs.Common.{◌≡◌, ◌≢◌, ℕ, ◌<◌, ◌||◌, Bool, true, false, List, [], length, inl, inr, refl, sym, ap}
use Rattle.std.proofs.Common.{subst, get_or-set_same, get_or-set_other}
use Rattle.std.proofs.lemmas.Bool.{cases_eq}
use Rattle.ftc_base.proofs.Bools.{or_without}
use Rattle.ftc_vector.specs.Vector.{number_at, merged}
use Rattle.ftc_vector.specs.Commits.{vector_of, group_raised}
use Rattle.ftc_serial.specs.Serial.{Entry}
use Rattle.ftc_protocol.specs.Visits.{Visits, union}
use Rattle.ftc_machine.specs.Frontier.{Numbers, IsFrontier, AreFrontiers, frontier_at}
use Rattle.ftc_machine.proofs.SetFrontiers.{same_reach}
use Rattle.ftc_machine.proofs.MergedFrontiers.{AreWithin, merged_row}

again : (b other : Bool) → (b || (b || other)) ≡ (b || other)
again true other = refl
again false other = refl

module _ (partitions : ℕ) (trace : List Entry) (numbers : Numbers) (within : AreWithin partitions trace) where
  pub raised_reaches : (one extra : Visits) (commits : List (List ℕ)) (group : ℕ) (vector : List ℕ) →
      group < length commits
      → ((other packet : ℕ) → other ≢ group → extra other packet ≡ false)
      → IsFrontier partitions trace numbers group (union one extra group) (number_at vector)
      → AreFrontiers partitions trace numbers one commits →
      AreFrontiers partitions trace numbers (union one extra) (group_raised commits group vector)
  raised_reaches one extra commits group vector long elsewhere here reaches other = elim (cases_eq other group) [
    | inl same ↦ subst (λ g. IsFrontier partitions trace numbers g (union one extra g)
        (frontier_at (group_raised commits group vector) g)) (sym same) own
    | inr differs ↦ same_reach partitions trace numbers other (one other) (union one extra other)
        (frontier_at commits other) (frontier_at (group_raised commits group vector) other)
        (λ packet. sym (or_without (one other packet) (extra other packet) (elsewhere other packet differs)))
        (λ partition. ap (λ (row : List ℕ). number_at row partition)
        (sym (get_or-set_other commits group other (merged (vector_of commits group) vector) [] differs)))
        (reaches other)
  ]
    where
      own : IsFrontier partitions trace numbers group (union one extra group)
          (frontier_at (group_raised commits group vector) group)
      own =
          same_reach partitions trace numbers group (λ packet. one group packet
          || union one extra group packet) (union one extra group)
          (number_at (merged (vector_of commits group) vector)) (frontier_at (group_raised commits group vector) group)
          (λ packet. again (one group packet) (extra group packet))
          (λ partition. ap (λ (row : List ℕ). number_at row partition)
          (sym (get_or-set_same commits group (merged (vector_of commits group) vector) [] long)))
          (merged_row partitions trace numbers within group (one group) (union one extra group)
          (vector_of commits group) vector (reaches group) here)

  -- the same where the vector reaches the visits that are added
  pub joined_reaches : (one extra : Visits) (commits : List (List ℕ)) (group : ℕ) (vector : List ℕ) →
      group < length commits
      → ((other packet : ℕ) → other ≢ group → extra other packet ≡ false)
      → IsFrontier partitions trace numbers group (extra group) (number_at vector)
      → AreFrontiers partitions trace numbers one commits →
      AreFrontiers partitions trace numbers (union one extra) (group_raised commits group vector)
  joined_reaches one extra commits group vector long elsewhere here reaches other = elim (cases_eq other group) [
    | inl same ↦ subst (λ g. IsFrontier partitions trace numbers g (union one extra g)
        (frontier_at (group_raised commits group vector) g)) (sym same)
        (same_reach partitions trace numbers group (union one extra group) (union one extra group)
        (number_at (merged (vector_of commits group) vector))
        (frontier_at (group_raised commits group vector) group)
        (λ packet. refl)
        (λ partition. ap (λ (row : List ℕ). number_at row partition)
        (sym (get_or-set_same commits group (merged (vector_of commits group) vector) [] long)))
        (merged_row partitions trace numbers within group (one group) (extra group) (vector_of commits group) vector
        (reaches group) here))
    | inr differs ↦ same_reach partitions trace numbers other (one other) (union one extra other)
        (frontier_at commits other) (frontier_at (group_raised commits group vector) other)
        (λ packet. sym (or_without (one other packet) (extra other packet) (elsewhere other packet differs)))
        (λ partition. ap (λ (row : List ℕ). number_at row partition)
        (sym (get_or-set_other commits group other (merged (vector_of commits group) vector) [] differs)))
        (reaches other)
  ]
