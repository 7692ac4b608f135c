-- What is kept after a server went down.
use Rattle.std.proofs.Common.{◌≡◌, ℕ, ◌<◌, ◌==◌, ◌||◌, if◌then◌else◌, not, Bool, true, false, List, [], length, inl}
use Rattle.std.proofs.Common.{inr, refl, sym, ◌∙◌, ap, subst, slice_set, zero-add, arith}
use Rattle.std.proofs.lemmas.Bool.{true≢false, cases_lt}
use Rattle.std.proofs.lemmas.List.{get_or_past}
use Rattle.std.proofs.lemmas.List.FromFn.{length-map-range_with_len, get_or-map-range_with_len}
use Rattle.ftc_base.specs.Sets.{has}
use Rattle.ftc_base.specs.declared.limits.TheConstants.{MOST_SERVERS}
use Rattle.ftc_serial.specs.Serial.{Entry}
use Rattle.ftc_serial.specs.Words.{with_at}
use Rattle.ftc_serial.proofs.Functions.{with_at_cases}
use Rattle.ftc_store.specs.Store.{Content}
use Rattle.ftc_vector.specs.Vector.{by_partition, number_at}
use Rattle.ftc_vector.specs.Commits.{by_group, vector_of}
use Rattle.ftc_machine.specs.Frontier.{Numbers, AreRising, AreFrontiers, frontier_at}
use Rattle.ftc_machine.specs.Represents.{frontiers_of}
use Rattle.ftc_protocol.specs.Trace.{content_of}
use Rattle.ftc_protocol.specs.Visits.{Visits, no_visits}
use Rattle.ftc_machine.proofs.SetFrontiers.{none_reach, zero_at}
use Rattle.ftc_machine.proofs.ReplacedPlaces.{row_replaced}

-- the rows of a reach that is nowhere
pub none_length : length (by_group {A = List ℕ} (λ _. by_partition {A = ℕ} (λ _. 0))) ≡ MOST_SERVERS
unfolding by_group
none_length = length-map-range_with_len (λ _. by_partition {A = ℕ} (λ _. 0)) 0 MOST_SERVERS

pub none_row : (group : ℕ) → group < MOST_SERVERS →
    vector_of (by_group (λ _. by_partition (λ _. 0))) group ≡ by_partition (λ _. 0)
unfolding by_group
none_row group within = get_or-map-range_with_len (λ _. by_partition (λ _. 0)) 0 MOST_SERVERS group group [] within
    (zero-add group)

pub empty_at : (group partition : ℕ) → frontier_at (by_group (λ _. by_partition (λ _. 0))) group partition ≡ 0
empty_at group partition = elim (cases_lt group MOST_SERVERS) [
  | inl within ↦ ap (λ (vector : List ℕ). number_at vector partition) (none_row group within) ∙ zero_at partition
  | inr past ↦ ap (λ (vector : List ℕ). number_at vector partition)
      (get_or_past (by_group (λ _. by_partition (λ _. 0))) group [] (omega (arith, none_length)))
]

module _ (partitions : ℕ) (trace : List Entry) (numbers : Numbers) (bound : ℕ)
    (rising : AreRising numbers bound trace) where
  pub empty_reaches : AreFrontiers partitions trace numbers no_visits (by_group (λ _. by_partition (λ _. 0)))
  empty_reaches group = none_reach partitions trace numbers group bound rising (no_visits group)
      (frontier_at (by_group (λ _. by_partition (λ _. 0))) group) (λ packet. refl) (empty_at group)

  -- a server's set is empty
  pub rows_emptied : (n : ℕ) (f : ℕ →
      Visits) (rows new : List (List (List ℕ))) (place server : ℕ) (row : List (List ℕ)) →
      row ≡ by_group (λ _. by_partition (λ _. 0)) → new ≡ slice_set rows place row → place ≡ server →
      server < length rows
      → ((other : ℕ) → other < n → AreFrontiers partitions trace numbers (f other) (frontiers_of rows other))
      → (other : ℕ) → other < n →
      AreFrontiers partitions trace numbers (with_at f server no_visits other) (frontiers_of new other)
  rows_emptied n f rows new place server row row_is is at within each =
      row_replaced (λ other (visits : Visits) (found : List (List ℕ)). other < n →
      AreFrontiers partitions trace numbers visits found)
      f [] rows rows new server no_visits row (is ∙ ap (λ p. slice_set rows p row) at) within (λ _ _. refl)
      (λ _. subst (λ (found : List (List ℕ)). AreFrontiers partitions trace numbers no_visits found)
      (sym row_is) empty_reaches) each

-- the servers that are up
pub up_without : (up : ℕ → Bool) (server other down after : ℕ) → up other ≡ not (has down other) →
    has after other ≡ (other == server || has down other) → with_at up server false other ≡ not (has after other)
up_without up server other down after was is =
    (elim (other == server) as (λ b. (if b then false else up other) ≡ not (b || has down other)) [
      | true ↦
          refl
      | false ↦ was
    ]) ∙ ap not (sym is)

-- the stores of the servers that are up still
pub stores_without : (up : ℕ → Bool) (lists : ℕ → Visits) (trace : List Entry) (server other : ℕ) (stored : Content) →
    (up other ≡ true → stored ≡ content_of trace (lists other other) other)
    → with_at up server false other ≡ true →
    stored ≡ content_of trace (with_at lists server no_visits other other) other
stores_without up lists trace server other stored each live =
    with_at_cases (λ (visits : Visits). stored ≡ content_of trace (visits other) other) lists server no_visits other
    (λ same. absurd (true≢false
    (sym live ∙ with_at_cases (λ b. b ≡ false) up server false other (λ _. refl)
    (λ differs. absurd (differs same)))))
    (λ differs. each (sym (with_at_cases (λ b. b ≡ up other) up server false other (λ same. absurd (differs same))
    (λ _. refl)) ∙ live))
