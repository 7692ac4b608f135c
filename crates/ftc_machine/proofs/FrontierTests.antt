-- What the tests of kept parts say.
use Rattle.std.proofs.Common.{◌≡◌, ℕ, true, List, Some, None, subst, ap, refl}
use Rattle.std.specs.Option.{option_map_or}
use Rattle.ftc_vector.specs.Commits.{vector_of}
use Rattle.ftc_journal.specs.declared.event.VisitName.{VisitName}
use Rattle.ftc_machine.specs.declared.state.footprint.Footprint.{Footprint}
use Rattle.ftc_machine.specs.Frontier.{Footprints, is_had_by}
use Rattle.ftc_machine.specs.LegalityTests.{has_named}

module _ (footprints : Footprints) (reach : List (List ℕ)) (name : VisitName) where
  pub named_some : (footprint : Footprint) (vector : List ℕ) → Some footprint ≡ footprints name.server name.packet →
      vector ≡ vector_of reach name.server
      → is_had_by footprint vector ≡ has_named footprints reach name
  named_some footprint vector there is =
      subst (λ o. is_had_by footprint vector
      ≡ option_map_or (λ (other : Footprint). is_had_by other (vector_of reach name.server)) o true) there
      (ap (is_had_by footprint) is)

  pub named_none : None ≡ footprints name.server name.packet → true ≡ has_named footprints reach name
  named_none nothing =
      subst (λ o. true ≡ option_map_or
      (λ (other : Footprint). is_had_by other (vector_of reach name.server)) o true) nothing refl
