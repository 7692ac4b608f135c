-- Made visits last while they stand in the trace.
use Rattle.std.proofs.Common.{◌≡◌, ℕ, not, List, Option, map, filter, sym, ap, subst, ◌∙◌}
use Rattle.std.specs.List.{AllByRecursion}
use Rattle.std.proofs.lemmas.Bool.{not-true}
use Rattle.ftc_base.proofs.EachOf.{all_zip}
use Rattle.ftc_journal.specs.declared.event.VisitName.{VisitName}
use Rattle.ftc_serial.specs.Serial.{Entry}
use Rattle.ftc_serial.specs.Trace.{names}
use Rattle.ftc_serial.specs.Removal.{left_of}
use Rattle.ftc_protocol.specs.Recovery.{visits_in}
use Rattle.ftc_protocol.specs.Trace.{IsSomeVisit}
use Rattle.ftc_protocol.proofs.TraceLemmas.{visit_left}
use Rattle.ftc_ties.specs.Servers.{IsNeedIn}
use Rattle.ftc_visits.specs.declared.visit.MadeVisit.{MadeVisit}
use Rattle.ftc_visits.specs.Made.{name_of, IsMadeIn}
use Rattle.ftc_visits.specs.Undoing.{without}
use Rattle.ftc_visits.proofs.Lists.{all_filter, filter_map}
use Rattle.ftc_visits.proofs.Trace.{made_stand, left_visits}
use Rattle.ftc_visits.proofs.Passing.{without_filter}

-- a need lasts while its visit stands
abbrev pub NeedsLast : ℕ → List Entry → List Entry → Type 0
NeedsLast partitions before after = (group packet : ℕ) (marks : List (Option ℕ)) →
    IsNeedIn partitions before group packet marks → IsSomeVisit after group packet →
    IsNeedIn partitions after group packet marks

module _ (partitions : ℕ) (before after : List Entry) (last : NeedsLast partitions before after) where
  pub made_lasts : (visit : MadeVisit) → IsSomeVisit after visit.server visit.packet →
      IsMadeIn partitions before visit →
      IsMadeIn partitions after visit
  made_lasts visit there made = record {
    marks = made.marks;
    need = last visit.server visit.packet made.marks made.need there;
    needed = made.needed;
  }

  -- all of them, where each visit that stood still does
  pub all_last : (visits : List MadeVisit) → map name_of visits ≡ visits_in before →
      ((server packet : ℕ) → IsSomeVisit before server packet → IsSomeVisit after server packet) →
      AllByRecursion (IsMadeIn partitions before) visits → AllByRecursion (IsMadeIn partitions after) visits
  all_last visits are stay made =
      all_zip (λ (visit : MadeVisit). IsSomeVisit before visit.server visit.packet) (IsMadeIn partitions before)
      (IsMadeIn partitions after) (λ visit there. made_lasts visit (stay visit.server visit.packet there)) visits
      (made_stand before visits are) made

-- those that a recovery leaves
module _ (partitions : ℕ) (trace : List Entry) (undone : List VisitName) (visits : List MadeVisit)
    (are : map name_of visits ≡ visits_in trace)
    (order : undone ≡ filter (λ (name : VisitName). names undone name.server name.packet) (visits_in trace)) where
  without_is : without undone visits ≡ filter
      (λ (visit : MadeVisit). not (names undone visit.server visit.packet)) visits
  without_is =
      ap (λ (list : List VisitName). without list visits)
      (order ∙ ap (filter (λ (name : VisitName). names undone name.server name.packet)) (sym are))
      ∙ without_filter (names undone) visits

  pub names_left : map name_of (without undone visits) ≡ visits_in (left_of (names undone) trace)
  names_left =
      ap (map name_of) without_is
      ∙ (filter_map (λ (name : VisitName). not (names undone name.server name.packet)) name_of visits
      ∙ (ap (filter (λ (name : VisitName). not (names undone name.server name.packet))) are
      ∙ sym (left_visits (names undone) trace)))

  pub each_left : NeedsLast partitions trace (left_of (names undone) trace) →
      AllByRecursion (IsMadeIn partitions trace) visits →
      AllByRecursion (IsMadeIn partitions (left_of (names undone) trace)) (without undone visits)
  each_left last made =
      let stands = all_zip (λ (visit : MadeVisit). IsSomeVisit trace visit.server visit.packet)
      (IsMadeIn partitions trace)
      (λ (visit : MadeVisit). IsSomeVisit trace visit.server visit.packet × IsMadeIn partitions trace visit)
      (λ visit there is. (there, is)) visits (made_stand trace visits are) made in
      subst (AllByRecursion (IsMadeIn partitions (left_of (names undone) trace))) (sym without_is)
      (all_filter (λ (visit : MadeVisit). not (names undone visit.server visit.packet))
      (λ (visit : MadeVisit). IsSomeVisit trace visit.server visit.packet × IsMadeIn partitions trace visit)
      (IsMadeIn partitions (left_of (names undone) trace))
      (λ visit stays both. made_lasts partitions trace (left_of (names undone) trace) last visit
      (visit_left (names undone) (λ o. Unit {0}) trace visit.server visit.packet both.0
      (not-true (names undone visit.server visit.packet) stays)) both.1) visits stands)
