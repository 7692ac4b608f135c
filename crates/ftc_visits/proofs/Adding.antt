-- The marks of a visit that a head commits are its need.
use Rattle.std.proofs.Common.{◌≡◌, ℕ, ◌<◌, ◌≤◌, ◌+◌, ◌==◌, if◌then◌else◌, Bool, true, false, List, [], ◌∷◌, map, Option}
use Rattle.std.proofs.Common.{Some, None, refl, sym, ap, subst, ◌∙◌}
use Rattle.std.specs.List.{AllByRecursion}
use Rattle.std.specs.Prelude.{IfSome, IsNone, ◌↔◌}
use Rattle.std.proofs.lemmas.Bool.{cond-true}
use Rattle.std.proofs.lemmas.Nat.Bits.{bit_at-zero}
use Rattle.std.proofs.lemmas.Option.{same_Some}
use Rattle.ftc_base.specs.Sets.{has}
use Rattle.ftc_base.specs.Partition.{partition_of}
use Rattle.ftc_base.specs.declared.ask.Answer.{Answer}
use Rattle.ftc_base.specs.declared.ask.Write.{Write}
use Rattle.ftc_base.specs.declared.limits.TheConstants.{MOST_PARTITIONS}
use Rattle.ftc_base.proofs.EachOf.{all-weaker}
use Rattle.ftc_base.proofs.Members.{has-zero}
use Rattle.ftc_message.specs.Logged.{Logged}
use Rattle.ftc_serial.specs.Reads.{IsRead}
use Rattle.ftc_serial.specs.Serial.{Entry}
use Rattle.ftc_txn.specs.Logs.{IsLogOf}
use Rattle.ftc_txn.specs.Touched.{is_touched, is_changed, numbers_before, vector_after}
use Rattle.ftc_vector.specs.Vector.{number_at, mark_at, need_at, need_of}
use Rattle.ftc_vector.proofs.Needs.{mark_at-need_of}
use Rattle.ftc_vector.proofs.Partitions.{get_or-by_partition}
use Rattle.ftc_txn.proofs.TouchedLists.{changed_none}
use Rattle.ftc_ties.specs.Logs.{IsLogIn}
use Rattle.ftc_visits.specs.declared.visit.MadeVisit.{MadeVisit}
use Rattle.ftc_visits.specs.declared.visit.Mark.{Mark}
use Rattle.ftc_visits.specs.Made.{name_of, mark_of, AreMarksOf, IsMadeBy, IsMadeIn}
use Rattle.ftc_visits.proofs.Lists.{all_map, any_map, any_to, all_some}
use Rattle.ftc_visits.proofs.Needs.{touched_each, touched_by, partition_within}

needs_touched : (touched changed : Bool) (number needed : ℕ) →
    need_at (if touched then Some number else None) changed ≡ Some needed →
    (touched ≡ true) × ((if changed then number + 1 else number) ≡ needed)
needs_touched true changed number needed is = (refl, same_Some (if changed then number + 1 else number) needed is)
needs_touched false changed number needed is = absurd cc

module _ (partitions server packet : ℕ) (some : 0 < partitions) (few : partitions ≤ MOST_PARTITIONS)
    (vector after : List ℕ) (answers : List Answer) (writes : List Write) (log : Logged)
    (of_visit : IsLogOf server partitions vector packet answers writes log)
    (raised : after ≡ vector_after partitions writes vector) where
  -- what the need of the log has at a partition
  need_there : (partition : ℕ) → partition < MOST_PARTITIONS → mark_at (need_of log.before log.changed) partition
      ≡ need_at (if is_touched partitions answers partition then Some (number_at vector partition) else None)
      (is_changed partitions writes partition)
  need_there partition within =
      mark_at-need_of log.before log.changed partition within
      ∙ (ap (λ (marks : List (Option ℕ)). need_at (mark_at marks partition) (has log.changed partition)) of_visit.before
      ∙ (ap (λ (mark : Option ℕ). need_at mark (has log.changed partition))
      (get_or-by_partition (λ p. if is_touched partitions answers p then Some (number_at vector p) else None)
      partition None within)
      ∙ ap (need_at (if is_touched partitions answers partition then Some (number_at vector partition) else None))
      (of_visit.changed partition)))

  -- and the vector behind the visit
  number_there : (partition : ℕ) → partition < MOST_PARTITIONS → number_at after partition
      ≡ (if is_changed partitions writes partition then number_at vector partition + 1 else number_at vector partition)
  number_there partition within =
      ap (λ (v : List ℕ). number_at v partition) raised
      ∙ get_or-by_partition
      (λ p. if is_changed partitions writes p then number_at vector p + 1 else number_at vector p) partition 0 within

  mark_there : (partition : ℕ) → partition < MOST_PARTITIONS → is_touched partitions answers partition ≡ true →
      mark_at (need_of log.before log.changed) partition ≡ Some (number_at after partition)
  mark_there partition within touched =
      need_there partition within
      ∙ (ap (λ (mark : Option ℕ). need_at mark (is_changed partitions writes partition))
      (cond-true (is_touched partitions answers partition) (Some (number_at vector partition)) None touched)
      ∙ ap Some (sym (number_there partition within)))

  are_marks : AreMarksOf (need_of log.before log.changed) (map (mark_of partitions after) answers)
  are_marks = record {
    each = all_map (λ (mark : Mark). mark.partition < MOST_PARTITIONS
        × (mark_at (need_of log.before log.changed) mark.partition ≡ Some mark.number))
        (mark_of partitions after) answers
        (all-weaker (λ (answer : Answer). is_touched partitions answers (partition_of partitions answer.key) ≡ true)
        (λ (answer : Answer). partition_of partitions answer.key < MOST_PARTITIONS
        × (mark_at (need_of log.before log.changed) (partition_of partitions answer.key)
        ≡ Some (number_at after (partition_of partitions answer.key))))
        (λ answer touched. (
          partition_within partitions answer.key some few,
          mark_there (partition_of partitions answer.key) (partition_within partitions answer.key some few) touched,
        ))
        answers (touched_each partitions answers));
    all = λ partition number within is.
        let says = needs_touched (is_touched partitions answers partition) (is_changed partitions writes partition)
        (number_at vector partition) number (sym (need_there partition within) ∙ is) in
        any_map (λ (mark : Mark). (mark.partition ≡ partition) × (mark.number ≡ number))
        (mark_of partitions after) answers
        (any_to (λ (answer : Answer). partition_of partitions answer.key ≡ partition)
        (λ (answer : Answer). (partition_of partitions answer.key ≡ partition)
        × (number_at after (partition_of partitions answer.key) ≡ number)) (λ answer. Unit {0})
        (λ answer same _. (same, ap (number_at after) same ∙ (number_there partition within ∙ says.1)))
        answers (touched_by partitions partition answers says.0) (all_some answers));
  }

  -- where the trace has the log, the visit with these marks is made
  pub made_with : (trace : List Entry) (made : MadeVisit) → IsLogIn partitions trace log →
      IsMadeBy partitions server packet answers after made → IsMadeIn partitions trace made
  made_with trace made log_of by = record {
    marks = need_of log.before log.changed;
    need = record {
      log = log;
      log_of = log_of;
      group_is = of_visit.group ∙ sym by.server_is;
      origin_is = of_visit.origin ∙ sym by.packet_is;
      marks_are = refl;
    };
    needed = subst (AreMarksOf (need_of log.before log.changed)) (sym by.needed) are_marks;
  }

-- the log of a commit: what it logged, or, where it read nothing, one of nothing
pub log_made : (server partitions : ℕ) (vector : List ℕ) (packet : ℕ) (answers : List Answer) (writes : List Write)
    (log : Option Logged) → IfSome log (IsLogOf server partitions vector packet answers writes) →
    IsNone log ↔ (answers ≡ []) → AllByRecursion (λ (write : Write). IsRead answers write.key) writes →
    (made : Logged) × IsLogOf server partitions vector packet answers writes made
log_made server partitions vector packet answers writes (Some log) logged none reads = (log, logged)
log_made server partitions vector packet answers writes None logged none reads = (
  record {
    group = server;
    origin = packet;
    before = numbers_before partitions answers vector;
    changed = 0;
    writes = writes;
  },
  record {
    group = refl;
    origin = refl;
    before = refl;
    changed = λ partition. has-zero partition ∙ sym
        (ap (λ (w : List Write). is_changed partitions w partition) (none_written writes
        (subst (λ (a : List Answer). AllByRecursion (λ (write : Write). IsRead a write.key) writes)
        (none.0 refl) reads))
        ∙ changed_none partitions partition);
    writes = refl;
  },
)
  where
    none_written : (made : List Write) → AllByRecursion (λ (write : Write). IsRead [] write.key) made → made ≡ []
    none_written [] all = refl
    none_written (write ∷ made) all = absurd all.0

pub named : (partitions server packet : ℕ) (answers : List Answer) (vector : List ℕ) (made : MadeVisit) →
    IsMadeBy partitions server packet answers vector made → name_of made ≡ record { server = server; packet = packet }
named partitions server packet answers vector made by = λ i. record { server = by.server_is i; packet = by.packet_is i }
