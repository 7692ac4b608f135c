-- The log of a commit: when it may be applied, what it does to the vector, and that it marks something.
use Rattle.std.proofs.Common.{◌≡◌, ◌≢◌, ◌<◌, ◌≤◌, ℕ, Bool, true, false, List, [], ◌∷◌, Option, Some, None, refl, sym}
use Rattle.std.proofs.Common.{ap, subst, ◌∙◌, arith, if◌then◌else◌}
use Rattle.std.proofs.lemmas.Bool.{eq-eqb}
use Rattle.ftc_base.specs.declared.ask.Answer.{Answer}
use Rattle.ftc_base.specs.declared.ask.Write.{Write}
use Rattle.ftc_base.specs.Partition.{partition_of}
use Rattle.ftc_base.specs.declared.limits.TheConstants.{MOST_PARTITIONS}
use Rattle.ftc_vector.specs.Vector.{number_at, mark_at, raised, need_of}
use Rattle.ftc_vector.specs.Order.{IsLogReady, IsCovered}
use Rattle.ftc_vector.proofs.Partitions.{get_or-by_partition}
use Rattle.ftc_vector.proofs.Needs.{applied_covered, carried_is}
use Rattle.ftc_message.specs.Bounds.{MarksSome}
use Rattle.ftc_message.specs.Logged.{Logged}
use Rattle.ftc_txn.specs.Touched.{is_touched, vector_after, numbers_before}
use Rattle.ftc_txn.specs.Logs.{IsLogOf}
use Rattle.ftc_txn.proofs.TouchedLists.{raised_is_after}

mark_of : (partitions : ℕ) (answers : List Answer) (vector : List ℕ) (p : ℕ) → p < MOST_PARTITIONS
    → mark_at (numbers_before partitions answers vector) p
    ≡ (if is_touched partitions answers p then Some (number_at vector p) else None)
mark_of partitions answers vector p within = get_or-by_partition _ p None within

module _ (group partitions : ℕ) (vector : List ℕ) (packet : ℕ) (answers : List Answer) (writes : List Write)
    (log : Logged)
    (of : IsLogOf group partitions vector packet answers writes log) where
  has_number : (p carried : ℕ) → p < MOST_PARTITIONS → mark_at log.before p ≡ Some carried →
      number_at vector p ≡ carried
  has_number p carried within marked =
      carried_is (is_touched partitions answers p) (number_at vector p) carried
      (sym (mark_of partitions answers vector p within) ∙ ap (λ (marks : List (Option ℕ)). mark_at marks p)
      (sym of.before) ∙ marked)

  pub log_ready : IsLogReady vector log.before log.changed
  log_ready = record {
    changed_equal = λ p carried within marked _. has_number p carried within marked;
    others_reached = λ p carried within marked _. omega (arith, has_number p carried within marked);
  }

  pub log_raises : vector_after partitions writes vector ≡ raised vector log.changed
  log_raises = sym (raised_is_after partitions writes vector log.changed of.changed)

  pub log_covered : IsCovered (vector_after partitions writes vector) (need_of log.before log.changed)
  log_covered =
      let covered : IsCovered (raised vector log.changed) (need_of log.before log.changed) =
      applied_covered vector log.before log.changed log_ready in
      subst (λ (v : List ℕ). IsCovered v (need_of log.before log.changed)) (sym log_raises) covered

pub first_touched : (partitions : ℕ) (answer : Answer) (answers : List Answer)
    → is_touched partitions (answer ∷ answers) (partition_of partitions answer.key) ≡ true
unfolding is_touched
first_touched partitions answer answers =
    rw (eq-eqb (partition_of partitions answer.key) (partition_of partitions answer.key) refl) refl

pub marks_some : (partitions : ℕ) (vector : List ℕ) (answers : List Answer) → 1 ≤ partitions →
    partitions ≤ MOST_PARTITIONS
    → answers ≢ [] → MarksSome (numbers_before partitions answers vector)
marks_some partitions vector [] some within isnt = absurd (isnt refl)
marks_some partitions vector (answer ∷ answers) some within isnt =
    let low : partition_of partitions answer.key < MOST_PARTITIONS = omega arith in
    record {
      some = (
        partition_of partitions answer.key,
        rw (
          mark_of partitions (answer ∷ answers) vector (partition_of partitions answer.key) low,
          first_touched partitions answer answers,
        ) refl,
      );
    }

pub log_marks_some : (group partitions : ℕ) (vector : List ℕ) (packet : ℕ) (answers : List Answer) (writes : List Write)
    (log : Logged)
    → IsLogOf group partitions vector packet answers writes log → 1 ≤ partitions → partitions ≤ MOST_PARTITIONS
    → answers ≢ [] → MarksSome log.before
log_marks_some group partitions vector packet answers writes log of some within isnt =
    subst MarksSome (sym of.before) (marks_some partitions vector answers some within isnt)
