-- What the marks of a visit tell of it.
use Rattle.std.proofs.Common.{◌≡◌, ℕ, suc, ◌<◌, ◌≤◌, ◌+◌, ◌==◌, if◌then◌else◌, Bool, true, false, List, [], ◌∷◌, length}
use Rattle.std.proofs.Common.{Option, Some, None, inl, inr, refl, sym, ap, subst, ◌∙◌, arith, eqb-true, eq-eqb, le-leb}
use Rattle.std.proofs.Common.{leb-true, lt-ltb}
use Rattle.std.specs.Prelude.{nat_le, nat_lt}
use Rattle.std.specs.List.{AllByRecursion, list_all}
use Rattle.std.proofs.lemmas.Bool.{true≢false, and_parts, and_from, or_cases, or_left, or_right, cond-true}
use Rattle.std.proofs.lemmas.Bool.{false_from_ne_true}
use Rattle.ftc_base.specs.Sets.{has}
use Rattle.ftc_base.specs.Partition.{partition_of}
use Rattle.ftc_base.specs.declared.ask.Answer.{Answer}
use Rattle.ftc_base.specs.declared.limits.TheConstants.{MOST_PARTITIONS}
use Rattle.ftc_base.proofs.EachOf.{all-weaker, all_tests, tests_all}
use Rattle.ftc_serial.specs.Words.{AnyOf}
use Rattle.ftc_serial.specs.Take.{Outcome}
use Rattle.ftc_serial.specs.Serial.{Entry}
use Rattle.ftc_serial.proofs.Functions.{any_of_all}
use Rattle.ftc_txn.specs.Touched.{is_touched}
use Rattle.ftc_vector.specs.Vector.{number_at, mark_at, need_at}
use Rattle.ftc_vector.specs.Order.{IsCovered}
use Rattle.ftc_vector.proofs.Needs.{mark_at-need_of}
use Rattle.ftc_protocol.specs.Changes.{is_touching, is_some_list}
use Rattle.ftc_protocol.specs.Trace.{IsTouching, IsSomeVisit}
use Rattle.ftc_protocol.proofs.TraceLemmas.{stands_map}
use Rattle.ftc_ties.specs.Numbers.{IsTrace, before_of}
use Rattle.ftc_ties.proofs.Logging.{mark_is, only_one}
use Rattle.ftc_visits.specs.declared.visit.MadeVisit.{MadeVisit}
use Rattle.ftc_visits.specs.declared.visit.Mark.{Mark}
use Rattle.ftc_visits.specs.Made.{AreMarksOf, IsMadeIn}
use Rattle.ftc_visits.specs.Undoing.{is_reached}

-- ---- which answers touch

-- each answer touches its partition
pub touched_each : (partitions : ℕ) (answers : List Answer) →
    AllByRecursion (λ (answer : Answer). is_touched partitions answers (partition_of partitions answer.key) ≡ true)
    answers
unfolding is_touched
touched_each partitions [] = tt
touched_each partitions (answer ∷ answers) = (
  or_left (partition_of partitions answer.key == partition_of partitions answer.key)
      (is_touched partitions answers (partition_of partitions answer.key))
      (eq-eqb (partition_of partitions answer.key) (partition_of partitions answer.key) refl),
  all-weaker (λ (other : Answer). is_touched partitions answers (partition_of partitions other.key) ≡ true)
      (λ (other : Answer). is_touched partitions (answer ∷ answers) (partition_of partitions other.key) ≡ true)
      (λ other is. or_right (partition_of partitions other.key == partition_of partitions answer.key)
      (is_touched partitions answers (partition_of partitions other.key)) is)
      answers (touched_each partitions answers),
)

pub touched_by : (partitions partition : ℕ) (answers : List Answer) → is_touched partitions answers partition ≡ true →
    AnyOf (λ (answer : Answer). partition_of partitions answer.key ≡ partition) answers
unfolding is_touched
touched_by partitions partition [] is = absurd (true≢false (sym is))
touched_by partitions partition (answer ∷ answers) is = elim
    (or_cases (partition == partition_of partitions answer.key) (is_touched partitions answers partition) is) [
      | inl here ↦ inl (sym (eqb-true partition (partition_of partitions answer.key) here))
      | inr there ↦ inr (touched_by partitions partition answers there)
    ]

pub partition_within : (partitions : ℕ) (key : List ℕ) → 0 < partitions → partitions ≤ MOST_PARTITIONS →
    partition_of partitions key < MOST_PARTITIONS
partition_within partitions key some few = omega arith

-- ---- marks that are reached

module _ (vector : List ℕ) (marks : List (Option ℕ)) (needed : List Mark) (are : AreMarksOf marks needed) where
  pub covered_reached : IsCovered vector marks → list_all (is_reached vector) needed ≡ true
  covered_reached covered = all_tests (is_reached vector) needed (all-weaker
      (λ (mark : Mark). mark.partition < MOST_PARTITIONS × (mark_at marks mark.partition ≡ Some mark.number))
      (λ (mark : Mark). is_reached vector mark ≡ true)
      (λ mark is. and_from (nat_lt mark.partition MOST_PARTITIONS)
      (nat_le mark.number (number_at vector mark.partition))
      (lt-ltb mark.partition MOST_PARTITIONS is.0)
      (le-leb mark.number (number_at vector mark.partition) (covered.reached mark.partition mark.number is.0 is.1)))
      needed are.each)

  pub reached_covered : list_all (is_reached vector) needed ≡ true → IsCovered vector marks
  reached_covered reached = record {
    reached = λ partition least within is. any_of_all
        (λ (mark : Mark). (mark.partition ≡ partition) × (mark.number ≡ least))
        (λ (mark : Mark). mark.number ≤ number_at vector mark.partition) needed
        (λ mark same low. subst (λ n. n ≤ number_at vector partition) same.1
        (subst (λ p. mark.number ≤ number_at vector p) same.0 low))
        (are.all partition least within is)
        (all-weaker (λ (mark : Mark). is_reached vector mark ≡ true)
        (λ (mark : Mark). mark.number ≤ number_at vector mark.partition)
        (λ mark test. leb-true mark.number (number_at vector mark.partition)
        (and_parts (nat_lt mark.partition MOST_PARTITIONS)
        (nat_le mark.number (number_at vector mark.partition)) test).1) needed
        (tests_all (is_reached vector) needed reached));
  }

-- ---- a visit that touches something

reads : (partitions partition : ℕ) (answers : List Answer) → is_touched partitions answers partition ≡ true →
    is_some_list answers ≡ true
unfolding is_touched
reads partitions partition [] none = absurd (true≢false (sym none))
reads partitions partition (answer ∷ answers) some = refl

is_read : (outcome : Outcome) (partitions partition : ℕ) → is_touched partitions outcome.answers partition ≡ true →
    is_touching outcome ≡ true
is_read outcome partitions partition is = reads partitions partition outcome.answers is

some_mark : (mark : Option ℕ) (changed : Bool) (number : ℕ) → need_at mark changed ≡ Some number →
    (before : ℕ) × (mark ≡ Some before)
some_mark None changed number is = absurd cc
some_mark (Some before) changed number is = (before, refl)

when : (b : Bool) (number before : ℕ) → (if b then Some number else None) ≡ Some before → b ≡ true
when true number before is = refl
when false number before is = absurd cc

module _ (partitions : ℕ) (some : 0 < partitions) (few : partitions ≤ MOST_PARTITIONS) (trace : List Entry)
    (is : IsTrace partitions trace)
    (visit : MadeVisit) (made : IsMadeIn partitions trace visit) where
  at : (partition : ℕ) → partition < MOST_PARTITIONS →
      mark_at made.marks partition ≡ need_at (mark_at made.need.log.before partition)
      (has made.need.log.changed partition)
  at partition within = ap (λ (m : List (Option ℕ)). mark_at m partition) made.need.marks_are
      ∙ mark_at-need_of made.need.log.before made.need.log.changed partition within

  before_at : (partition : ℕ) → partition < MOST_PARTITIONS → mark_at made.need.log.before partition
      ≡ (if is_touched partitions made.need.log_of.outcome.answers partition then Some
      (before_of partitions trace made.need.log.group made.need.log.origin partition) else None)
  before_at partition within = mark_is partitions some few trace is made.need.log made.need.log_of partition within

  moves : (P : ℕ → ℕ → Type 0) → P made.need.log.group made.need.log.origin → P visit.server visit.packet
  moves P is_it = subst (λ p. P visit.server p) made.need.origin_is
      (subst (λ g. P g made.need.log.origin) made.need.group_is is_it)

  moves_back : (P : ℕ → ℕ → Type 0) → P visit.server visit.packet → P made.need.log.group made.need.log.origin
  moves_back P is_it = subst (λ p. P made.need.log.group p) (sym made.need.origin_is)
      (subst (λ g. P g visit.packet) (sym made.need.group_is) is_it)

  pub some_touching : (length visit.needed.items == 0) ≡ false → IsTouching trace visit.server visit.packet
  some_touching nonempty = moves (IsTouching trace)
      (stands_map (λ o. o ≡ made.need.log_of.outcome) (λ o. is_touching o ≡ true)
      (λ o same. subst (λ (u : Outcome). is_touching u ≡ true) (sym same)
      (touches visit.needed.items made.needed.each nonempty)) trace made.need.log.group made.need.log.origin
      made.need.log_of.there)
    where
      touches : (needed : List Mark) →
          AllByRecursion (λ (mark : Mark). mark.partition < MOST_PARTITIONS ×
          (mark_at made.marks mark.partition ≡ Some mark.number)) needed
          → (length needed == 0) ≡ false → is_touching made.need.log_of.outcome ≡ true
      touches [] each empty = absurd cc
      touches (mark ∷ needed) each some_mark_there =
          let p = mark.partition in
          let b = some_mark (mark_at made.need.log.before p) (has made.need.log.changed p) mark.number
          (sym (at p each.0.0) ∙ each.0.1) in
          is_read made.need.log_of.outcome partitions p (when (is_touched partitions made.need.log_of.outcome.answers p)
          (before_of partitions trace made.need.log.group made.need.log.origin p) b.0
          (sym (before_at p each.0.0) ∙ b.1))

  pub touching_some : IsTouching trace visit.server visit.packet → (length visit.needed.items == 0) ≡ false
  touching_some touching =
      reads made.need.log_of.outcome.answers refl
      (only_one partitions (λ o. is_touching o ≡ true) made.need.log_of.outcome trace is made.need.log.group
      made.need.log.origin
      (moves_back (IsTouching trace) touching) made.need.log_of.there)
    where
      nonempty : (Q : Mark → Type 0) (needed : List Mark) → AnyOf Q needed → (length needed == 0) ≡ false
      nonempty Q [] any = absurd any
      nonempty Q (mark ∷ needed) any = omega_free (length needed)
        where
          omega_free : (n : ℕ) → (suc n == 0) ≡ false
          omega_free n = false_from_ne_true (suc n == 0)
              (λ same. let e : suc n ≡ 0 = eqb-true (suc n) 0 same in absurd (omega arith))

      marks_at : (answer : Answer) → is_touched partitions made.need.log_of.outcome.answers
          (partition_of partitions answer.key) ≡ true → (length visit.needed.items == 0) ≡ false
      marks_at answer touched =
          let p = partition_of partitions answer.key in
          let within = partition_within partitions answer.key some few in
          let number = before_of partitions trace made.need.log.group made.need.log.origin p in
          let mark : mark_at made.need.log.before p ≡ Some number = before_at p within ∙ cond-true
          (is_touched partitions made.need.log_of.outcome.answers p) (Some number) None touched in
          nonempty (λ (m : Mark). (m.partition ≡ p) ×
          (m.number ≡ (if has made.need.log.changed p then number + 1 else number))) visit.needed.items
          (made.needed.all p (if has made.need.log.changed p then number + 1 else number) within
          (at p within ∙ ap (λ (m : Option ℕ). need_at m (has made.need.log.changed p)) mark))

      reads : (answers : List Answer) → made.need.log_of.outcome.answers ≡ answers →
          is_touching made.need.log_of.outcome ≡ true → (length visit.needed.items == 0) ≡ false
      reads [] none touching = absurd (true≢false (sym touching ∙ ap is_some_list none))
      reads (answer ∷ answers) are touching = marks_at answer
          (subst (λ (a : List Answer). is_touched partitions a (partition_of partitions answer.key) ≡ true) (sym are)
          (touched_each partitions (answer ∷ answers)).0)

  -- it stands in the trace
  pub made_stands : IsSomeVisit trace visit.server visit.packet
  made_stands = moves (IsSomeVisit trace)
      (stands_map (λ o. o ≡ made.need.log_of.outcome) (λ o. Unit {0})
      (λ o same. tt) trace made.need.log.group made.need.log.origin made.need.log_of.there)
