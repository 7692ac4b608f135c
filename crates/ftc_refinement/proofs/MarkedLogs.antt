-- The log of a visit that touches something marks a partition, and so does its need.
use Rattle.std.proofs.Common.{◌≡◌, ◌∙◌, ◌<◌, ◌≤◌, ◌∷◌, ℕ, Bool, true, List, [], Option, Some, None, refl, sym, ap}
use Rattle.std.proofs.Common.{subst, cond, arith, inl, inr}
use Rattle.std.specs.Prelude.{IsSome}
use Rattle.std.proofs.lemmas.Bool.{eq-eqb}
use Rattle.ftc_base.specs.declared.ask.Answer.{Answer}
use Rattle.ftc_base.specs.declared.limits.TheConstants.{MOST_PARTITIONS}
use Rattle.ftc_base.specs.Partition.{partition_of}
use Rattle.ftc_base.specs.Sets.{has}
use Rattle.ftc_message.specs.Bounds.{MarksSome}
use Rattle.ftc_message.specs.Logged.{Logged}
use Rattle.ftc_vector.specs.Vector.{by_partition, mark_at, need_at}
use Rattle.ftc_vector.proofs.Partitions.{get_or-by_partition}
use Rattle.ftc_vector.proofs.Needs.{mark_at-need_of}
use Rattle.ftc_serial.specs.Serial.{Entry, Visited, Given}
use Rattle.ftc_serial.specs.Take.{Outcome}
use Rattle.ftc_txn.specs.Touched.{is_touched}
use Rattle.ftc_txn.proofs.CommitLogs.{first_touched}
use Rattle.ftc_protocol.specs.Changes.{is_some_list, is_touching}
use Rattle.ftc_protocol.specs.Setting.{Setting, IsSetting}
use Rattle.ftc_protocol.specs.Trace.{IsInTrace, IsTouching}
use Rattle.ftc_protocol.proofs.TraceLemmas.{stands_map}
use Rattle.ftc_ties.specs.Logs.{IsLogIn}
use Rattle.ftc_ties.specs.Numbers.{IsTrace, before_of}
use Rattle.ftc_ties.specs.Servers.{IsNeedIn}

-- ---- a visit stands once, so what is said of it is said of one outcome

module _ (partitions : ℕ) (P Q : Outcome → Type 0) (group packet : ℕ) where
  twice : (older : List Entry) (other another : ℕ) (R : Outcome → Type 0) → other ≡ group → another ≡ packet →
      IsInTrace R older group packet → IsInTrace (λ outcome. Unit {0}) older other another
  twice older other another R group_is packet_is stands =
      subst (λ g. IsInTrace (λ outcome. Unit {0}) older g another) (sym group_is)
      (subst (λ p. IsInTrace (λ outcome. Unit {0}) older group p) (sym packet_is)
      (stands_map R (λ outcome. Unit {0}) (λ outcome is. tt) older group packet stands))

  both_stand : (trace : List Entry) → IsTrace partitions trace → IsInTrace P trace group packet →
      IsInTrace Q trace group packet → (outcome : Outcome) × P outcome × Q outcome
  both_stand [] is first second = absurd first
  both_stand (Given passed bytes ∷ older) is first second = elim first [
    | inl here ↦ absurd here
    | inr more ↦ elim second [
      | inl here ↦ absurd here
      | inr again ↦ both_stand older is more again
    ]
  ]
  both_stand (Visited visited passed outcome ∷ older) is first second = elim first [
    | inl here ↦ elim second [
      | inl also ↦ (outcome, here.2, also.2)
      | inr more ↦ absurd (is.0 (twice older visited passed Q here.0 here.1 more))
    ]
    | inr more ↦ elim second [
      | inl here ↦ absurd (is.0 (twice older visited passed P here.0 here.1 more))
      | inr again ↦ both_stand older is.2 more again
    ]
  ]

-- ---- it touches the partition of its first answer

-- a partition that marks give a number
pub record IsMarked (marks : List (Option ℕ)) : Type 0 where
  pub partition : ℕ
  pub within : partition < MOST_PARTITIONS
  pub some : IsSome (mark_at marks partition)

touched_marked : (partitions : ℕ) (numbers : ℕ → ℕ) (answers : List Answer) → 0 < partitions →
    partitions ≤ MOST_PARTITIONS → is_some_list answers ≡ true →
    IsMarked (by_partition (λ partition. cond (is_touched partitions answers partition)
    (Some (numbers partition)) None))
touched_marked partitions numbers [] some few touching = absurd cc
touched_marked partitions numbers (answer ∷ answers) some few touching =
    let at = partition_of partitions answer.key in
    let within : partition_of partitions answer.key < MOST_PARTITIONS = omega arith in
    record {
      partition = at;
      within = within;
      some = subst IsSome (sym (get_or-by_partition
          (λ partition. cond (is_touched partitions (answer ∷ answers) partition)
          (Some (numbers partition)) None) at None within
          ∙ ap (λ b. cond b (Some (numbers at)) None) (first_touched partitions answer answers))) refl;
    }

module _ (setting : Setting) (right : IsSetting setting) (trace : List Entry)
    (is : IsTrace setting.partitions trace) where
  log_marked : (log : Logged) → IsLogIn setting.partitions trace log → IsTouching trace log.group log.origin →
      IsMarked log.before
  log_marked log of_log touching =
      let both = both_stand setting.partitions (λ outcome. outcome ≡ of_log.outcome) (λ outcome. is_touching outcome
      ≡ true)
      log.group log.origin trace is of_log.there touching in
      subst IsMarked (sym of_log.before)
      (touched_marked setting.partitions
      (before_of setting.partitions trace log.group log.origin) of_log.outcome.answers
      right.some_partition right.few_partitions (ap is_touching (sym both.1) ∙ both.2))

  pub log_marks : (log : Logged) → IsLogIn setting.partitions trace log → IsTouching trace log.group log.origin →
      MarksSome log.before
  log_marks log of_log touching =
      let marked = log_marked log of_log touching in record { some = (marked.partition, marked.some) }

  need_some : (mark : Option ℕ) (changed : Bool) → IsSome mark → IsSome (need_at mark changed)
  need_some None changed some = absurd cc
  need_some (Some carried) changed some = refl

  pub need_marks : (group packet : ℕ) (marks : List (Option ℕ)) → IsNeedIn setting.partitions trace group packet marks →
      IsTouching trace group packet → MarksSome marks
  need_marks group packet marks need touching =
      let log = need.log in
      let marked = log_marked log need.log_of
      (subst (λ g. IsTouching trace g log.origin) (sym need.group_is)
      (subst (λ p. IsTouching trace group p) (sym need.origin_is) touching)) in
      let at = marked.partition in
      record {
        some = (
          at,
          subst IsSome (sym (ap (λ (m : List (Option ℕ)). mark_at m at) need.marks_are
              ∙ mark_at-need_of log.before log.changed at marked.within))
              (need_some (mark_at log.before at) (has log.changed at) marked.some),
        );
      }
