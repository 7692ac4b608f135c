-- A log that waits is lacking and can't be applied, and a message that rests has no work.
use Rattle.std.proofs.Common.{◌≡◌, ◌≤◌, ◌<◌, ◌+◌, ◌∙◌, ◌&&◌, ◌||◌, not, ℕ, Bool, true, false, List, [], ◌∷◌, Option}
use Rattle.std.proofs.Common.{Some, None, length, refl, sym, ap, cond, subst, arith}
use Rattle.std.specs.Prelude.{◌==◌, find, is_some, nat_lt}
use Rattle.std.specs.List.{list_all, list_any}
use Rattle.std.proofs.lemmas.Bool.{le-leb, ltb-true, false≢true, false_from_ne_true, and_right, and_parts}
use Rattle.std.proofs.lemmas.Option.{same_Some}
use Rattle.ftc_base.specs.Sets.{has}
use Rattle.ftc_base.specs.declared.limits.TheConstants.{MOST_PARTITIONS}
use Rattle.ftc_base.proofs.Bools.{not_both}
use Rattle.ftc_message.specs.Logged.{Logged, logs_rise}
use Rattle.ftc_message.specs.Ordered.{is_log_of}
use Rattle.ftc_replica.specs.Held.{Held}
use Rattle.ftc_replica.specs.declared.waits.Wait.{Wait}
use Rattle.ftc_vector.specs.Order.{reaches}
use Rattle.ftc_vector.specs.Vector.{mark_at, number_at, need_of, need_at}
use Rattle.ftc_vector.proofs.OrderTests.{covered, ready}
use Rattle.ftc_vector.proofs.Needs.{mark_at-need_of}
use Rattle.ftc_server.specs.declared.held.HeldMessage.{HeldMessage}
use Rattle.ftc_server.specs.Holding.{found, log_of}
use Rattle.ftc_server.specs.Replicas.{replica_at, has_log, is_had, may_apply, may_apply_to, is_ready}
use Rattle.ftc_server.specs.Work.{is_packet_of, next_log, work_behind, has_work, last_work}
use Rattle.ftc_server.specs.Waiting.{first_ahead, ahead_of, is_ahead, has_reached, is_unreached, is_wait_of, waits}
use Rattle.ftc_server.specs.Waiting.{carries, is_named, is_had_or_waits, is_put_off, is_had_or_ahead, is_idle}
use Rattle.ftc_server.proofs.Ahead.{first_passes}
use Rattle.ftc_server.proofs.Finding.{and_both, passes_found}
use Rattle.ftc_server.proofs.Named.{of_whom, carried, marked}
use Rattle.ftc_server.proofs.EachFound.{each_found, some_found, any_found}
use Rattle.ftc_server.proofs.ListTests.{all_both}

-- ---- a number that a had log, or one that may be applied, carries is reached

need_least : (number : ℕ) (changed : Bool) → (need : ℕ) → need_at (Some number) changed ≡ Some need → number ≤ need
need_least number true need is = let e : number + 1 ≡ need = cc in omega (arith, e)
need_least number false need is = let e : number ≡ need = cc in omega (arith, e)

pub had_reached : (slot : Option Held) (log : Logged) (partition number : ℕ) → has_log slot log ≡ true →
    partition < MOST_PARTITIONS → mark_at log.before partition ≡ Some number → has_reached slot partition number ≡ true
had_reached None log partition number had within mark = refl
had_reached (Some held) log partition number had within mark =
    let need = need_at (Some number) (has log.changed partition) in
    let is = (covered held.vector (need_of log.before log.changed)).0 had in
    let at : mark_at (need_of log.before log.changed) partition ≡ need_at (Some number) (has log.changed partition) =
    mark_at-need_of log.before log.changed partition within
    ∙ ap (λ m. need_at m (has log.changed partition)) mark in
    elim (has log.changed partition) as (λ t. mark_at (need_of log.before log.changed) partition
    ≡ need_at (Some number) t → reaches (number_at held.vector partition) (Some number) ≡ true) [
      | true ↦ λ least.
          let reached = is.reached partition (number + 1) within least in
          le-leb number (number_at held.vector partition) (omega (arith, reached))
      | false ↦ λ least. le-leb number (number_at held.vector partition) (is.reached partition number within least)
    ] at

pub applied_reached : (slot : Option Held) (log : Logged) (partition number : ℕ) → may_apply_to slot log ≡ true →
    partition < MOST_PARTITIONS → mark_at log.before partition ≡ Some number → has_reached slot partition number ≡ true
applied_reached None log partition number may within mark = absurd cc
applied_reached (Some held) log partition number may within mark =
    let is = (ready held.vector log.before log.changed).0 may in
    elim (has log.changed partition) as (λ t. has log.changed partition ≡ t →
    reaches (number_at held.vector partition) (Some number) ≡ true) [
      | true ↦ λ changed.
          let same = is.changed_equal partition number within mark changed in
          le-leb number (number_at held.vector partition) (omega (arith, same))
      | false ↦ λ unchanged.
          le-leb number (number_at held.vector partition) (is.others_reached partition number within mark unchanged)
    ] refl

-- ---- a log that is ahead is lacking

ahead_lacks : (slot : Option Held) (log : Logged) → is_some (ahead_of slot log) ≡ true → has_log slot log ≡ false
ahead_lacks None log is = absurd cc
ahead_lacks (Some held) log is =
    elim (first_ahead held.vector log) as (λ f. first_ahead held.vector log ≡ f → is_some f ≡ true →
    has_log (Some held) log ≡ false) [
      | None ↦ λ none some. absurd cc
      | Some p ↦ λ first some.
          let passes = first_passes held.vector log p first in
          let mark = marked (number_at held.vector p) (mark_at log.before p) passes.0 in
          false_from_ne_true (has_log (Some held) log) (λ had.
          not_both (reaches (number_at held.vector p) (mark_at log.before p)) passes.0
          (ap (reaches (number_at held.vector p)) mark.1
          ∙ had_reached (Some held) log p mark.0 had passes.1 mark.1))
    ] refl is

pub ahead_is_lacking : (replicas : List (Option Held)) (log : Logged) → is_ahead replicas log ≡ true →
    is_had replicas log ≡ false
ahead_is_lacking replicas log is = ahead_lacks (replica_at replicas log.group) log is

-- ---- a log that waits is lacking and can't be applied

waiting_one : (test : Wait → Bool) (is : Wait → Bool) (items : List Wait) → list_all test items ≡ true →
    list_any is items ≡ true → (wait : Wait) × (is wait ≡ true) × (test wait ≡ true)
waiting_one test is [] all any = absurd cc
waiting_one test is (wait ∷ items) all any =
    let parts = and_parts (test wait) (list_all test items) all in
    elim (is wait) as (λ t. is wait ≡ t → t || list_any is items ≡ true →
    (w : Wait) × (is w ≡ true) × (test w ≡ true)) [
      | true ↦ λ it _. (wait, it, parts.0)
      | false ↦ λ _ later. waiting_one test is items parts.1 later
    ] refl any

-- some number that the log carries isn't reached
pub record IsUnreachedIn (replicas : List (Option Held)) (log : Logged) : Type 0 where
  pub partition : ℕ
  pub number : ℕ
  pub within : partition < MOST_PARTITIONS
  pub mark : mark_at log.before partition ≡ Some number
  pub unreached : not (has_reached (replica_at replicas log.group) partition number) ≡ true

pub waits_for_more : (replicas : List (Option Held)) (items : List HeldMessage) (waiting : List Wait) (packet : ℕ)
    (held : HeldMessage) (log : Logged) → found packet items ≡ Some held →
    find (is_log_of log.origin log.group) held.message.logs ≡ Some log → list_all (is_named items) waiting ≡ true →
    list_all (is_unreached replicas) waiting ≡ true → waits waiting packet log ≡ true → IsUnreachedIn replicas log
waits_for_more replicas items waiting packet held log there in_logs named unreached any =
    let one = waiting_one (λ (w : Wait). is_named items w && is_unreached replicas w)
    (is_wait_of packet log.origin log.group) waiting
    (all_both (is_named items) (is_unreached replicas) waiting named unreached) any in
    let wait = one.0 in
    let facts = and_parts (is_named items wait) (is_unreached replicas wait) one.2 in
    let parts = and_parts (nat_lt wait.partition MOST_PARTITIONS) (carries wait.partition wait.number
    (log_of wait.group wait.origin (found wait.packet items))) facts.0 in
    let its = carried wait.partition wait.number (log_of wait.group wait.origin (found wait.packet items)) parts.1 in
    let of = of_whom wait packet log.origin log.group one.1 in
    let here : log_of wait.group wait.origin (found wait.packet items) ≡ Some log =
    ap (λ (g : ℕ). log_of g wait.origin (found wait.packet items)) of.group_is
    ∙ (ap (λ (o : ℕ). log_of log.group o (found wait.packet items)) of.origin_is
    ∙ (ap (λ (p : ℕ). log_of log.group log.origin (found p items)) of.packet_is
    ∙ (ap (log_of log.group log.origin) there ∙ in_logs))) in
    let same = same_Some its.log log (sym its.there ∙ here) in
    record {
      partition = wait.partition;
      number = wait.number;
      within = ltb-true wait.partition MOST_PARTITIONS parts.0;
      mark = subst (λ (l : Logged). mark_at l.before wait.partition ≡ Some wait.number) same its.mark;
      unreached = ap (λ (g : ℕ). not (has_reached (replica_at replicas g) wait.partition wait.number)) (sym of.group_is)
          ∙ facts.1;
    }

pub isnt_had : (replicas : List (Option Held)) (log : Logged) → IsUnreachedIn replicas log → is_had replicas log ≡ false
isnt_had replicas log is = false_from_ne_true (is_had replicas log) (λ had.
    not_both (has_reached (replica_at replicas log.group) is.partition is.number) is.unreached
    (had_reached (replica_at replicas log.group) log is.partition is.number had is.within is.mark))

isnt_allowed : (replicas : List (Option Held)) (log : Logged) → IsUnreachedIn replicas log →
    may_apply replicas log ≡ false
isnt_allowed replicas log is =
    and_right (not (length log.writes == 0)) (may_apply_to (replica_at replicas log.group) log)
    (false_from_ne_true (may_apply_to (replica_at replicas log.group) log) (λ may.
    not_both (has_reached (replica_at replicas log.group) is.partition is.number) is.unreached
    (applied_reached (replica_at replicas log.group) log is.partition is.number may is.within is.mark)))

-- ---- a message that is put off has no work

none_next : (replicas : List (Option Held)) (waiting : Option ℕ) (logs : List Logged) →
    list_all (λ (log : Logged). is_had replicas log || not (may_apply replicas log)) logs ≡ true →
    next_log replicas waiting logs ≡ None
none_next replicas waiting [] all = refl
none_next replicas waiting (log ∷ logs) all =
    let parts = and_parts (is_had replicas log || not (may_apply replicas log))
    (list_all (λ (l : Logged). is_had replicas l || not (may_apply replicas l)) logs) all in
    elim (is_had replicas log) as (λ had. had || not (may_apply replicas log) ≡ true →
    cond had (next_log replicas waiting logs) (cond (is_packet_of waiting log) (next_log replicas waiting logs)
    (cond (may_apply replicas log) (Some log) (next_log replicas (Some log.origin) logs))) ≡ None) [
      | true ↦ λ _. none_next replicas waiting logs parts.1
      | false ↦ λ isnt. elim (is_packet_of waiting log) as (λ same.
          cond same (next_log replicas waiting logs)
          (cond (may_apply replicas log) (Some log) (next_log replicas (Some log.origin) logs)) ≡ None) [
            | true ↦ none_next replicas waiting logs parts.1
            | false ↦ elim (may_apply replicas log) as (λ may. not may ≡ true →
                cond may (Some log) (next_log replicas (Some log.origin) logs) ≡ None) [
                  | true ↦ λ never. absurd cc
                  | false ↦ λ _. none_next replicas (Some log.origin) logs parts.1
                ] isnt
          ]
    ] parts.0

had_or_not : (had wait may : Bool) → had || wait ≡ true → (wait ≡ true → may ≡ false) → had || not may ≡ true
had_or_not true wait may is never = refl
had_or_not false wait may is never = ap not (never is)

no_work : (replicas : List (Option Held)) (held : HeldMessage) → next_log replicas None held.message.logs ≡ None →
    is_ready replicas held ≡ false → has_work replicas held ≡ false
no_work replicas held none unready =
    ap (λ (log : Option Logged). is_some (work_behind replicas held log)) none
    ∙ ap (λ (b : Bool). is_some (cond b (Some (last_work held)) None)) unready

pub put_off_idles : (replicas : List (Option Held)) (items : List HeldMessage) (waiting : List Wait) (packet : ℕ)
    (held : HeldMessage) → found packet items ≡ Some held → held.message.origin ≡ packet →
    logs_rise None held.message.logs ≡ true → list_all (is_named items) waiting ≡ true →
    list_all (is_unreached replicas) waiting ≡ true → is_put_off replicas waiting held ≡ true →
    has_work replicas held ≡ false
put_off_idles replicas items waiting packet held there origin_is rising named unreached off =
    let logs = held.message.logs in
    let its = held.message.origin in
    let parts = and_parts (list_any (waits waiting its) logs)
    (list_all (is_had_or_waits replicas waiting its) logs) off in
    let there_so : found its items ≡ Some held = ap (λ (p : ℕ). found p items) origin_is ∙ there in
    let more : (log : Logged) → find (is_log_of log.origin log.group) logs ≡ Some log → waits waiting its log ≡ true →
    IsUnreachedIn replicas log = λ log in_logs any.
    waits_for_more replicas items waiting its held log there_so in_logs named unreached any in
    let some = some_found (waits waiting its) logs rising parts.0 in
    no_work replicas held
    (none_next replicas None logs
    (each_found (λ (log : Logged). is_had replicas log || not (may_apply replicas log)) logs rising
    (λ log in_logs. had_or_not (is_had replicas log) (waits waiting its log) (may_apply replicas log)
    (passes_found (is_had_or_waits replicas waiting its) (is_log_of log.origin log.group) logs log parts.1 in_logs)
    (λ any. isnt_allowed replicas log (more log in_logs any)))))
    (false_from_ne_true (is_ready replicas held) (λ ready'.
    false≢true (sym (isnt_had replicas some.0 (more some.0 some.1 some.2))
    ∙ passes_found (is_had replicas) (is_log_of some.0.origin some.0.group) logs some.0 ready' some.1)))

-- ---- a message that is idle is put off, where what is ahead is watched

had_or_waiting : (had ahead wait : Bool) → had || ahead ≡ true → (ahead ≡ true → wait ≡ true) → had || wait ≡ true
had_or_waiting true ahead wait is watched = refl
had_or_waiting false ahead wait is watched = watched is

pub idle_put_off : (replicas : List (Option Held)) (items : List HeldMessage) (waiting : List Wait) (packet : ℕ)
    (held : HeldMessage) → found packet items ≡ Some held → held.message.origin ≡ packet →
    logs_rise None held.message.logs ≡ true →
    ((origin group : ℕ) (log : Logged) → log_of group origin (found packet items) ≡ Some log →
    is_ahead replicas log ≡ true → list_any (is_wait_of packet origin group) waiting ≡ true) →
    is_idle replicas held.message.logs ≡ true → is_put_off replicas waiting held ≡ true
idle_put_off replicas items waiting packet held there origin_is rising watched idle =
    let logs = held.message.logs in
    let its = held.message.origin in
    let parts = and_parts (list_any (is_ahead replicas) logs) (list_all (is_had_or_ahead replicas) logs) idle in
    let waits_so : (log : Logged) → find (is_log_of log.origin log.group) logs ≡ Some log →
    is_ahead replicas log ≡ true → waits waiting its log ≡ true = λ log in_logs ahead.
    ap (λ (p : ℕ). list_any (is_wait_of p log.origin log.group) waiting) origin_is
    ∙ watched log.origin log.group log (ap (log_of log.group log.origin) there ∙ in_logs) ahead in
    let some = some_found (is_ahead replicas) logs rising parts.0 in
    and_both (list_any (waits waiting its) logs) (list_all (is_had_or_waits replicas waiting its) logs)
    (any_found (waits waiting its) (is_log_of some.0.origin some.0.group) logs some.0 some.1
    (waits_so some.0 some.1 some.2))
    (each_found (is_had_or_waits replicas waiting its) logs rising (λ log in_logs.
    had_or_waiting (is_had replicas log) (is_ahead replicas log) (waits waiting its log)
    (passes_found (is_had_or_ahead replicas) (is_log_of log.origin log.group) logs log parts.1 in_logs)
    (waits_so log in_logs)))

-- a message that lacks nothing isn't idle
pub ready_not_idle : (replicas : List (Option Held)) (logs : List Logged) → list_all (is_had replicas) logs ≡ true →
    is_idle replicas logs ≡ true → ⊥
ready_not_idle replicas [] all idle = absurd cc
ready_not_idle replicas (log ∷ logs) all idle =
    let had = and_parts (is_had replicas log) (list_all (is_had replicas) logs) all in
    let parts = and_parts (is_ahead replicas log || list_any (is_ahead replicas) logs)
    (list_all (is_had_or_ahead replicas) (log ∷ logs)) idle in
    let each = and_parts (is_had_or_ahead replicas log) (list_all (is_had_or_ahead replicas) logs) parts.1 in
    elim (is_ahead replicas log) as (λ t. is_ahead replicas log ≡ t → t || list_any (is_ahead replicas) logs ≡ true
    → ⊥) [
      | true ↦ λ ahead _. false≢true (sym (ahead_is_lacking replicas log ahead) ∙ had.0)
      | false ↦ λ _ later. ready_not_idle replicas logs had.1 (and_both (list_any (is_ahead replicas) logs)
          (list_all (is_had_or_ahead replicas) logs) later each.1)
    ] refl parts.0
