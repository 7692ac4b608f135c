-- The wait of a log, and the log of a wait.
use Rattle.std.proofs.Common.{◌≡◌, ◌<◌, ◌∙◌, ◌&&◌, not, ℕ, true, List, Option, Some, None, refl, sym, ap, subst}
use Rattle.std.specs.Prelude.{◌==◌, is_some}
use Rattle.std.proofs.lemmas.Bool.{eqb-true, eq-eqb, and_parts}
use Rattle.ftc_base.specs.declared.limits.TheConstants.{MOST_PARTITIONS}
use Rattle.ftc_base.proofs.Firsts.{test_of_found}
use Rattle.ftc_message.specs.Logged.{Logged}
use Rattle.ftc_message.specs.Ordered.{is_log_of}
use Rattle.ftc_replica.specs.Held.{Held}
use Rattle.ftc_replica.specs.declared.waits.Wait.{Wait}
use Rattle.ftc_vector.specs.Order.{reaches}
use Rattle.ftc_vector.specs.Vector.{mark_at, number_at}
use Rattle.ftc_server.specs.declared.held.HeldMessage.{HeldMessage}
use Rattle.ftc_server.specs.Holding.{log_of}
use Rattle.ftc_server.specs.Replicas.{replica_at}
use Rattle.ftc_server.specs.Waiting.{ahead_of, is_ahead, wait_at, carried_at, wait_of, has_reached, is_unreached}
use Rattle.ftc_server.specs.Waiting.{is_wait_of, is_number, carries}
use Rattle.ftc_server.proofs.Ahead.{first_passes}
use Rattle.ftc_server.proofs.Finding.{and_both}

-- ---- of whom a wait is

pub is_its_own : (wait : Wait) (packet origin group : ℕ) → wait.packet ≡ packet → wait.origin ≡ origin →
    wait.group ≡ group → is_wait_of packet origin group wait ≡ true
is_its_own wait packet origin group same_packet same_origin same_group =
    and_both (wait.packet == packet) (wait.origin == origin && wait.group == group)
    (eq-eqb wait.packet packet same_packet)
    (and_both (wait.origin == origin) (wait.group == group) (eq-eqb wait.origin origin same_origin)
    (eq-eqb wait.group group same_group))

pub record IsOf (wait : Wait) (packet origin group : ℕ) : Type 0 where
  pub packet_is : wait.packet ≡ packet
  pub origin_is : wait.origin ≡ origin
  pub group_is : wait.group ≡ group

pub of_whom : (wait : Wait) (packet origin group : ℕ) → is_wait_of packet origin group wait ≡ true →
    IsOf wait packet origin group
of_whom wait packet origin group is =
    let first = and_parts (wait.packet == packet) (wait.origin == origin && wait.group == group) is in
    let later = and_parts (wait.origin == origin) (wait.group == group) first.1 in
    record {
      packet_is = eqb-true wait.packet packet first.0;
      origin_is = eqb-true wait.origin origin later.0;
      group_is = eqb-true wait.group group later.1;
    }

-- ---- the log of a wait

-- the log that carries the number
pub record IsCarried (partition number : ℕ) (found : Option Logged) : Type 0 where
  pub log : Logged
  pub there : found ≡ Some log
  pub mark : mark_at log.before partition ≡ Some number

number_is : (number : ℕ) (mark : Option ℕ) → is_number number mark ≡ true → mark ≡ Some number
number_is number None is = absurd cc
number_is number (Some carried) is = ap (λ (n : ℕ). Some n) (eqb-true carried number is)

pub is_number_so : (number : ℕ) (mark : Option ℕ) → mark ≡ Some number → is_number number mark ≡ true
is_number_so number mark is = ap (is_number number) is ∙ eq-eqb number number refl

pub carried : (partition number : ℕ) (found : Option Logged) → carries partition number found ≡ true →
    IsCarried partition number found
carried partition number None is = absurd cc
carried partition number (Some log) is =
    record { log = log; there = refl; mark = number_is number (mark_at log.before partition) is }

pub log_of_whom : (group origin : ℕ) (held : Option HeldMessage) (log : Logged) → log_of group origin held ≡ Some log →
    (log.origin ≡ origin) × (log.group ≡ group)
log_of_whom group origin None log is = absurd cc
log_of_whom group origin (Some held) log is =
    let parts = and_parts (log.origin == origin) (log.group == group)
    (test_of_found (is_log_of origin group) held.message.logs log is) in
    (eqb-true log.origin origin parts.0, eqb-true log.group group parts.1)

-- ---- the wait of a log

pub record IsWaitFor (replicas : List (Option Held)) (packet : ℕ) (log : Logged) (wait : Wait) : Type 0 where
  pub packet_is : wait.packet ≡ packet
  pub origin_is : wait.origin ≡ log.origin
  pub group_is : wait.group ≡ log.group
  pub mark : mark_at log.before wait.partition ≡ Some wait.number
  pub within : wait.partition < MOST_PARTITIONS
  pub unreached : is_unreached replicas wait ≡ true

above : (number carried : ℕ) (mark : Option ℕ) → mark ≡ Some carried → not (reaches number mark) ≡ true →
    not (reaches number (Some carried)) ≡ true
above number carried mark is higher = ap (λ m. not (reaches number m)) (sym is) ∙ higher

wait_for : (replicas : List (Option Held)) (packet : ℕ) (log : Logged) (replica : Option Held) (wait : Wait) →
    replica_at replicas log.group ≡ replica →
    wait_at packet log (ahead_of replica log) (carried_at log (ahead_of replica log)) ≡ Some wait →
    IsWaitFor replicas packet log wait
wait_for replicas packet log None wait same is = absurd cc
wait_for replicas packet log (Some held) wait same is =
    elim (ahead_of (Some held) log) as (λ at. ahead_of (Some held) log ≡ at →
    wait_at packet log at (carried_at log at) ≡ Some wait → IsWaitFor replicas packet log wait) [
      | None ↦ λ nowhere none. absurd cc
      | Some partition ↦ λ first.
          let passes = first_passes held.vector log partition first in
          elim (mark_at log.before partition) as (λ mark. mark_at log.before partition ≡ mark →
          wait_at packet log (Some partition) mark ≡ Some wait → IsWaitFor replicas packet log wait) [
            | None ↦ λ _ none. absurd cc
            | Some number ↦ λ mark made.
                let made_so : record {
                  group = log.group;
                  partition = partition;
                  number = number;
                  origin = log.origin;
                  packet = packet;
                } ≡ wait = cc in
                subst (IsWaitFor replicas packet log) made_so (record {
                  packet_is = refl;
                  origin_is = refl;
                  group_is = refl;
                  mark = mark;
                  within = passes.1;
                  unreached = ap (λ r. not (has_reached r partition number)) same
                      ∙ above (number_at held.vector partition) number (mark_at log.before partition) mark passes.0;
                })
          ] refl
    ] refl is

pub wait_is : (replicas : List (Option Held)) (packet : ℕ) (log : Logged) (wait : Wait) →
    wait_of replicas packet log ≡ Some wait → IsWaitFor replicas packet log wait
wait_is replicas packet log wait is = wait_for replicas packet log (replica_at replicas log.group) wait refl is

-- a log that is ahead has a wait
pub marked : (number : ℕ) (mark : Option ℕ) → not (reaches number mark) ≡ true → (carried : ℕ) × (mark ≡ Some carried)
marked number None is = absurd cc
marked number (Some carried) is = (carried, refl)

ahead_waits : (packet : ℕ) (log : Logged) (replica : Option Held) → is_some (ahead_of replica log) ≡ true →
    (wait : Wait) × (wait_at packet log (ahead_of replica log) (carried_at log (ahead_of replica log)) ≡ Some wait)
ahead_waits packet log None is = absurd cc
ahead_waits packet log (Some held) is =
    elim (ahead_of (Some held) log) as (λ at. ahead_of (Some held) log ≡ at → is_some at ≡ true →
    (wait : Wait) × (wait_at packet log at (carried_at log at) ≡ Some wait)) [
      | None ↦ λ nowhere some. absurd cc
      | Some partition ↦ λ first some.
          let passes = first_passes held.vector log partition first in
          let number = marked (number_at held.vector partition) (mark_at log.before partition) passes.0 in (
            record {
              group = log.group;
              partition = partition;
              number = number.0;
              origin = log.origin;
              packet = packet;
            },
            ap (λ m. wait_at packet log (Some partition) m) number.1,
          )
    ] refl is

pub wait_there : (replicas : List (Option Held)) (packet : ℕ) (log : Logged) → is_ahead replicas log ≡ true →
    (wait : Wait) × (wait_of replicas packet log ≡ Some wait)
wait_there replicas packet log is = ahead_waits packet log (replica_at replicas log.group) is
