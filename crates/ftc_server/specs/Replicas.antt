-- The replicas of a server, by group, and which logs they have.
use Rattle.std.specs.Prelude.{ℕ, ◌≡◌, ◌-◌, ◌^◌, ◌==◌, ◌&&◌, Bool, true, false, not, nat_lt, List, length, Option, Some}
use Rattle.std.specs.Prelude.{None, is_some, slice_index_or, slice_set, option_map, take}
use Rattle.std.specs.List.{list_all}
use Rattle.ftc_vector.specs.Order.{is_log_ready}
use Rattle.ftc_vector.specs.Commits.{vector_of}
use Rattle.ftc_message.specs.Logged.{Logged}
use Rattle.ftc_replica.specs.Held.{Held, applied, pruned_by}
use Rattle.ftc_replica.specs.Kept.{covers_log}
use Rattle.ftc_server.specs.declared.held.HeldMessage.{HeldMessage}

-- the replica of a group, where there is one
abbrev pub replica_at : List (Option Held) → ℕ → Option Held
replica_at replicas group = slice_index_or replicas group None

-- the replica has the log
abbrev pub has_log : Option Held → Logged → Bool
has_log None log = true
has_log (Some held) log = covers_log held.vector log

-- the replica of the log's group has it; of a group that the server isn't a later member of nothing is lacking
abbrev pub is_had : List (Option Held) → Logged → Bool
is_had replicas log = has_log (replica_at replicas log.group) log

-- the replicas have so many of the first logs
abbrev pub has_first : List (Option Held) → ℕ → List Logged → Bool
has_first replicas count logs = list_all (is_had replicas) (take count logs)

-- the log may be applied to the replica
abbrev pub may_apply_to : Option Held → Logged → Bool
may_apply_to None log = false
may_apply_to (Some held) log = is_log_ready held.vector log.before log.changed

-- the log writes something, and may be applied to the replica of its group
abbrev pub may_apply : List (Option Held) → Logged → Bool
may_apply replicas log = not (length log.writes == 0) && may_apply_to (replica_at replicas log.group) log

-- the replicas have all logs of the message
abbrev pub is_ready : List (Option Held) → HeldMessage → Bool
is_ready replicas held = list_all (is_had replicas) held.message.logs

abbrev pub lacks_log : List (Option Held) → HeldMessage → Bool
lacks_log replicas held = not (is_ready replicas held)

-- no number is the greatest of 64 bits
abbrev pub may_rise : List ℕ → Bool
may_rise vector = list_all (λ number. nat_lt number (2 ^ 64 - 1)) vector

-- the numbers of a group's replica may rise
abbrev pub may_rise_in : Option Held → Bool
may_rise_in None = true
may_rise_in (Some held) = may_rise held.vector

-- the replicas after a log was applied to that of its group
abbrev pub with_applied : List (Option Held) → Logged → List (Option Held)
with_applied replicas log = slice_set replicas log.group (option_map (applied log) (replica_at replicas log.group))

-- each replica is without the kept logs that are known at its group's tail
pub record ArePruned (known : List (List ℕ)) (old new : List (Option Held)) : Type 0 where
  pub size : length new ≡ length old
  pub each : (group : ℕ) → replica_at new group ≡ option_map (pruned_by (vector_of known group)) (replica_at old group)

-- the same groups have a replica
pub record AreOfSame (old new : List (Option Held)) : Type 0 where
  pub size : length new ≡ length old
  pub each : (group : ℕ) → is_some (replica_at new group) ≡ is_some (replica_at old group)
