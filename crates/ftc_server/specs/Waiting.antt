-- What the logs wait for that can't be applied yet, and which messages are passed over until then.
use Rattle.std.specs.Prelude.{ℕ, ◌≡◌, ◌≤◌, ◌==◌, ◌&&◌, ◌||◌, Bool, true, false, not, nat_le, nat_lt, List, [], ◌∷◌}
use Rattle.std.specs.Prelude.{Option, Some, None, find, filter, length, is_some}
use Rattle.std.specs.List.{list_all, list_any, flat_map, range_with_len}
use Rattle.ftc_base.specs.Sets.{has}
use Rattle.ftc_base.specs.declared.limits.TheConstants.{MOST_PARTITIONS}
use Rattle.ftc_message.specs.Logged.{Logged}
use Rattle.ftc_replica.specs.Held.{Held}
use Rattle.ftc_replica.specs.declared.waits.Wait.{Wait}
use Rattle.ftc_vector.specs.Order.{reaches}
use Rattle.ftc_vector.specs.Vector.{mark_at, number_at}
use Rattle.ftc_server.specs.declared.held.HeldMessage.{HeldMessage}
use Rattle.ftc_server.specs.Holding.{found, log_of, noted, rests}
use Rattle.ftc_server.specs.Replicas.{replica_at, is_had, has_first}

-- the vector is below the number that the log carries for the partition
abbrev pub is_ahead_at : List ℕ → Logged → ℕ → Bool
is_ahead_at vector log partition = not (reaches (number_at vector partition) (mark_at log.before partition))

-- the first partition for which the log carries a number that the vector, or the replica, hasn't reached
unfoldable pub first_ahead : List ℕ → Logged → Option ℕ
first_ahead vector log = find (is_ahead_at vector log) (range_with_len 0 MOST_PARTITIONS)

abbrev pub ahead_of : Option Held → Logged → Option ℕ
ahead_of None log = None
ahead_of (Some held) log = first_ahead held.vector log

abbrev pub is_ahead : List (Option Held) → Logged → Bool
is_ahead replicas log = is_some (ahead_of (replica_at replicas log.group) log)

-- the log, of the message of that packet, waits for the number that it carries for that partition
abbrev pub wait_at : ℕ → Logged → Option ℕ → Option ℕ → Option Wait
wait_at packet log (Some partition) (Some number) = Some (record {
  group = log.group;
  partition = partition;
  number = number;
  origin = log.origin;
  packet = packet;
})
wait_at packet log partition number = None

abbrev pub carried_at : Logged → Option ℕ → Option ℕ
carried_at log None = None
carried_at log (Some partition) = mark_at log.before partition

-- it waits for the first number that it carries and the replica of its group hasn't reached
abbrev pub wait_of : List (Option Held) → ℕ → Logged → Option Wait
wait_of replicas packet log =
    let partition = ahead_of (replica_at replicas log.group) log in
    wait_at packet log partition (carried_at log partition)

abbrev pub wait_of_found : List (Option Held) → ℕ → Option Logged → Option Wait
wait_of_found replicas packet None = None
wait_of_found replicas packet (Some log) = wait_of replicas packet log

abbrev pub one_or_none : Option Wait → List Wait
one_or_none None = []
one_or_none (Some wait) = wait ∷ []

-- what one log, the logs of a message and those of all messages wait for
abbrev pub waits_of : List (Option Held) → ℕ → Logged → List Wait
waits_of replicas packet log = one_or_none (wait_of replicas packet log)

abbrev pub waits_of_message : List (Option Held) → HeldMessage → List Wait
waits_of_message replicas held = flat_map (waits_of replicas held.message.origin) held.message.logs

abbrev pub waits_of_all : List (Option Held) → List HeldMessage → List Wait
waits_of_all replicas items = flat_map (waits_of_message replicas) items

-- the replica has that number
abbrev pub has_reached : Option Held → ℕ → ℕ → Bool
has_reached None partition number = true
has_reached (Some held) partition number = reaches (number_at held.vector partition) (Some number)

abbrev pub is_reached : List (Option Held) → Wait → Bool
is_reached replicas wait = has_reached (replica_at replicas wait.group) wait.partition wait.number

-- the wait is that of the log of that origin and group, in the message of that packet
abbrev pub is_wait_of : ℕ → ℕ → ℕ → Wait → Bool
is_wait_of packet origin group wait = wait.packet == packet && (wait.origin == origin && wait.group == group)

abbrev pub waits : List Wait → ℕ → Logged → Bool
waits items packet log = list_any (is_wait_of packet log.origin log.group) items

-- the log carries that number for that partition
abbrev pub is_number : ℕ → Option ℕ → Bool
is_number number None = false
is_number number (Some carried) = carried == number

abbrev pub carries : ℕ → ℕ → Option Logged → Bool
carries partition number None = false
carries partition number (Some log) = is_number number (mark_at log.before partition)

-- the wait is that of a log of a held message, for a number that the log carries
abbrev pub is_named : List HeldMessage → Wait → Bool
is_named items wait =
    nat_lt wait.partition MOST_PARTITIONS
    && carries wait.partition wait.number (log_of wait.group wait.origin (found wait.packet items))

-- some log of the message waits, and so does each that is lacking
abbrev pub is_had_or_waits : List (Option Held) → List Wait → ℕ → Logged → Bool
is_had_or_waits replicas items packet log = is_had replicas log || waits items packet log

abbrev pub is_put_off : List (Option Held) → List Wait → HeldMessage → Bool
is_put_off replicas items held =
    list_any (waits items held.message.origin) held.message.logs
    && list_all (is_had_or_waits replicas items held.message.origin) held.message.logs

-- some log of the message is ahead, and so is each that is lacking
abbrev pub is_had_or_ahead : List (Option Held) → Logged → Bool
is_had_or_ahead replicas log = is_had replicas log || is_ahead replicas log

abbrev pub is_idle : List (Option Held) → List Logged → Bool
is_idle replicas logs = list_any (is_ahead replicas) logs && list_all (is_had_or_ahead replicas) logs

-- Each wait is that of a log of a held message, for a number that the log carries; no log has two; each log that is
-- ahead has one; and each message that rests is put off.
pub record AreWatched (replicas : List (Option Held)) (items : List HeldMessage) (resting : List ℕ)
    (waiting : List Wait) : Type 0 where
  pub named : list_all (is_named items) waiting ≡ true
  pub once : (packet origin group : ℕ) → length (filter (is_wait_of packet origin group) waiting) ≤ 1
  pub watched : (packet origin group : ℕ) (log : Logged) → log_of group origin (found packet items) ≡ Some log →
      is_ahead replicas log ≡ true → list_any (is_wait_of packet origin group) waiting ≡ true
  pub rest : (packet : ℕ) (held : HeldMessage) → found packet items ≡ Some held → rests packet resting ≡ true →
      is_put_off replicas waiting held ≡ true

-- no wait is for a number that is reached
abbrev pub is_unreached : List (Option Held) → Wait → Bool
is_unreached replicas wait = not (is_reached replicas wait)

abbrev pub is_idle_one : List (Option Held) → Option HeldMessage → Bool
is_idle_one replicas None = false
is_idle_one replicas (Some held) = is_idle replicas held.message.logs

-- the number of a partition, 0 where there is no replica
abbrev pub number_in : Option Held → ℕ → ℕ
number_in None partition = 0
number_in (Some held) partition = number_at held.vector partition

-- The wait is for a number that isn't reached, or for the one that a changed partition of the group, from that one on,
-- has now.
abbrev pub is_changed_to : List (Option Held) → ℕ → ℕ → ℕ → Wait → Bool
is_changed_to replicas group changed from wait =
    wait.group == group && (has changed wait.partition && (nat_le from wait.partition
    && (nat_lt wait.partition MOST_PARTITIONS && wait.number == number_in (replica_at replicas group) wait.partition)))

abbrev pub is_due : List (Option Held) → ℕ → ℕ → ℕ → Wait → Bool
is_due replicas group changed from wait = is_unreached replicas wait || is_changed_to replicas group changed from wait

-- what holds of each wait, and of each whose number isn't reached, holds of each later
abbrev pub StaysWhere : List (Option Held) → List Wait → List Wait → Type 0
StaysWhere replicas old new = (test : Wait → Bool) →
    ((wait : Wait) → is_unreached replicas wait ≡ true → test wait ≡ true) →
    list_all test old ≡ true → list_all test new ≡ true

-- a message that rests is idle
abbrev pub is_settled : List (Option Held) → List ℕ → HeldMessage → Bool
is_settled replicas resting held = not (rests held.message.origin resting) || is_idle replicas held.message.logs

-- of each message, as many of the first logs are had as are noted
abbrev pub AreHadBefore : List (Option Held) → List HeldMessage → List (ℕ × ℕ) → Type 0
AreHadBefore replicas items had = (packet : ℕ) (held : HeldMessage) → found packet items ≡ Some held →
    has_first replicas (noted packet had) held.message.logs ≡ true

-- how many logs the messages have together
abbrev pub logs_of_all : List HeldMessage → List Logged
logs_of_all items = flat_map (λ (held : HeldMessage). held.message.logs) items
