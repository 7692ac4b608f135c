-- What is read off a server.
use Rattle.std.specs.Prelude.{ℕ, ◌≡◌, ◌==◌, ◌&&◌, Bool, true, false, List, [], Option, Some, None, is_some, option_map}
use Rattle.std.specs.Prelude.{if◌then◌else◌, not}
use Rattle.std.specs.List.{list_all}
use Rattle.ftc_base.specs.declared.ask.Ask.{Ask}
use Rattle.ftc_base.specs.declared.ask.Ask.TheVariants.{Read}
use Rattle.ftc_message.specs.declared.message.Message.{Message}
use Rattle.ftc_message.specs.Logged.{Logged}
use Rattle.ftc_message.specs.Ordered.{with_items, is_earlier, is_log_of}
use Rattle.ftc_replica.specs.Held.{Held}
use Rattle.ftc_txn.specs.Slots.{Running, slot_at}
use Rattle.ftc_server.specs.declared.held.HeldMessage.{HeldMessage}
use Rattle.ftc_server.specs.declared.recovering.GroupReplica.{GroupReplica}
use Rattle.ftc_server.specs.declared.server.Server.{Server}
use Rattle.ftc_server.specs.declared.work.Work.{Work}
pub use Rattle.ftc_server.specs.Holding.{log_of}
use Rattle.ftc_server.specs.Holding.{found}
use Rattle.ftc_server.specs.Replicas.{replica_at, may_apply_to}
use Rattle.ftc_server.specs.Standing.{is_last, going_on}
use Rattle.ftc_server.specs.Work.{work_for_found, first_with_work}
use Rattle.ftc_server.specs.Slots.{ask_of_held}

-- the work of the held message of that origin
abbrev pub work_in : Server → ℕ → Option Work
work_in server origin = work_for_found server.others.items (found origin server.held.items)

-- the origin of a held message
abbrev pub held_origin : HeldMessage → ℕ
held_origin held = held.message.origin

-- the first held message, in the order of taking, that has work
abbrev pub first_work_in : Server → Option ℕ
first_work_in server = option_map held_origin (first_with_work server.others.items server.held.items)

abbrev pub log_in : Server → ℕ → ℕ → ℕ → Option Logged
log_in server origin group packet = log_of group packet (found origin server.held.items)

-- what the rule asks of what a slot runs, where it runs something
abbrev pub ask_of_slot : Server → Option Running → Option Ask
ask_of_slot server None = None
ask_of_slot server (Some running) = ask_of_held server.rule running (found running.packet server.held.items)

abbrev pub ask_in : Server → ℕ → Option Ask
ask_in server worker = ask_of_slot server (slot_at server.head.slots worker)

-- the logs that are attached to a message that leaves
abbrev pub attached_in : Server → List Logged
attached_in server = if server.id == 0 then server.forwarder else []

-- the logs of a held message that go on
abbrev pub onward_in : Server → HeldMessage → List Logged
onward_in server held = going_on server.ring server.id held.message.logs

-- what goes on of a held message
abbrev pub sent : Server → HeldMessage → Message
sent server held = record {
  origin = held.message.origin;
  packet = if is_last server.ring server.id then None else held.message.packet;
  logs = with_items is_earlier (attached_in server) (onward_in server held);
  needs = if is_last server.ring server.id then [] else held.message.needs;
  commits = server.known;
}

-- what the server sends of the held message of that origin; the last server sends nothing where no server may fail
abbrev pub sent_in : Server → ℕ → Option Message
sent_in server origin =
    if is_last server.ring server.id && (server.ring.failures == 0) then None
    else option_map (sent server) (found origin server.held.items)

-- none of the logs has its packet and group among the others
abbrev pub are_apart : List Logged → List Logged → Bool
are_apart logs others =
    list_all (λ (log : Logged). list_all (λ (other : Logged). not (is_log_of log.origin log.group other)) others) logs

-- none of these logs goes on with the held message of that origin
abbrev pub are_apart_from : Server → List Logged → Option HeldMessage → Bool
are_apart_from server logs None = true
are_apart_from server logs (Some held) = are_apart logs (onward_in server held)

-- none of the logs that go on with a held message is in a list
abbrev pub onward_apart : Server → List Logged → Option HeldMessage → Bool
onward_apart server others None = true
onward_apart server others (Some held) = are_apart (onward_in server held) others

-- the message is held and has that log, which may be applied to the replica of its group
abbrev pub may_apply_one : List (Option Held) → Option Logged → Bool
may_apply_one replicas None = false
may_apply_one replicas (Some log) = may_apply_to (replica_at replicas log.group) log

abbrev pub may_apply_in : Server → ℕ → ℕ → ℕ → Bool
may_apply_in server origin group packet = may_apply_one server.others.items (log_in server origin group packet)

-- the leave to write with which a key is asked for, where it is asked for
abbrev pub Leaves : Option Ask → List ℕ → Option Bool → Type 0
Leaves asked key (Some change) = asked ≡ Some (Read key change)
Leaves asked key None = (change : Bool) → asked ≡ Some (Read key change) → ⊥

-- one of the replicas is of its group
abbrev pub is_later_of : List (Option Held) → GroupReplica → Bool
is_later_of replicas new = is_some (replica_at replicas new.group)

-- the held message of that origin
abbrev pub message_in : Server → ℕ → Option Message
message_in server origin = option_map (λ (held : HeldMessage). held.message) (found origin server.held.items)

-- a message is held and came by the link that closes the ring
abbrev pub came_by_ring : Option HeldMessage → Bool
came_by_ring None = false
came_by_ring (Some held) = held.by_ring

-- what it has of the group: of its own one, what its head has and the logs that it keeps
abbrev pub replica_or_own : Server → Option Held → Held
replica_or_own server None = record {
  content = server.head.content;
  partitions = server.head.partitions;
  vector = server.head.vector;
  kept = server.own.items;
}
replica_or_own server (Some replica) = replica

abbrev pub replica_in : Server → ℕ → Held
replica_in server group = replica_or_own server (replica_at server.others.items group)
