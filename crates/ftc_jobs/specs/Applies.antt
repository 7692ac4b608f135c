-- Whether a log of a held message may be applied, by what the server has.
use Rattle.std.specs.Prelude.{ℕ, ◌==◌, ◌&&◌, ◌||◌, Bool, false, not, nat_lt, List, length, Option, Some, None, find}
use Rattle.std.specs.List.{list_all}
use Rattle.ftc_message.specs.declared.message.Message.{Message}
use Rattle.ftc_message.specs.Logged.{Logged}
use Rattle.ftc_message.specs.Ordered.{is_log_of}
use Rattle.ftc_replica.specs.Held.{Held}
use Rattle.ftc_server.specs.declared.server.Server.{Server}
use Rattle.ftc_server.specs.Looks.{may_apply_in, message_in}
use Rattle.ftc_server.specs.Replicas.{is_had}

-- there is a log, and it writes something
abbrev pub has_writes : Option Logged → Bool
has_writes None = false
has_writes (Some log) = not (length log.writes == 0)

abbrev pub writes_some : ℕ → ℕ → Message → Bool
writes_some group packet message = has_writes (find (is_log_of packet group) message.logs)

-- the log is had, where it is of that packet and of a smaller group
abbrev pub had_if_smaller : List (Option Held) → ℕ → ℕ → Logged → Bool
had_if_smaller replicas group packet log =
    not ((log.origin == packet) && nat_lt log.group group) || is_had replicas log

abbrev pub smaller_had : List (Option Held) → ℕ → ℕ → List Logged → Bool
smaller_had replicas group packet logs = list_all (had_if_smaller replicas group packet) logs

-- the message is held and has that log, which writes something and may be applied, and the logs of its packet with
-- smaller groups are had
abbrev pub may_apply_of : Server → ℕ → ℕ → ℕ → Option Message → Bool
may_apply_of server origin group packet None = false
may_apply_of server origin group packet (Some message) =
    writes_some group packet message
    && (may_apply_in server origin group packet && smaller_had server.others.items group packet message.logs)

abbrev pub may_apply_now : Server → ℕ → ℕ → ℕ → Bool
may_apply_now server origin group packet =
    may_apply_of server origin group packet (message_in server origin)
