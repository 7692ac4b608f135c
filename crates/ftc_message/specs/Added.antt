-- What a visit adds to the message that carries its packet: a log and a need, where it touched something.
use Rattle.std.specs.Prelude.{ℕ, ◌==◌, List, Option, Some, None, if◌then◌else◌}
use Rattle.ftc_vector.specs.Vector.{need_of}
use Rattle.ftc_message.specs.declared.need.Need.{Need}
use Rattle.ftc_message.specs.Logged.{Logged}
use Rattle.ftc_message.specs.Ordered.{with_item, is_earlier, is_lower}

-- the log stands at its place among the others; where no server may fail no log is sent on
abbrev pub logs_with : ℕ → Option Logged → List Logged → List Logged
logs_with failures None logs = logs
logs_with failures (Some log) logs = if failures == 0 then logs else with_item is_earlier log logs

-- what the tail of the log's group has to have
abbrev pub need_of_log : Logged → Need
need_of_log log = record { group = log.group; marks = need_of log.before log.changed }

-- the need stands at its place among the others
abbrev pub needs_with : Option Logged → List Need → List Need
needs_with None needs = needs
needs_with (Some log) needs = with_item is_lower (need_of_log log) needs
