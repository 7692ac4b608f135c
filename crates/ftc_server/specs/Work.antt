-- What is to be done with a held message.
use Rattle.std.specs.Prelude.{ℕ, ◌==◌, ◌&&◌, Bool, false, not, List, [], ◌∷◌, Option, Some, None, is_some, find}
use Rattle.std.specs.Prelude.{if◌then◌else◌}
use Rattle.ftc_message.specs.Logged.{Logged}
use Rattle.ftc_replica.specs.Held.{Held}
use Rattle.ftc_server.specs.declared.held.HeldMessage.{HeldMessage}
use Rattle.ftc_server.specs.declared.work.Work.{Work}
use Rattle.ftc_server.specs.declared.work.Work.TheVariants.{Apply, Visit, Send, Carry}
use Rattle.ftc_server.specs.Holding.{is_awake}
use Rattle.ftc_server.specs.Replicas.{is_had, may_apply, is_ready}

-- the packet of the log is that one
abbrev pub is_packet_of : Option ℕ → Logged → Bool
is_packet_of None log = false
is_packet_of (Some packet) log = log.origin == packet

-- The first log that is lacking and may be applied, where no lacking log of its packet stands before it. The logs of a
-- packet stand side by side, and `waiting` is the packet whose log was lacking and not to be applied, if any.
abbrev pub next_log : List (Option Held) → Option ℕ → List Logged → Option Logged
next_log replicas waiting [] = None
next_log replicas waiting (log ∷ logs) =
    if is_had replicas log then next_log replicas waiting logs
    else if is_packet_of waiting log then next_log replicas waiting logs
    else if may_apply replicas log then Some log
    else next_log replicas (Some log.origin) logs

-- the packet of a held message is still to be visited
abbrev pub is_waiting : HeldMessage → Bool
is_waiting held = not held.visited && is_some held.message.packet

-- what comes when all logs are had
abbrev pub last_work : HeldMessage → Work
last_work held = if is_waiting held then Visit else if held.by_ring then Carry else Send

-- what comes where no log is to be applied
abbrev pub work_behind : List (Option Held) → HeldMessage → Option Logged → Option Work
work_behind replicas held (Some log) = Some (Apply log.group log.origin)
work_behind replicas held None = if is_ready replicas held then Some (last_work held) else None

-- the work of a held message
abbrev pub work_for : List (Option Held) → HeldMessage → Option Work
work_for replicas held = work_behind replicas held (next_log replicas None held.message.logs)

abbrev pub work_for_found : List (Option Held) → Option HeldMessage → Option Work
work_for_found replicas None = None
work_for_found replicas (Some held) = work_for replicas held

abbrev pub has_work : List (Option Held) → HeldMessage → Bool
has_work replicas held = is_some (work_for replicas held)

-- the first held message that has work
abbrev pub first_with_work : List (Option Held) → List HeldMessage → Option HeldMessage
first_with_work replicas items = find (has_work replicas) items

-- the first that doesn't rest and has work
abbrev pub first_awake : List ℕ → List (Option Held) → List HeldMessage → Option HeldMessage
first_awake resting replicas items = find (λ held. is_awake resting held && has_work replicas held) items
