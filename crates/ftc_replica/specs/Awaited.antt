-- The numbers that are waited for.
use Rattle.std.specs.Prelude.{ℕ, Bool, true, false, ◌&&◌, ◌==◌, ◌+◌, ◌-◌, nat_lt, List, Option, Some, None}
use Rattle.std.specs.Prelude.{if◌then◌else◌}
use Rattle.std.specs.Map.{lookup}
use Rattle.ftc_replica.specs.declared.awaited.Number.{Number}
use Rattle.ftc_replica.specs.declared.awaited.Queue.{Queue}

abbrev pub same_number : Number → Number → Bool
same_number number other =
    number.group == other.group && (number.partition == other.partition && number.number == other.number)

-- what is noted of a number
abbrev pub found : List (Number × Queue) → Number → Option Queue
found numbers number = lookup (same_number number) numbers

-- the ticket from which on to look
abbrev pub looks_from : Bool → Option Queue → Option ℕ
looks_from false queue = Some 0
looks_from true None = None
looks_from true (Some queue) = Some queue.from

-- with one more wait, which has that ticket where it is the first
abbrev pub noted : ℕ → Option Queue → Option Queue
noted ticket None = Some (record { count = 1; from = ticket })
noted ticket (Some queue) = Some (record { count = queue.count + 1; from = queue.from })

-- without the first, which had that ticket
abbrev pub taken_off : ℕ → Option Queue → Option Queue
taken_off ticket None = None
taken_off ticket (Some queue) =
    if nat_lt 1 queue.count then Some (record { count = queue.count - 1; from = ticket }) else None
