-- The bytes of a message.
use Rattle.std.specs.Prelude.{ℕ, ◌+◌, Bool, ◌==◌, List, [], ◌∷◌, ◌++◌, length, map, Option, Some, None, is_some}
use Rattle.std.specs.Prelude.{if◌then◌else◌, codes}
use Rattle.std.specs.List.{flat_map, list_any}
use Rattle.ftc_base.specs.Sets.{has}
use Rattle.ftc_base.specs.declared.ask.Write.{Write}
use Rattle.ftc_message.specs.declared.need.Need.{Need}
use Rattle.ftc_message.specs.declared.message.Message.{Message}
use Rattle.ftc_message.specs.Logged.{Logged}
use Rattle.ftc_message.specs.Numbers.{number_bytes}

-- ---- partitions

-- how many partitions have a number
abbrev pub marked : List (Option ℕ) → ℕ
marked [] = 0
marked (None ∷ marks) = marked marks
marked (Some number ∷ marks) = marked marks + 1

-- each partition that has a number, from that partition on: partition 1, number 8
abbrev pub marks_from : ℕ → List (Option ℕ) → List ℕ
marks_from partition [] = []
marks_from partition (None ∷ marks) = marks_from (partition + 1) marks
marks_from partition (Some number ∷ marks) = partition ∷ (number_bytes 8 number ++ marks_from (partition + 1) marks)

-- count 1, the partitions
abbrev pub marks_bytes : List (Option ℕ) → List ℕ
marks_bytes marks = marked marks ∷ marks_from 0 marks

-- 1 where the partition is changed, 0 where it is only read
abbrev pub flag : Bool → ℕ
flag changed = if changed then 1 else 0

-- each partition that has a number, from that partition on: partition 1, flag 1, number 8
abbrev pub parts_from : ℕ → ℕ → List (Option ℕ) → List ℕ
parts_from changed partition [] = []
parts_from changed partition (None ∷ marks) = parts_from changed (partition + 1) marks
parts_from changed partition (Some number ∷ marks) =
    partition ∷ (flag (has changed partition) ∷ (number_bytes 8 number ++ parts_from changed (partition + 1) marks))

-- count 1, the partitions
abbrev pub parts_bytes : List (Option ℕ) → ℕ → List ℕ
parts_bytes before changed = marked before ∷ parts_from changed 0 before

-- ---- logs

-- tag 1: 0 for a delete; 1 for a put, with value length 1 and the value
abbrev pub value_bytes : Option (List ℕ) → List ℕ
value_bytes None = 0 ∷ []
value_bytes (Some value) = 1 ∷ (length value ∷ value)

-- key length 1, key, and what stands there from then on
abbrev pub write_bytes : Write → List ℕ
write_bytes write = length write.key ∷ (write.key ++ value_bytes write.value)

-- count 1, the writes
abbrev pub writes_bytes : List Write → List ℕ
writes_bytes writes = length writes ∷ flat_map write_bytes writes

-- group 1, origin 4, the partitions, the writes
abbrev pub log_bytes : Logged → List ℕ
log_bytes log = log.group
    ∷ (number_bytes 4 log.origin ++ (parts_bytes log.before log.changed ++ writes_bytes log.writes))

-- count 4, the logs
abbrev pub logs_bytes : List Logged → List ℕ
logs_bytes logs = number_bytes 4 (length logs) ++ flat_map log_bytes logs

-- ---- needs and commits

-- group 1, the partitions
abbrev pub need_bytes : Need → List ℕ
need_bytes need = need.group ∷ marks_bytes need.marks

-- count 1, the needs
abbrev pub needs_bytes : List Need → List ℕ
needs_bytes needs = length needs ∷ flat_map need_bytes needs

-- the numbers of a vector that aren't 0
abbrev pub not_zero : List ℕ → List (Option ℕ)
not_zero vector = map (λ number. if number == 0 then None else Some number) vector

-- the groups whose vector isn't all 0, from that group on, with the numbers that aren't 0
abbrev pub known_from : ℕ → List (List ℕ) → List Need
known_from group [] = []
known_from group (vector ∷ vectors) =
    if list_any is_some (not_zero vector)
    then record { group = group; marks = not_zero vector } ∷ known_from (group + 1) vectors
    else known_from (group + 1) vectors

-- written as needs are
abbrev pub commits_bytes : List (List ℕ) → List ℕ
commits_bytes commits = needs_bytes (known_from 0 commits)

-- ---- a message

-- 0 with a packet, 1 without
abbrev pub kind : Option (List ℕ) → ℕ
kind None = 1
kind (Some packet) = 0

-- length in 4 bytes, the bytes
abbrev pub packet_bytes : Option (List ℕ) → List ℕ
packet_bytes None = number_bytes 4 0
packet_bytes (Some packet) = number_bytes 4 (length packet) ++ packet

abbrev pub magic : List ℕ
magic = codes "FTC3"

unfoldable pub spelling : Message → List ℕ
spelling message =
    magic ++ (kind message.packet ∷ (number_bytes 4 message.origin ++ (packet_bytes message.packet
    ++ (logs_bytes message.logs ++ (needs_bytes message.needs ++ commits_bytes message.commits)))))
