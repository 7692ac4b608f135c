-- Reading from left to right, with the first fault that is met.
use Rattle.std.specs.Prelude.{ℕ, zero, suc, ◌+◌, ◌-◌, ◌^◌, Bool, ◌==◌, nat_le, List, [], ◌∷◌, ◌++◌, length}
use Rattle.std.specs.Prelude.{slice_index_or, slice_set, bit_or, Option, Some, None, is_some, unwrap_or, Result, Ok}
use Rattle.std.specs.Prelude.{Err, if◌then◌else◌}
use Rattle.std.specs.Str.{bytes_eq}
use Rattle.ftc_base.specs.declared.limits.TheConstants.{MOST_SERVERS, MOST_PARTITIONS, MOST_KEY_BYTES, MOST_VALUE_BYTES}
use Rattle.ftc_base.specs.declared.limits.TheConstants.{MOST_WRITES, MOST_CAPTURED}
use Rattle.ftc_base.specs.declared.ask.Write.{Write}
use Rattle.ftc_vector.specs.Vector.{by_partition}
use Rattle.ftc_vector.specs.Commits.{by_group, group_raised}
use Rattle.ftc_message.specs.declared.fault.FrameCause.TheVariants.{Magic, Range, Order, Trailing}
use Rattle.ftc_message.specs.declared.fault.FieldFault.{FieldFault}
use Rattle.ftc_message.specs.declared.fault.FrameFault.{FrameFault}
use Rattle.ftc_message.specs.declared.need.Need.{Need}
use Rattle.ftc_message.specs.declared.parts.Part.{Part}
use Rattle.ftc_message.specs.declared.parts.Parts.{Parts}
use Rattle.ftc_message.specs.declared.message.Message.{Message}
use Rattle.ftc_message.specs.Logged.{Logged, key_follows, log_follows}
use Rattle.ftc_message.specs.Spelling.{magic}
use Rattle.ftc_base.specs.Reading.{◌>>=◌, ◌>>◌, unless}
use Rattle.ftc_message.specs.Fields.{fault_of, within_at, taken_at, integer_at, group_at}

-- so many steps, each of which reads from the front and adds to what was read so far
unfoldable pub times : {S : Type 0} → (S → List ℕ → Result (S × List ℕ) FieldFault) → ℕ → S → List ℕ →
    Result (S × List ℕ) FieldFault
times step zero so_far bytes = Ok (so_far, bytes)
times step (suc count) so_far bytes = do
  next ← step so_far bytes
  times step count next.0 next.1

-- ---- partitions

-- a partition, which is at least `from`
unfoldable pub partition_at : ℕ → List ℕ → Result (ℕ × List ℕ) FieldFault
partition_at from bytes = do
  partition ← within_at 0 (MOST_PARTITIONS - 1) bytes
  unless (nat_le from partition.0) (fault_of bytes Order)
  Ok partition

-- a number of 8 bytes, which is at least `least`
unfoldable pub least_at : ℕ → List ℕ → Result (ℕ × List ℕ) FieldFault
least_at least bytes = do
  number ← integer_at 8 bytes
  unless (nat_le least number.0) (fault_of bytes Range)
  Ok number

-- a partition of a need, and its number
unfoldable pub need_mark_at : ℕ → ℕ → List ℕ → Result ((ℕ × ℕ) × List ℕ) FieldFault
need_mark_at least from bytes = do
  partition ← partition_at from bytes
  number ← least_at least partition.1
  Ok ((partition.0, number.0), number.1)

-- the partition from which on the next one may be, and the marks so far
abbrev pub with_mark : ℕ → ℕ × List (Option ℕ) → List ℕ → Result ((ℕ × List (Option ℕ)) × List ℕ) FieldFault
with_mark least so_far bytes = do
  mark ← need_mark_at least so_far.0 bytes
  Ok ((mark.0.0 + 1, slice_set so_far.1 mark.0.0 (Some mark.0.1)), mark.1)

-- no partition has a number
abbrev pub no_marks : List (Option ℕ)
no_marks = by_partition (λ _. None)

unfoldable pub marks_at : ℕ → List ℕ → Result (List (Option ℕ) × List ℕ) FieldFault
marks_at least bytes = do
  count ← within_at 1 MOST_PARTITIONS bytes
  marks ← times (with_mark least) count.0 (0, no_marks) count.1
  Ok (marks.0.1, marks.1)

-- a partition of a log: its number before, and whether the log changes it
unfoldable pub part_at : ℕ → List ℕ → Result (Part × List ℕ) FieldFault
part_at from bytes = do
  partition ← partition_at from bytes
  flag ← within_at 0 1 partition.1
  number ← integer_at 8 flag.1
  Ok (record { partition = partition.0; is_changed = flag.0 == 1; number = number.0 }, number.1)

-- with one more member, where it is changed
abbrev pub changed_by : Part → ℕ → ℕ
changed_by part changed = if part.is_changed then bit_or changed (2 ^ part.partition) else changed

-- no partition
abbrev pub no_parts : Parts
no_parts = record { before = no_marks; changed = 0 }

-- with that partition besides
abbrev pub plus_part : Part → Parts → Parts
plus_part part parts = record {
  before = slice_set parts.before part.partition (Some part.number);
  changed = changed_by part parts.changed;
}

-- the partition from which on the next one may be, and the partitions so far
abbrev pub with_part : ℕ × Parts → List ℕ → Result ((ℕ × Parts) × List ℕ) FieldFault
with_part so_far bytes = do
  part ← part_at so_far.0 bytes
  Ok ((part.0.partition + 1, plus_part part.0 so_far.1), part.1)

unfoldable pub parts_at : List ℕ → Result (Parts × List ℕ) FieldFault
parts_at bytes = do
  count ← within_at 1 MOST_PARTITIONS bytes
  parts ← times with_part count.0 (0, no_parts) count.1
  Ok (parts.0.1, parts.1)

-- ---- logs

-- the value of a put
unfoldable pub put_at : List ℕ → Result (Option (List ℕ) × List ℕ) FieldFault
put_at bytes = do
  size ← within_at 0 MOST_VALUE_BYTES bytes
  value ← taken_at size.0 size.1
  Ok (Some value.0, value.1)

unfoldable pub value_at : List ℕ → Result (Option (List ℕ) × List ℕ) FieldFault
value_at bytes = do
  tag ← within_at 0 1 bytes
  if tag.0 == 0 then Ok (None, tag.1) else put_at tag.1

-- a key, which is greater than the last one
unfoldable pub key_at : Option (List ℕ) → List ℕ → Result (List ℕ × List ℕ) FieldFault
key_at last bytes = do
  size ← within_at 1 MOST_KEY_BYTES bytes
  key ← taken_at size.0 size.1
  unless (key_follows last key.0) (fault_of size.1 Order)
  Ok key

unfoldable pub write_at : Option (List ℕ) → List ℕ → Result (Write × List ℕ) FieldFault
write_at last bytes = do
  key ← key_at last bytes
  value ← value_at key.1
  Ok (record { key = key.0; value = value.0 }, value.1)

-- the last key, and the writes so far
abbrev pub with_write : Option (List ℕ) × List Write → List ℕ →
    Result ((Option (List ℕ) × List Write) × List ℕ) FieldFault
with_write so_far bytes = do
  write ← write_at so_far.0 bytes
  Ok ((Some write.0.key, so_far.1 ++ write.0 ∷ []), write.1)

unfoldable pub writes_at : List ℕ → Result (List Write × List ℕ) FieldFault
writes_at bytes = do
  count ← within_at 0 MOST_WRITES bytes
  writes ← times with_write count.0 (None, []) count.1
  Ok (writes.0.1, writes.1)

-- the origin and the group of a log, which is greater than the last one
unfoldable pub head_at : Option (ℕ × ℕ) → List ℕ → Result ((ℕ × ℕ) × List ℕ) FieldFault
head_at last bytes = do
  group ← group_at bytes
  origin ← integer_at 4 group.1
  unless (log_follows last origin.0 group.0) (fault_of bytes Order)
  Ok ((origin.0, group.0), origin.1)

unfoldable pub log_at : Option (ℕ × ℕ) → List ℕ → Result (Logged × List ℕ) FieldFault
log_at last bytes = do
  head ← head_at last bytes
  parts ← parts_at head.1
  writes ← writes_at parts.1
  Ok (
    record {
      group = head.0.1;
      origin = head.0.0;
      before = parts.0.before;
      changed = parts.0.changed;
      writes = writes.0;
    },
    writes.1,
  )

-- the origin and the group of the last log, and the logs so far
abbrev pub with_log : Option (ℕ × ℕ) × List Logged → List ℕ →
    Result ((Option (ℕ × ℕ) × List Logged) × List ℕ) FieldFault
with_log so_far bytes = do
  log ← log_at so_far.0 bytes
  Ok ((Some (log.0.origin, log.0.group), so_far.1 ++ log.0 ∷ []), log.1)

unfoldable pub logs_at : List ℕ → Result (List Logged × List ℕ) FieldFault
logs_at bytes = do
  count ← integer_at 4 bytes
  logs ← times with_log count.0 (None, []) count.1
  Ok (logs.0.1, logs.1)

-- ---- needs and commits

-- a group, which is at least `from`
unfoldable pub later_group_at : ℕ → List ℕ → Result (ℕ × List ℕ) FieldFault
later_group_at from bytes = do
  group ← group_at bytes
  unless (nat_le from group.0) (fault_of bytes Order)
  Ok group

-- a need of a group that is at least `from`
unfoldable pub need_at : ℕ → ℕ → List ℕ → Result (Need × List ℕ) FieldFault
need_at least from bytes = do
  group ← later_group_at from bytes
  marks ← marks_at least group.1
  Ok (record { group = group.0; marks = marks.0 }, marks.1)

-- the group from which on the next one may be, and the needs so far
abbrev pub with_need : ℕ → ℕ × List Need → List ℕ → Result ((ℕ × List Need) × List ℕ) FieldFault
with_need least so_far bytes = do
  need ← need_at least so_far.0 bytes
  Ok ((need.0.group + 1, so_far.1 ++ need.0 ∷ []), need.1)

-- at most so many needs, with numbers that are at least `least`
unfoldable pub needs_at : ℕ → ℕ → List ℕ → Result (List Need × List ℕ) FieldFault
needs_at most least bytes = do
  count ← within_at 0 most bytes
  needs ← times (with_need least) count.0 (0, []) count.1
  Ok (needs.0.1, needs.1)

-- nothing is known of any group
abbrev pub no_commits : List (List ℕ)
no_commits = by_group (λ _. by_partition (λ _. 0))

-- the marked numbers, and 0 elsewhere
abbrev pub numbers_in : List (Option ℕ) → List ℕ
numbers_in marks = by_partition (λ partition. unwrap_or (slice_index_or marks partition None) 0)

-- what is known of a group: numbers that are at least 1, and 0 in each partition that has none
unfoldable pub known_at : List ℕ → Result (List ℕ × List ℕ) FieldFault
known_at bytes = do
  marks ← marks_at 1 bytes
  Ok (numbers_in marks.0, marks.1)

-- what these entries say is known besides
abbrev pub with_known : List Need → List (List ℕ) → List (List ℕ)
with_known [] commits = commits
with_known (known ∷ rest) commits = with_known rest (group_raised commits known.group (numbers_in known.marks))

-- commits are written as needs whose numbers are at least 1
unfoldable pub commits_at : List ℕ → Result (List (List ℕ) × List ℕ) FieldFault
commits_at bytes = do
  known ← needs_at MOST_SERVERS 1 bytes
  Ok (with_known known.0 no_commits, known.1)

-- ---- a message

-- the bytes behind the magic
unfoldable pub magic_at : List ℕ → Result (List ℕ) FieldFault
magic_at bytes = do
  front ← taken_at 4 bytes
  unless (bytes_eq front.0 magic) (fault_of bytes Magic)
  Ok front.1

-- the packet of a frame of kind 0, and none of kind 1, whose length is 0
unfoldable pub packet_at : Bool → List ℕ → Result (Option (List ℕ) × List ℕ) FieldFault
packet_at is_there bytes = do
  size ← integer_at 4 bytes
  unless (nat_le size.0 (if is_there then MOST_CAPTURED else 0)) (fault_of bytes Range)
  packet ← taken_at size.0 size.1
  Ok ((if is_there then Some packet.0 else None), packet.1)

-- what stands before the logs: the origin and the packet
unfoldable pub front_at : List ℕ → Result ((ℕ × Option (List ℕ)) × List ℕ) FieldFault
front_at bytes = do
  rest ← magic_at bytes
  kind ← within_at 0 1 rest
  origin ← integer_at 4 kind.1
  packet ← packet_at (kind.0 == 0) origin.1
  Ok ((origin.0, packet.0), packet.1)

-- how many needs a message may have
abbrev pub most_needs : Option (List ℕ) → ℕ
most_needs packet = if is_some packet then MOST_SERVERS else 0

unfoldable pub message_at : List ℕ → Result (Message × List ℕ) FieldFault
message_at bytes = do
  front ← front_at bytes
  logs ← logs_at front.1
  needs ← needs_at (most_needs front.0.1) 0 logs.1
  commits ← commits_at needs.1
  Ok (record { origin = front.0.0; packet = front.0.1; logs = logs.0; needs = needs.0; commits = commits.0 }, commits.1)

-- a message, and nothing behind it
unfoldable pub whole_of : List ℕ → Result Message FieldFault
whole_of frame = do
  message ← message_at frame
  unless (length message.1 == 0) (fault_of message.1 Trailing)
  Ok message.0

-- a fault that stands so many bytes before the end of so many, placed from the front
abbrev pub placed : {A : Type 0} → ℕ → Result A FieldFault → Result A FrameFault
placed size (Ok value) = Ok value
placed size (Err fault) = Err (record { at = size - fault.left; cause = fault.cause })

-- the message that a frame spells, or its first fault
abbrev pub message_of : List ℕ → Result Message FrameFault
message_of frame = placed (length frame) (whole_of frame)
