-- Visits taken out of a serial run.
use Rattle.std.specs.Prelude.{ℕ, ◌≡◌, ◌⊎◌, Bool, true, false, not, List, filter, Some}
use Rattle.std.specs.FinMap.{get}
use Rattle.ftc_base.specs.Partition.{partition_of}
use Rattle.ftc_mbox.specs.declared.rule.Rule.{Rule}
use Rattle.ftc_serial.specs.declared.step.Step.{Step}
use Rattle.ftc_serial.specs.declared.step.Step.TheVariants.{Visit, Release}
use Rattle.ftc_serial.specs.Words.{AnyOf, EachLater}
use Rattle.ftc_serial.specs.Serial.{State, Entry, Visited, Given, serial_run}
use Rattle.ftc_serial.specs.Entries.{packet_of, entries, WritesIn, TouchesAt, WritesAt}

-- which visits are taken out: of each server, of which packets
abbrev pub Taken : Type 0
Taken = ℕ → ℕ → Bool

abbrev pub is_taken : Taken → Entry → Bool
is_taken out (Visited server packet outcome) = out server packet
is_taken out (Given packet bytes) = false

abbrev pub IsTakenOut : Taken → Entry → Type 0
IsTakenOut out entry = is_taken out entry ≡ true

-- The first entry is a visit that writes a key in a partition that the second, a visit of the same middlebox, touches.
-- In a run, where the first stands earlier, it is before the second.
abbrev pub IsEntryBefore : ℕ → Entry → Entry → Type 0
IsEntryBefore partitions (Visited server packet outcome) entry =
    (partition : ℕ) × WritesIn partitions outcome partition × TouchesAt partitions server partition entry
IsEntryBefore partitions (Given packet bytes) entry = ⊥

-- With a visit that is taken out, each later visit that it is before is taken out, and each later visit of its packet,
-- and its packet is not released later.
abbrev pub Takes : ℕ → Taken → Entry → Entry → Type 0
Takes partitions out earlier later = IsTakenOut out earlier → IsEntryBefore partitions earlier later
    ⊎ (packet_of earlier ≡ packet_of later) → IsTakenOut out later

abbrev pub IsClosedRun : ℕ → Taken → List Entry → Type 0
IsClosedRun partitions out run = EachLater (Takes partitions out) run

abbrev pub left_of : Taken → List Entry → List Entry
left_of out run = filter (λ entry. not (is_taken out entry)) run

abbrev pub is_taken_step : Taken → Step → Bool
is_taken_step out (Visit server packet) = out server packet
is_taken_step out (Release packet) = false

abbrev pub steps_left : Taken → List Step → List Step
steps_left out steps = filter (λ step. not (is_taken_step out step)) steps

-- a visit that is taken out wrote in the partition of that middlebox
abbrev pub IsLost : ℕ → Taken → ℕ → ℕ → List Entry → Type 0
IsLost partitions out server partition run =
    AnyOf (λ entry. IsTakenOut out entry × WritesAt partitions server partition entry) run

-- The serial run of the steps that are left exists; each visit that is left reads, writes and decides the same; each
-- partition in which no visit that is taken out wrote has the same content; and the released records are the same.
pub record IsRemoval (rules : List Rule) (partitions : ℕ) (out : Taken) (start : State) (steps : List Step)
    (end : State) : Type 0 where
  pub other : State
  pub exists : serial_run rules start (steps_left out steps) ≡ Some other
  pub same : entries rules start (steps_left out steps) ≡ left_of out (entries rules start steps)
  pub content : (server : ℕ) (key : List ℕ) →
      (IsLost partitions out server (partition_of partitions key) (entries rules start steps) → ⊥) →
      get (other.maps server) key ≡ get (end.maps server) key
  pub released : other.released ≡ end.released
