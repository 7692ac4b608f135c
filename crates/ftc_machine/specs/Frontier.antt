-- How far sets of visits reach. The visits of the trace are numbered in its order. Of a set of visits that has each
-- visit that is before one of its own, it is enough to know, for each group and partition, the number of its last visit
-- that changes the partition.
use Rattle.std.specs.Prelude.{ℕ, ◌≡◌, ◌<◌, ◌≤◌, ◌↔◌, Bool, true, not, nat_le, ◌||◌, List, [], ◌∷◌, map, Option, Some}
use Rattle.std.specs.Prelude.{if◌then◌else◌}
use Rattle.std.specs.Option.{option_map_or}
use Rattle.std.specs.List.{AllByRecursion, list_all}
use Rattle.ftc_base.specs.Partition.{partition_of}
use Rattle.ftc_base.specs.declared.ask.Answer.{Answer}
use Rattle.ftc_vector.specs.Vector.{number_at}
use Rattle.ftc_vector.specs.Commits.{vector_of}
use Rattle.ftc_serial.specs.Take.{Outcome}
use Rattle.ftc_serial.specs.Entries.{Touches}
use Rattle.ftc_serial.specs.Serial.{Entry, Visited, Given}
use Rattle.ftc_machine.specs.declared.state.footprint.Touched.{Touched}
use Rattle.ftc_machine.specs.declared.state.footprint.Footprint.{Footprint}
use Rattle.ftc_protocol.specs.Visits.{Visits}
use Rattle.ftc_protocol.specs.Changes.{Changes, is_some_list}
use Rattle.ftc_protocol.specs.Trace.{IsInTrace}

-- the number of a visit, by its middlebox and its packet
abbrev pub Numbers : Type 0
Numbers = ℕ → ℕ → ℕ

-- the numbers rise along the trace from 1 on, and stay below a bound
abbrev pub AreRising : Numbers → ℕ → List Entry → Type 0
AreRising numbers bound [] = Unit {0}
AreRising numbers bound (Visited server packet outcome ∷ older) =
    (0 < numbers server packet) × (numbers server packet < bound) × AreRising numbers (numbers server packet) older
AreRising numbers bound (Given packet bytes ∷ older) = AreRising numbers bound older

-- a visit of the trace changes that partition
abbrev pub IsChangingIn : ℕ → List Entry → ℕ → ℕ → ℕ → Type 0
IsChangingIn partitions trace server packet partition =
    IsInTrace (λ outcome. Changes partitions outcome partition) trace server packet

-- Of a set of one middlebox's visits, by their packets: the visits that change a partition and are in the set are those
-- up to the number that the set reaches there, which is that of one of them, or 0 where there is none.
pub record IsFrontier (partitions : ℕ) (trace : List Entry) (numbers : Numbers) (server : ℕ) (packets : ℕ → Bool)
    (reach : ℕ → ℕ) : Type 0 where
  pub each : (packet partition : ℕ) → IsChangingIn partitions trace server packet partition →
      (packets packet ≡ true) ↔ (numbers server packet ≤ reach partition)
  pub last : (partition : ℕ) → 0 < reach partition →
      (packet : ℕ) × IsChangingIn partitions trace server packet partition × (numbers server packet ≡ reach partition)

-- the same of visits of all middleboxes
abbrev pub frontier_at : List (List ℕ) → ℕ → ℕ → ℕ
frontier_at commits server partition = number_at (vector_of commits server) partition

abbrev pub AreFrontiers : ℕ → List Entry → Numbers → Visits → List (List ℕ) → Type 0
AreFrontiers partitions trace numbers visits commits =
    (server : ℕ) → IsFrontier partitions trace numbers server (visits server) (frontier_at commits server)

-- ---- what is kept of each visit

abbrev pub Footprints : Type 0
Footprints = ℕ → ℕ → Option Footprint

abbrev pub numbers_of : Footprints → Numbers
numbers_of footprints server packet =
    option_map_or (λ (footprint : Footprint). footprint.number) (footprints server packet) 0

-- the number of the last of these visits that changes a partition, 0 where there is none
pub record IsLast (partitions : ℕ) (older : List Entry) (numbers : Numbers) (server partition number : ℕ) : Type 0 where
  pub above : (packet : ℕ) → IsChangingIn partitions older server packet partition → numbers server packet ≤ number
  pub last : 0 < number → (packet : ℕ) × IsChangingIn partitions older server packet partition
      × (numbers server packet ≡ number)

-- The footprint of a visit behind older ones: which partitions it touched, which of these it changed, and which older
-- visit was the last to change each; and what it wrote, all of it at keys that it read.
pub record IsFootprint (partitions : ℕ) (older : List Entry) (numbers : Numbers) (server : ℕ) (outcome : Outcome)
    (footprint : Footprint) : Type 0 where
  pub touched : map (λ (touched : Touched). touched.partition) footprint.touched.items
      ≡ map (λ (answer : Answer). partition_of partitions answer.key) outcome.answers
  pub changed : AllByRecursion (λ (touched : Touched). (touched.changed ≡ true)
      ↔ Changes partitions outcome touched.partition) footprint.touched.items
  pub before : AllByRecursion
      (λ (touched : Touched). IsLast partitions older numbers server touched.partition touched.before)
      footprint.touched.items
  pub writes : footprint.writes.items ≡ outcome.writes
  pub reads : (partition : ℕ) → Changes partitions outcome partition → Touches partitions outcome partition

-- each visit of the trace has its footprint
abbrev pub AreFootprints : ℕ → Footprints → List Entry → Type 0
AreFootprints partitions footprints [] = Unit {0}
AreFootprints partitions footprints (Visited server packet outcome ∷ older) =
    ((footprint : Footprint) × (footprints server packet ≡ Some footprint)
    × IsFootprint partitions older (numbers_of footprints) server outcome footprint)
    × AreFootprints partitions footprints older
AreFootprints partitions footprints (Given packet bytes ∷ older) = AreFootprints partitions footprints older

-- ---- tests by footprints

abbrev pub has_changed : Footprint → Bool
has_changed footprint = is_some_list footprint.writes.items

-- a set that reaches so far has each visit that is before this one
abbrev pub follows : Footprint → List ℕ → Bool
follows footprint vector =
    list_all (λ (touched : Touched). nat_le touched.before (number_at vector touched.partition)) footprint.touched.items

-- it has this one, which changes something
abbrev pub contains : Footprint → List ℕ → Bool
contains footprint vector =
    list_all (λ (touched : Touched). not touched.changed
    || nat_le footprint.number (number_at vector touched.partition)) footprint.touched.items

-- it has this one
abbrev pub is_had_by : Footprint → List ℕ → Bool
is_had_by footprint vector = if has_changed footprint then contains footprint vector else follows footprint vector
