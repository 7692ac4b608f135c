-- A serial run as its entries, the last of them first.
use Rattle.std.specs.Prelude.{ℕ, ◌≡◌, ◌⊎◌, List, [], ◌∷◌, length}
use Rattle.std.specs.FinMap.{get}
use Rattle.std.specs.List.{AllByRecursion}
use Rattle.ftc_base.specs.Partition.{partition_of}
use Rattle.ftc_mbox.specs.declared.rule.Rule.{Rule}
use Rattle.ftc_serial.specs.Words.{AnyOf}
use Rattle.ftc_serial.specs.Serial.{State, Entry, after}
use Rattle.ftc_serial.specs.Entries.{packet_of, IsRightEntry}
use Rattle.ftc_serial.specs.Removal.{Taken, IsTakenOut, Takes, left_of, IsLost}

-- the state to which a history leads
abbrev pub serial_state_after : List Rule → State → List Entry → State
serial_state_after rules start [] = start
serial_state_after rules start (entry ∷ older) = after (length rules) (serial_state_after rules start older) entry

-- each entry is what its step does after the older ones
abbrev pub IsHistory : List Rule → State → List Entry → Type 0
IsHistory rules start [] = Unit {0}
IsHistory rules start (entry ∷ older) = IsRightEntry rules (serial_state_after rules start older) entry
    × IsHistory rules start older

-- with a visit that is taken out go the later ones that it is before or that are of its packet, which is not released
-- later
abbrev pub IsClosedHistory : ℕ → Taken → List Entry → Type 0
IsClosedHistory partitions out [] = Unit {0}
IsClosedHistory partitions out (entry ∷ older) = AllByRecursion (λ earlier. Takes partitions out earlier entry) older
    × IsClosedHistory partitions out older

-- a visit of the packet is taken out
abbrev pub IsCut : Taken → ℕ → List Entry → Type 0
IsCut out packet run = AnyOf (λ entry. IsTakenOut out entry × (packet_of entry ≡ packet)) run

-- The states with and without the visits that are taken out differ only where one of these wrote, and in the places of
-- their packets.
pub record IsAlike (partitions : ℕ) (out : Taken) (whole left : State) (run : List Entry) : Type 0 where
  pub maps : (server : ℕ) (key : List ℕ) → (get (whole.maps server) key ≡ get (left.maps server) key)
      ⊎ IsLost partitions out server (partition_of partitions key) run
  pub place : (packet : ℕ) → (whole.place packet ≡ left.place packet) ⊎ IsCut out packet run
  pub released : whole.released ≡ left.released

-- What is left of a history is a history.
pub record IsRemovedHistory (rules : List Rule) (partitions : ℕ) (out : Taken) (start : State)
    (history : List Entry) : Type 0 where
  pub exists : IsHistory rules start (left_of out history)
  pub alike : IsAlike partitions out (serial_state_after rules start history)
      (serial_state_after rules start (left_of out history)) history
