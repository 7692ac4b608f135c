-- What the steps of a run do, one entry for each, and which partitions an entry reads and writes.
use Rattle.std.specs.Prelude.{ℕ, ◌≡◌, List, [], ◌∷◌, length, Some, None}
use Rattle.ftc_base.specs.Partition.{partition_of}
use Rattle.ftc_base.specs.declared.ask.Answer.{Answer}
use Rattle.ftc_base.specs.declared.ask.Write.{Write}
use Rattle.ftc_mbox.specs.declared.rule.Rule.{Rule}
use Rattle.ftc_serial.specs.declared.step.Step.{Step}
use Rattle.ftc_serial.specs.declared.step.Step.TheVariants.{Visit, Release}
use Rattle.ftc_serial.specs.Words.{AnyOf}
use Rattle.ftc_serial.specs.Take.{Outcome}
use Rattle.ftc_serial.specs.Serial.{State, Entry, Visited, Given, entry_of, after}

-- the step whose entry it is
abbrev pub step_of : Entry → Step
step_of (Visited server packet outcome) = Visit server packet
step_of (Given packet bytes) = Release packet

abbrev pub packet_of : Entry → ℕ
packet_of (Visited server packet outcome) = packet
packet_of (Given packet bytes) = packet

-- the entry is what its step does from this state
abbrev pub IsRightEntry : List Rule → State → Entry → Type 0
IsRightEntry rules state entry = entry_of rules state (step_of entry) ≡ Some entry

-- what the steps do, up to the first that isn't legal
abbrev pub entries : List Rule → State → List Step → List Entry
entries rules state [] = []
entries rules state (step ∷ steps) =
    elim (entry_of rules state step) [
      | None ↦ []
      | Some entry ↦ entry ∷ entries rules (after (length rules) state entry) steps
    ]

-- the visit read a key in that partition, of so many
abbrev pub Touches : ℕ → Outcome → ℕ → Type 0
Touches partitions outcome partition =
    AnyOf (λ (answer : Answer). partition_of partitions answer.key ≡ partition) outcome.answers

-- the visit wrote a key in that partition
abbrev pub WritesIn : ℕ → Outcome → ℕ → Type 0
WritesIn partitions outcome partition =
    AnyOf (λ (write : Write). partition_of partitions write.key ≡ partition) outcome.writes

-- a visit of that middlebox that touches the partition there
abbrev pub TouchesAt : ℕ → ℕ → ℕ → Entry → Type 0
TouchesAt partitions server partition (Visited visited packet outcome) =
    (visited ≡ server) × Touches partitions outcome partition
TouchesAt partitions server partition (Given packet bytes) = ⊥

-- a visit of that middlebox that writes in the partition there
abbrev pub WritesAt : ℕ → ℕ → ℕ → Entry → Type 0
WritesAt partitions server partition (Visited visited packet outcome) =
    (visited ≡ server) × WritesIn partitions outcome partition
WritesAt partitions server partition (Given packet bytes) = ⊥
